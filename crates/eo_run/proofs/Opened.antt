-- What is done after a command that asks for a file.
use Rattle.std.proofs.Common.{◌≡◌, refl, ℕ, zero, suc, Bool, true, false, List, ap, sym, ◌∙◌}
use Rattle.std.specs.Prelude.{Ok, Err, Option, Some, None, if◌then◌else◌, bytes_eq}
use Rattle.std.specs.List.{list_any}
use Rattle.eo_base.specs.declared.FaultName.{FaultName}
use Rattle.eo_base.specs.declared.FaultName.TheVariants.{BadPath, IncludeDepth, FileAbsent}
use Rattle.eo_base.specs.Checks.{Checked}
use Rattle.eo_io.specs.Library.{Files, file_at}
use Rattle.eo_io.specs.Paths.{fold_path}
use Rattle.eo_sexp.specs.Spot.{Spot}
use Rattle.eo_session.specs.State.{State, begin_reference}
use Rattle.eo_run.specs.Run.{Progress, Ran, Runner, ◌>>=◌, placed, or_fault, stopped_at, with_opened, commands_of, run_commands, open_nothing, run_reference, with_included, include_file, refer_to_file, open_file, run_file, included_runner}
use Rattle.eo_run.specs.Reading.{IsOpener}
use Rattle.eo_run.specs.Opening.{opener_of}
use Rattle.eo_session.specs.Origin.{Origin}
use Rattle.eo_session.specs.Origin as origin
use Rattle.eo_session.specs.declared.Next.TheVariants as next

pub nothing-is : IsOpener open_nothing
nothing-is = λ path from at p. refl

module _ (files : Files) where
  -- nothing is done where nothing is asked for
  pub opener-is : (opens : ℕ) → IsOpener (opener_of files opens)
  unfolding open_file
  opener-is zero = λ path from at p. refl
  opener-is (suc left) = λ path from at p. refl

  module _ (left : ℕ) (path : List ℕ) (from : Origin) (at : Spot) (name : List ℕ) (p : Progress) where
    abbrev included : Option (List ℕ) → Ran
    included o = or_fault p path at BadPath o >>= λ file. include_file files (included_runner files left) path from at file p

    abbrev referred : Option (List ℕ) → Ran
    referred o = or_fault p path at BadPath o >>= λ file. refer_to_file files path at file p

    -- ---- a path that is none

    pub include-bad : fold_path path name ≡ None → opener_of files (suc left) path from at (next.Include name) p ≡ Err (stopped_at p path at BadPath)
    unfolding open_file or_fault ◌>>=◌
    include-bad e = ap included e

    pub refer-bad : fold_path path name ≡ None → opener_of files (suc left) path from at (next.Reference name) p ≡ Err (stopped_at p path at BadPath)
    unfolding open_file or_fault ◌>>=◌
    refer-bad e = ap referred e

    -- ---- a file that is included

    module _ (file : List ℕ) (folds : fold_path path name ≡ Some file) where
      include-is : opener_of files (suc left) path from at (next.Include name) p ≡ include_file files (included_runner files left) path from at file p
      unfolding open_file or_fault ◌>>=◌
      include-is = ap included folds

      abbrev opened : Option Runner → Option (List ℕ) → Ran
      opened deeper o = or_fault p path at IncludeDepth deeper >>= λ run. or_fault p path at FileAbsent o >>= λ bytes. run file from bytes (with_included p file)

      abbrev by_test : Bool → Ran
      by_test b = if b then Ok p else opened (included_runner files left) (file_at files file)

      pub include-again : list_any (bytes_eq file) p.included ≡ true → opener_of files (suc left) path from at (next.Include name) p ≡ Ok p
      unfolding include_file
      include-again e = include-is ∙ ap by_test e

      module _ (new : list_any (bytes_eq file) p.included ≡ false) where
        pub include-deep : left ≡ 0 → opener_of files (suc left) path from at (next.Include name) p ≡ Err (stopped_at p path at IncludeDepth)
        unfolding include_file included_runner or_fault ◌>>=◌
        include-deep e = include-is ∙ ap by_test new ∙ ap (λ n. opened (included_runner files n) (file_at files file)) e

        module _ (more : ℕ) (room : left ≡ suc more) where
          include-opens : opener_of files (suc left) path from at (next.Include name) p ≡ opened (included_runner files (suc more)) (file_at files file)
          unfolding include_file
          include-opens = include-is ∙ ap by_test new ∙ ap (λ n. opened (included_runner files n) (file_at files file)) room

          pub include-absent : file_at files file ≡ None → opener_of files (suc left) path from at (next.Include name) p ≡ Err (stopped_at p path at FileAbsent)
          unfolding included_runner or_fault ◌>>=◌
          include-absent e = include-opens ∙ ap (opened (included_runner files (suc more))) e

          -- it is run as a file of this kind, with what it may open
          pub include-runs : (bytes : List ℕ) → file_at files file ≡ Some bytes → opener_of files (suc left) path from at (next.Include name) p ≡ run_commands (opener_of files left) file from (commands_of false bytes) (with_included p file)
          unfolding included_runner run_file or_fault ◌>>=◌
          include-runs bytes e =
              include-opens ∙ ap (opened (included_runner files (suc more))) e
              ∙ ap (λ n. run_commands (opener_of files n) file from (commands_of false bytes) (with_included p file)) (sym room)

    -- ---- a reference file

    module _ (file : List ℕ) (folds : fold_path path name ≡ Some file) where
      abbrev found : State → Option (List ℕ) → Ran
      found st o = or_fault p path at FileAbsent o >>= λ bytes. run_reference file bytes (record (with_opened p file) { state = st })

      abbrev begun : Checked State → Ran
      begun m = placed p path at m >>= λ st. found st (file_at files file)

      refer-is : opener_of files (suc left) path from at (next.Reference name) p ≡ begun (begin_reference p.state)
      unfolding open_file refer_to_file or_fault ◌>>=◌
      refer-is = ap referred folds

      pub refer-second : (fault : FaultName) → begin_reference p.state ≡ Err fault → opener_of files (suc left) path from at (next.Reference name) p ≡ Err (stopped_at p path at fault)
      unfolding placed ◌>>=◌
      refer-second fault e = refer-is ∙ ap begun e

      module _ (st : State) (begins : begin_reference p.state ≡ Ok st) where
        refer-begun : opener_of files (suc left) path from at (next.Reference name) p ≡ found st (file_at files file)
        unfolding placed ◌>>=◌
        refer-begun = refer-is ∙ ap begun begins

        pub refer-absent : file_at files file ≡ None → opener_of files (suc left) path from at (next.Reference name) p ≡ Err (stopped_at p path at FileAbsent)
        unfolding or_fault ◌>>=◌
        refer-absent e = refer-begun ∙ ap (found st) e

        -- it is run as a reference file, which opens no other
        pub refer-runs : (bytes : List ℕ) → file_at files file ≡ Some bytes → opener_of files (suc left) path from at (next.Reference name) p ≡ run_commands (opener_of files 0) file origin.Reference (commands_of false bytes) (record (with_opened p file) { state = st })
        unfolding run_reference or_fault ◌>>=◌
        refer-runs bytes e = refer-begun ∙ ap (found st) e
