-- What each command and the beginning of a reference file keep, a run keeps.
use Rattle.std.specs.Prelude.{◌≡◌, ℕ, zero, suc, Bool, true, false, List, [], ◌∷◌, ◌++◌, Option, Some, None, Result, Ok, Err, refl, if◌then◌else◌, bytes_eq}
use Rattle.std.specs.List.{list_any}
use Rattle.std.proofs.Common.{subst, ap}
use Rattle.std.proofs.lemmas.Option.{same_Some, none-some}
use Rattle.eo_base.specs.declared.FaultName.{FaultName}
use Rattle.eo_base.specs.declared.FaultName.TheVariants.{IncludeDepth}
use Rattle.eo_base.specs.Checks.{Checked}
use Rattle.eo_io.specs.Library.{Files}
use Rattle.eo_sexp.specs.Spot.{Spot}
use Rattle.eo_sexp.specs.Sexp.{Sexp}
use Rattle.eo_sexp.specs.ReadNames.{AllCommands}
use Rattle.eo_sexp.specs.Texts.{Reads, Then, Ends, Fails}
use Rattle.eo_session.specs.State.{State, begin_reference}
use Rattle.eo_session.specs.Commands.{step}
use Rattle.eo_io.specs.Paths.{with_path}
use Rattle.eo_run.specs.Seen.{Seen, noted}
use Rattle.eo_run.specs.Run.{Progress, Stopped, Ran, Opener, Runner, seen_next, with_command, with_opened, with_included, ◌>>=◌, placed, or_fault, stopped_at, is_exit, run_commands, open_nothing, run_reference, include_file, refer_to_file, open_file, run_file, included_runner, include_limit, commands_of, prelude_path, run_prelude, run_signature, run_proof, run_job_reference, if_given}
use Rattle.eo_session.specs.Origin.{Origin}
use Rattle.eo_session.specs.Origin as origin
use Rattle.eo_session.specs.declared.Next.{Next}
use Rattle.eo_session.specs.declared.Next.TheVariants as next

-- ---- what a run that goes on says of its parts

pub run_err : {A : Type 0} (stopped : Stopped) (y : A) → ◌≡◌ {A = Result A Stopped} (Err stopped) (Ok y) → ⊥
run_err stopped y e = cc e

pub run_ok : {A : Type 0} (x y : A) → ◌≡◌ {A = Result A Stopped} (Ok x) (Ok y) → x ≡ y
run_ok x y e = cc e

pub run_bind : {A B : Type 0} (m : Result A Stopped) (f : A → Result B Stopped) (y : B) → (m >>= f) ≡ Ok y → (x : A) × (m ≡ Ok x) × (f x ≡ Ok y)
unfolding ◌>>=◌
run_bind (Ok x) f y e = (x, refl, e)
run_bind (Err r) f y e = absurd (run_err r y e)

pub placed_ok : {A : Type 0} (p : Progress) (path : List ℕ) (at : Spot) (m : Checked A) (x : A) → placed p path at m ≡ Ok x → m ≡ Ok x
unfolding placed
placed_ok p path at (Ok y) x e = ap (λ z. Ok z) (run_ok y x e)
placed_ok p path at (Err fault) x e = absurd (run_err (stopped_at p path at fault) x e)

or_fault_ok : {A : Type 0} (p : Progress) (path : List ℕ) (at : Spot) (name : FaultName) (o : Option A) (x : A) → or_fault p path at name o ≡ Ok x → o ≡ Some x
unfolding or_fault
or_fault_ok p path at name (Some y) x e = ap Some (run_ok y x e)
or_fault_ok p path at name None x e = absurd (run_err (stopped_at p path at name) x e)

-- what holds of each s-expression holds of each command
pub any_commands : (R : Sexp → Type 0) → ((s : Sexp) → R s) → (reads : Reads) → AllCommands R reads
any_commands R all (Then first others) = (all first.sexp, any_commands R all others)
any_commands R all (Ends at) = tt
any_commands R all (Fails name at) = tt

-- P, which holds of the state and of the commands that were accepted, is kept by commands of the origins that are allowed, of which R holds as they were read, and by the beginning of a reference file
pub record Keeping (P : State → List Seen → Type 0) (Allowed : Origin → Type 0) (R : Sexp → Type 0) : Type 0 where
  pub read : (proof : Bool) (bytes : List ℕ) → AllCommands R (commands_of proof bytes)
  pub steps : (st : State) (before : List Seen) (from : Origin) (s : Sexp) (k : Seen) (r : State × Next) → Allowed from → R s → k.act ≡ noted st from s → P st before → step st from s ≡ Ok r → P r.0 (before ++ k ∷ [])
  pub begins : (st new : State) (before : List Seen) → P st before → begin_reference st ≡ Ok new → P new before
  pub reference : Allowed origin.Reference

module _ (P : State → List Seen → Type 0) (Allowed : Origin → Type 0) (R : Sexp → Type 0) (keeping : Keeping P Allowed R) where
  abbrev Opens : Opener → Type 0
  Opens opener = (path : List ℕ) (from : Origin) (at : Spot) (what : Next) (p q : Progress) → Allowed from → P p.state p.seen → opener path from at what p ≡ Ok q → P q.state q.seen

  abbrev Runs : Runner → Type 0
  Runs run = (path : List ℕ) (from : Origin) (bytes : List ℕ) (p q : Progress) → Allowed from → P p.state p.seen → run path from bytes p ≡ Ok q → P q.state q.seen

  same_keeps : (p q : Progress) → P p.state p.seen → ◌≡◌ {A = Ran} (Ok p) (Ok q) → P q.state q.seen
  same_keeps p q h e = subst (λ (x : Progress). P x.state x.seen) (run_ok p q e) h

  unless : (b : Bool) (p q : Progress) (others : Ran) → P p.state p.seen → (others ≡ Ok q → P q.state q.seen) → (if b then Ok p else others) ≡ Ok q → P q.state q.seen
  unless true p q others h onward e = same_keeps p q h e
  unless false p q others h onward e = onward e

  commands_keep : (opener : Opener) → Opens opener → (path : List ℕ) (from : Origin) (reads : Reads) (p q : Progress) → AllCommands R reads → Allowed from → P p.state p.seen → run_commands opener path from reads p ≡ Ok q → P q.state q.seen
  unfolding run_commands
  commands_keep opener opens path from (Ends at) p q read al h e = same_keeps p q h e
  commands_keep opener opens path from (Fails name at) p q read al h e = absurd (run_err (stopped_at p path at name) q e)
  commands_keep opener opens path from (Then c others) p q read al h e =
      let r = run_bind _ _ q e in
      let mid = run_bind _ _ q r.2 in
      let stepped = keeping.steps p.state p.seen from c.sexp (seen_next p path from c) r.0 al read.0 refl h (placed_ok p path c.start (step p.state from c.sexp) r.0 r.1) in
      let here = opens path from c.start r.0.1 (with_command p (seen_next p path from c) r.0.0) mid.0 al stepped mid.1 in
      unless (is_exit r.0.1) mid.0 q _ here (λ k. commands_keep opener opens path from others mid.0 q read.1 al here k) mid.2

  reference_keeps : (path bytes : List ℕ) (p q : Progress) → P p.state p.seen → run_reference path bytes p ≡ Ok q → P q.state q.seen
  unfolding run_reference
  reference_keeps path bytes p q h e =
      commands_keep open_nothing (λ path from at what p q al h k. same_keeps p q h k) path origin.Reference _ p q (keeping.read false bytes) keeping.reference h e

  module _ (files : Files) where
    abbrev Deeper : Option Runner → Type 0
    Deeper deeper = (run : Runner) → deeper ≡ Some run → Runs run

    include_keeps : (deeper : Option Runner) → Deeper deeper → (path : List ℕ) (from : Origin) (at : Spot) (file : List ℕ) (p q : Progress) → Allowed from → P p.state p.seen → include_file files deeper path from at file p ≡ Ok q → P q.state q.seen
    unfolding include_file
    include_keeps deeper runs path from at file p q al h e =
        unless (list_any (bytes_eq file) p.included) p q _ h
        (λ k. let run = run_bind _ _ q k in
        let bytes = run_bind _ _ q run.2 in
        runs run.0 (or_fault_ok p path at IncludeDepth deeper run.0 run.1) file from bytes.0 (with_included p file) q al h bytes.2) e

    refer_keeps : (path : List ℕ) (at : Spot) (file : List ℕ) (p q : Progress) → P p.state p.seen → refer_to_file files path at file p ≡ Ok q → P q.state q.seen
    unfolding refer_to_file
    refer_keeps path at file p q h e =
        let st = run_bind _ _ q e in
        let bytes = run_bind _ _ q st.2 in
        reference_keeps file bytes.0 (record (with_opened p file) { state = st.0 }) q (keeping.begins p.state st.0 p.seen h (placed_ok p path at (begin_reference p.state) st.0 st.1)) bytes.2

    open_keeps : (deeper : Option Runner) → Deeper deeper → Opens (open_file files deeper)
    unfolding open_file
    open_keeps deeper runs path from at next.Done p q al h e = same_keeps p q h e
    open_keeps deeper runs path from at (next.Include name) p q al h e = let file = run_bind _ _ q e in include_keeps deeper runs path from at file.0 p q al h file.2
    open_keeps deeper runs path from at (next.Reference name) p q al h e = let file = run_bind _ _ q e in refer_keeps path at file.0 p q h file.2
    open_keeps deeper runs path from at next.Exit p q al h e = same_keeps p q h e

    file_keeps : (deeper : Option Runner) → Deeper deeper → (proof : Bool) → Runs (run_file files deeper proof)
    unfolding run_file
    file_keeps deeper runs proof path from bytes p q al h e = commands_keep (open_file files deeper) (open_keeps deeper runs) path from _ p q (keeping.read proof bytes) al h e

    included_keeps : (left : ℕ) → Deeper (included_runner files left)
    unfolding included_runner
    included_keeps zero run e = absurd (none-some run e)
    included_keeps (suc left) run e = subst Runs (same_Some (run_file files (included_runner files left) false) run e) (file_keeps (included_runner files left) (included_keeps left) false)

    -- ---- the files of a job

    pub signature_keeps : Allowed origin.Signature → (name : List ℕ) (p q : Progress) → P p.state p.seen → run_signature files name p ≡ Ok q → P q.state q.seen
    unfolding run_signature
    signature_keeps al name p q h e =
        let file = run_bind _ _ q e in file_keeps (included_runner files include_limit) (included_keeps include_limit) false file.0.0 origin.Signature file.0.1 (with_opened p file.0.0) q al h file.2

    pub prelude_keeps : Allowed origin.Signature → (prelude : Option (List ℕ)) (p q : Progress) → P p.state p.seen → run_prelude files prelude p ≡ Ok q → P q.state q.seen
    unfolding run_prelude
    prelude_keeps al None p q h e = same_keeps p q h e
    prelude_keeps al (Some bytes) p q h e =
        file_keeps (included_runner files include_limit) (included_keeps include_limit) false prelude_path origin.Signature bytes (record p { included = with_path p.included prelude_path }) q al h e

    pub proof_keeps : Allowed origin.Proof → (name : List ℕ) (p q : Progress) → P p.state p.seen → run_proof files name p ≡ Ok q → P q.state q.seen
    unfolding run_proof
    proof_keeps al name p q h e =
        let file = run_bind _ _ q e in file_keeps (included_runner files include_limit) (included_keeps include_limit) true file.0.0 origin.Proof file.0.1 p q al h file.2

    pub job_reference_keeps : (name : List ℕ) (p q : Progress) → P p.state p.seen → run_job_reference files name p ≡ Ok q → P q.state q.seen
    unfolding run_job_reference
    job_reference_keeps name p q h e =
        let st = run_bind _ _ q e in
        let file = run_bind _ _ q st.2 in
        reference_keeps file.0.0 file.0.1 (record (with_opened p file.0.0) { state = st.0 }) q (keeping.begins p.state st.0 p.seen h (placed_ok _ _ _ (begin_reference p.state) st.0 st.1)) file.2

    pub given_keeps : (run : List ℕ → Progress → Ran) (given : Option (List ℕ)) (p q : Progress) → ((name : List ℕ) → run name p ≡ Ok q → P q.state q.seen) → P p.state p.seen → if_given run given p ≡ Ok q → P q.state q.seen
    given_keeps run None p q keeps h e = same_keeps p q h e
    given_keeps run (Some name) p q keeps h e = keeps name e
