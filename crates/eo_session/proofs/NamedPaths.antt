-- The paths that commands name, and what is done after a command.
use Rattle.std.proofs.Common.{◌≡◌, refl, ℕ, Bool, true, false, not, List, Bor, ap, ◌∙◌}
use Rattle.std.specs.Prelude.{◌≢◌, Ok, Err}
use Rattle.std.specs.Str.{is_utf8, IsUtf8}
use Rattle.std.proofs.lemmas.Str.{IsUtf8-from_is_utf8, is_utf8-from_IsUtf8}
use Rattle.eo_base.specs.declared.FaultName.{FaultName}
use Rattle.eo_base.specs.declared.FaultName.TheVariants.{BadPath, SecondReference}
use Rattle.eo_base.specs.Checks.{Checked, ◌>>=◌, require}
use Rattle.eo_lit.specs.Literals.{string_bytes}
use Rattle.eo_shape.specs.Shapes.{Command, Include, Refer}
use Rattle.eo_shape.specs.Reading.{read_command}
use Rattle.eo_shape.specs.declared.Command as code
use Rattle.eo_shape.specs.declared.Command.TheVariants as command
use Rattle.eo_session.specs.State.{State}
use Rattle.eo_session.specs.Commands.{path_of, reference_path, next_by}
use Rattle.eo_session.specs.Stepping.{Refuses}
use Rattle.eo_session.specs.declared.Next.{Next}
use Rattle.eo_session.specs.declared.Next.TheVariants as next
use Rattle.eo_session.specs.declared.refused.Refused.{Refused}
use Rattle.eo_session.proofs.Sessions.{refuses_on}

-- ---- a path

module _ (written : List ℕ) where
  abbrev by_text : Bool → Checked (List ℕ)
  by_text b = require b BadPath >>= λ _. Ok (string_bytes written)

  pub path_text : IsUtf8 (string_bytes written) → path_of written ≡ Ok (string_bytes written)
  unfolding path_of require ◌>>=◌
  path_text is = ap by_text (is_utf8-from_IsUtf8 (string_bytes written) is)

  pub path_no_text : ¬ (IsUtf8 (string_bytes written)) → path_of written ≡ Err BadPath
  unfolding path_of require ◌>>=◌
  path_no_text bytes = by (is_utf8 (string_bytes written)) refl
    where
      by : (b : Bool) → is_utf8 (string_bytes written) ≡ b → by_text b ≡ Err BadPath
      by true e = absurd (bytes (IsUtf8-from_is_utf8 (string_bytes written) e))
      by false e = refl

module _ (st : State) (written : List ℕ) where
  abbrev by_reference : Bool → Checked (List ℕ)
  by_reference b = require (not b) SecondReference >>= λ _. path_of written

  pub reference-second : st.has_reference ≡ true → reference_path st written ≡ Err SecondReference
  unfolding reference_path require ◌>>=◌
  reference-second e = ap by_reference e

  pub reference-first : st.has_reference ≡ false → reference_path st written ≡ path_of written
  unfolding reference_path require ◌>>=◌
  reference-first e = ap by_reference e

-- ---- what is done after a command that names a file

module _ (st : State) (k : Command) (written : List ℕ) where
  module _ (e : k ≡ Include written) where
    abbrev by_path : Checked (List ℕ) → Checked Next
    by_path m = m >>= λ path. Ok (next.Include path)

    include-is : next_by st k ≡ by_path (path_of written)
    unfolding next_by
    include-is = ap (next_by st) e

    pub include-next : (path : List ℕ) → path_of written ≡ Ok path → next_by st k ≡ Ok (next.Include path)
    unfolding ◌>>=◌
    include-next path h = include-is ∙ ap by_path h

    include-fault : (name : FaultName) → path_of written ≡ Err name → next_by st k ≡ Err name
    unfolding ◌>>=◌
    include-fault name h = include-is ∙ ap by_path h

    pub include-stops : (x : Refused) → Refuses (path_of written) x → Refuses (next_by st k) x
    include-stops x h = refuses_on (path_of written) (next_by st k) x h include-fault

  module _ (e : k ≡ Refer written) where
    abbrev by_named : Checked (List ℕ) → Checked Next
    by_named m = m >>= λ path. Ok (next.Reference path)

    refer-is : next_by st k ≡ by_named (reference_path st written)
    unfolding next_by
    refer-is = ap (next_by st) e

    pub refer-next : (path : List ℕ) → reference_path st written ≡ Ok path → next_by st k ≡ Ok (next.Reference path)
    unfolding ◌>>=◌
    refer-next path h = refer-is ∙ ap by_named h

    refer-fault : (name : FaultName) → reference_path st written ≡ Err name → next_by st k ≡ Err name
    unfolding ◌>>=◌
    refer-fault name h = refer-is ∙ ap by_named h

    pub refer-stops : (x : Refused) → Refuses (reference_path st written) x → Refuses (next_by st k) x
    refer-stops x h = refuses_on (reference_path st written) (next_by st k) x h refer-fault

-- and after each other one
pub next-done : (st : State) (k : code.Command) → ((x : Bor (List ℕ)) → k ≢ command.Include x) → ((x : Bor (List ℕ)) → k ≢ command.Refer x) → k ≢ command.Exit → next_by st (read_command k) ≡ Ok next.Done
unfolding next_by
next-done st (command.Include x) a b d = absurd (a x refl)
next-done st (command.Refer x) a b d = absurd (b x refl)
next-done st command.Exit a b d = absurd (d refl)
next-done st k a b d = refl

-- a file ends
pub next-exit : (st : State) (k : code.Command) → k ≡ command.Exit → next_by st (read_command k) ≡ Ok next.Exit
unfolding next_by
next-exit st k e = ap (λ (k : code.Command). next_by st (read_command k)) e
