-- The commands of a proof that its refutation needs.
use Rattle.std.specs.Prelude.{◌≡◌, ◌≢◌, ℕ, Bool, true, false, if◌then◌else◌, List, [], ◌∷◌, ◌++◌, drop, Some, slice_get, bytes_eq, Contains, ◌↔◌}
use Rattle.eo_proof.specs.Scopes.{first_false}
use Rattle.eo_session.specs.Notes.{Act, Defines, Assumes, Opens, Derives, Closes, StepNote}
use Rattle.eo_run.specs.Run.{Progress}
use Rattle.eo_run.specs.Seen.{Seen}

-- ---- scopes

-- The open scopes after a command, each by the number of the command that opened it, the innermost first.
abbrev pub scopes_after : List ℕ → (number : ℕ) → Act → List ℕ
scopes_after scopes number (Opens formula) = number ∷ scopes
scopes_after scopes number (Closes step) = drop 1 scopes
scopes_after scopes number act = scopes

-- the same after several
abbrev pub scopes_after_all : List ℕ → List Seen → List ℕ
scopes_after_all scopes [] = scopes
scopes_after_all scopes (c ∷ cs) = scopes_after_all (scopes_after scopes c.number c.act) cs

-- ---- what a command needs

abbrev pub premises_of : Act → List ℕ
premises_of (Derives step) = step.premises
premises_of (Closes step) = step.premises
premises_of act = []

-- an assumption, a step, or the beginning or the end of a scope
abbrev pub is_proof_step : Act → Bool
is_proof_step (Assumes formula) = true
is_proof_step (Opens formula) = true
is_proof_step (Derives step) = true
is_proof_step (Closes step) = true
is_proof_step act = false

-- A command of a run, with those before it.
pub record IsAt (seen : List Seen) (before : List Seen) (c : Seen) : Type 0 where
  pub after : List Seen
  pub is : seen ≡ before ++ c ∷ after

-- The needed commands, by their numbers: the least set with these.
pub data Needed (proof : List ℕ) (final : Progress) : ℕ → Type 0 where
  -- every command of another file
  in_other_file : (before : List Seen) (c : Seen) → IsAt final.seen before c → c.file ≢ proof → Needed proof final c.number
  -- every command outside all scopes that is no step of the proof
  is_declared : (before : List Seen) (c : Seen) → IsAt final.seen before c → scopes_after_all [] before ≡ [] → is_proof_step c.act ≡ false → Needed proof final c.number
  -- the one that made the first `false`
  refutes : (n : ℕ) → first_false final.state.scopes ≡ Some n → Needed proof final n
  -- with a step, those that made its premises
  is_premise : (before : List Seen) (c : Seen) → IsAt final.seen before c → Needed proof final c.number → (n : ℕ) → Contains (premises_of c.act) n → Needed proof final n
  -- with a command in a scope, the one that opened the scope; its end comes by the next
  opens_scope : (before : List Seen) (c : Seen) → IsAt final.seen before c → Needed proof final c.number → (n : ℕ) → slice_get (scopes_after_all [] before) 0 ≡ Some n → Needed proof final n
  -- with the command that opened a scope, the one that closes it
  closes_scope : (before : List Seen) (c : Seen) (step : StepNote) → IsAt final.seen before c → c.act ≡ Closes step → (n : ℕ) → slice_get (scopes_after_all [] before) 0 ≡ Some n → Needed proof final n → Needed proof final c.number
  -- and every macro that is defined directly in the scope
  is_defined : (before : List Seen) (c : Seen) → IsAt final.seen before c → c.act ≡ Defines → (n : ℕ) → slice_get (scopes_after_all [] before) 0 ≡ Some n → Needed proof final n → Needed proof final c.number

-- A set of numbers that holds just the needed commands.
abbrev pub IsNeeded : List ℕ → Progress → (ℕ → Bool) → Type 0
IsNeeded proof final holds = (n : ℕ) → (holds n ≡ true) ↔ Needed proof final n

-- ---- the trimmed proof

-- The bytes of the proof's needed commands in order, each followed by a line feed.
abbrev pub trimmed : (proof : List ℕ) → (ℕ → Bool) → List Seen → List ℕ
trimmed proof holds [] = []
trimmed proof holds (c ∷ cs) =
    if bytes_eq c.file proof then (if holds c.number then c.bytes ++ 10 ∷ trimmed proof holds cs else trimmed proof holds cs) else trimmed proof holds cs
