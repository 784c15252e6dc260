-- The needed commands, by one pass from the last to the first.
use Rattle.std.specs.Prelude.{ℕ, Bool, false, not, ◌||◌, ◌==◌, if◌then◌else◌, List, [], ◌∷◌, ◌++◌, drop, bytes_eq, option_to_list}
use Rattle.std.specs.List.{list_any}
use Rattle.eo_session.specs.Notes.{Act, Defines, Opens, Closes}
use Rattle.eo_run.specs.Run.{Progress}
use Rattle.eo_run.specs.Seen.{Seen}
use Rattle.eo_proof.specs.Scopes.{first_false}
use Rattle.eo_trim.specs.Needed.{premises_of, is_proof_step}

-- An open scope: the number of the command that opened it, and whether that is in another file.
pub record OpenScope : Type 0 where
  pub number : ℕ
  pub elsewhere : Bool

abbrev pub is_elsewhere : (proof : List ℕ) → Seen → Bool
is_elsewhere proof c = not (bytes_eq c.file proof)

abbrev pub opens_after : (proof : List ℕ) → List OpenScope → Seen → Act → List OpenScope
opens_after proof scopes c (Opens formula) = record { number = c.number; elsewhere = is_elsewhere proof c } ∷ scopes
opens_after proof scopes c (Closes step) = drop 1 scopes
opens_after proof scopes c act = scopes

-- the number of the innermost scope, if any
abbrev pub innermost : List OpenScope → List ℕ
innermost [] = []
innermost (s ∷ ss) = s.number ∷ []

abbrev pub contains : List ℕ → ℕ → Bool
contains ns n = list_any (λ m. m == n) ns

-- Whether a command outside all scopes is needed for what it is, and one in a scope for the scope. `later` holds what the commands after it need.
abbrev pub is_needed_in : List OpenScope → Act → (later : List ℕ) → Bool
is_needed_in [] act later = not (is_proof_step act)
is_needed_in (s ∷ ss) Defines later = contains later s.number
is_needed_in (s ∷ ss) (Closes step) later = s.elsewhere
is_needed_in (s ∷ ss) act later = false

abbrev pub is_needed : (proof : List ℕ) → List OpenScope → Seen → (later : List ℕ) → Bool
is_needed proof scopes c later = is_elsewhere proof c || contains later c.number || is_needed_in scopes c.act later

-- The numbers that these commands need, where `last` are needed at the end.
unfoldable pub needs : (proof : List ℕ) → List OpenScope → (last : List ℕ) → List Seen → List ℕ
needs proof scopes last [] = last
needs proof scopes last (c ∷ cs) =
    let later = needs proof (opens_after proof scopes c c.act) last cs in
    if is_needed proof scopes c later then c.number ∷ innermost scopes ++ (premises_of c.act ++ later) else later

-- Whether the command of this number is needed.
abbrev pub needed : (proof : List ℕ) → Progress → ℕ → Bool
needed proof final = contains (needs proof [] (option_to_list (first_false final.state.scopes)) final.seen)
