-- The case of a call, its body, and how the program represents them.
use Rattle.std.specs.Prelude.{◌≡◌, ℕ, ◌<◌, true, false, List, [], ◌∷◌, length, Option, Some, None, Result, Ok, Err, option_map, option_and_then}
use Rattle.std.specs.Option.{option_or}
use Rattle.eo_term.specs.Tree.{Tree, is_tall}
use Rattle.eo_term.specs.Terms.{Terms, tree_at}
use Rattle.eo_term.specs.declared.table.TermRefused.{TermRefused}
use Rattle.eo_term.specs.declared.table.TermRefused.TheVariants as term
use Rattle.eo_sig.specs.Signature.{Signature, Case, program_at}
use Rattle.eo_pattern.specs.Matching.{Assignment, empty, matching}
use Rattle.eo_pattern.specs.Slots.{Slots, held, AreBelow}
use Rattle.eo_stack.specs.Evaluation.{Call}

-- the values of the parameters of the first case whose patterns match, and its body
abbrev pub first_case : List Case → List Tree → Option (Assignment × Tree)
first_case [] vs = None
first_case (c ∷ cs) vs = option_or (option_map (λ σ. (σ, c.body)) (matching empty c.patterns vs)) (first_case cs vs)

abbrev pub chosen_case : Signature → Call → Option (Assignment × Tree)
chosen_case S c = option_and_then (λ p. first_case p.cases c.arguments) (program_at S c.program)

abbrev pub assigned : Option (Assignment × Tree) → Assignment
assigned None = empty
assigned (Some r) = r.0

-- the values of the parameters of a call's case
abbrev pub assignment_of : Signature → Call → Assignment
assignment_of S c = assigned (chosen_case S c)

-- the body that is found, whose parameters have the values that are held
pub record IsFound (t : Terms) (s : Slots) (chosen : Option (Assignment × Tree)) (i : ℕ) : Type 0 where
  pub live : i < length t.trees
  pub case : chosen ≡ Some (held t.trees s, tree_at t.trees i)
  pub below : AreBelow (length t.trees) s

abbrev pub Finds : Terms → Slots → Option ℕ → Option (Assignment × Tree) → Type 0
Finds t s (Some i) chosen = IsFound t s chosen i
Finds t s None chosen = chosen ≡ None

-- the body, with the parameters substituted
pub record IsBody (t : Terms) (body : Option Tree) (i : ℕ) : Type 0 where
  pub live : i < length t.trees
  pub tree : body ≡ Some (tree_at t.trees i)
  pub low : is_tall (tree_at t.trees i) ≡ false

abbrev pub IsTallBody : Option Tree → Type 0
IsTallBody body = (u : Tree) × ((body ≡ Some u) × (is_tall u ≡ true))

abbrev pub MakesBody : Terms → Result ℕ TermRefused → Option Tree → Type 0
MakesBody t (Ok i) body = IsBody t body i
MakesBody t (Err term.Tall) body = IsTallBody body
MakesBody t (Err (term.Memory e)) body = Unit {0}
