-- What the program returns, by the outcome of typing.
use Rattle.std.specs.Prelude.{◌≡◌, ℕ, ◌<◌, length, Option, Some, None, Result, Ok, Err}
use Rattle.eo_term.specs.declared.table.TermRefused.{TermRefused}
use Rattle.eo_term.specs.declared.table.TermRefused.TheVariants as term
use Rattle.eo_term.specs.Tree.{Tree}
use Rattle.eo_term.specs.Growth.{Grows}
use Rattle.eo_term.specs.Terms.{Terms, tree_at}
use Rattle.eo_type.specs.declared.refused.TypeRefused.{TypeRefused}
use Rattle.eo_type.specs.declared.refused.TypeRefused.TheVariants as refused
use Rattle.eo_type.specs.declared.refused.Stop.{Stop}
use Rattle.eo_type.specs.declared.refused.Stop.TheVariants as stop
use Rattle.eo_type.specs.Types.{TypeOutcome, Typed, Untyped, TypeRange, TypeTall, on_typed}

-- the id is that of a term that is there, and this is the outcome
pub record IsTyped (t : Terms) (o : TypeOutcome Tree) (i : ℕ) : Type 0 where
  pub live : i < length t.trees
  pub typed : o ≡ Typed (tree_at t.trees i)

-- a walk that stops so has this outcome. There may be no memory left whatever the outcome is.
abbrev pub Stops : {A : Type 0} → Stop → TypeOutcome A → Type 0
Stops stop.Untyped o = o ≡ Untyped
Stops stop.NumberRange o = o ≡ TypeRange
Stops stop.Tall o = o ≡ TypeTall
Stops (stop.Memory e) o = Unit {0}

-- a walk gives this outcome: the id of its term, or what stops it
abbrev pub Gives : Terms → Result ℕ Stop → TypeOutcome Tree → Type 0
Gives t (Ok i) o = IsTyped t o i
Gives t (Err e) o = Stops e o

-- the same, over a table that has grown
pub record Yields (old new : Terms) (result : Result ℕ Stop) (o : TypeOutcome Tree) : Type 0 where
  pub gives : Gives new result o
  pub grows : Grows old new

-- two walks, the first one first
abbrev pub GivesBoth : Terms → Result (ℕ × ℕ) Stop → TypeOutcome Tree → TypeOutcome Tree → Type 0
GivesBoth t (Ok r) o p = IsTyped t o r.0 × IsTyped t p r.1
GivesBoth t (Err e) o p = Stops e (on_typed o (λ _. p))

-- the result for a caller is this outcome
abbrev pub Answers : Terms → Result (Option ℕ) TypeRefused → TypeOutcome Tree → Type 0
Answers t (Ok (Some i)) o = IsTyped t o i
Answers t (Ok None) o = o ≡ Untyped
Answers t (Err refused.NumberRange) o = o ≡ TypeRange
Answers t (Err refused.Tall) o = o ≡ TypeTall
Answers t (Err (refused.Memory e)) o = Unit {0}

-- a term that was not made stops a walk
abbrev pub of_term : TermRefused → Stop
of_term term.Tall = stop.Tall
of_term (term.Memory e) = stop.Memory e

-- the result is that a type is too tall
abbrev pub IsTall : {X : Type 0} → Result X TypeRefused → Type 0
IsTall (Ok x) = ⊥
IsTall (Err refused.NumberRange) = ⊥
IsTall (Err refused.Tall) = Unit {0}
IsTall (Err (refused.Memory e)) = ⊥
