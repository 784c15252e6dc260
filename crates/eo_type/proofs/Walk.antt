-- How what stops a part stops the whole.
use Rattle.std.proofs.Common.{◌≡◌, ℕ, sym, ap, subst}
use Rattle.std.specs.Prelude.{Result, Ok, Err}
use Rattle.std.specs.Result.{IsErrAnd}
use Rattle.eo_term.specs.Tree.{Tree}
use Rattle.eo_term.specs.Terms.{Terms}
use Rattle.eo_type.specs.declared.refused.Stop.{Stop}
use Rattle.eo_type.specs.declared.refused.Stop.TheVariants as stop
use Rattle.eo_type.specs.declared.refused.TypeRefused.{TypeRefused}
use Rattle.eo_type.specs.declared.refused.TypeRefused.TheVariants as refused
use Rattle.eo_type.specs.Types.{TypeOutcome, on_typed}
use Rattle.eo_type.specs.Outcomes.{Stops, Gives, Answers}

-- what stops a part stops the whole
pub stops_first : {A B : Type 0} (e : Stop) (o : TypeOutcome A) (go : A → TypeOutcome B) → Stops e o → Stops e (on_typed o go)
stops_first stop.Untyped o go h = ap (λ p. on_typed p go) h
stops_first stop.NumberRange o go h = ap (λ p. on_typed p go) h
stops_first stop.Tall o go h = ap (λ p. on_typed p go) h
stops_first (stop.Memory a) o go h = tt

-- the exit of a `?` gives what stops it
pub gives_stop : (t : Terms) (r : Result ℕ Stop) (o : TypeOutcome Tree) (e : Stop) → IsErrAnd r (λ s. s ≡ e) → Stops e o → Gives t r o
gives_stop t (Ok i) o e q h = absurd q
gives_stop t (Err s) o e q h = subst (λ u. Stops u o) (sym q) h

-- a refusal is right over any table
pub answers_err : (t u : Terms) (e : TypeRefused) (o : TypeOutcome Tree) → Answers t (Err e) o → Answers u (Err e) o
answers_err t u refused.NumberRange o h = h
answers_err t u refused.Tall o h = h
answers_err t u (refused.Memory e) o h = tt
