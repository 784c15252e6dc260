-- What the calls on facts return.
use Rattle.std.specs.Prelude.{◌≡◌, ℕ, ◌<◌, ◌≤◌, true, false, List, Option, Some, None, Result, Ok, Err, ⊤}
use Rattle.eo_term.specs.Tree.{Tree}
use Rattle.eo_term.specs.Terms.{tree_at}
use Rattle.eo_proof.specs.declared.facts.FactRefused.{FactRefused}
use Rattle.eo_proof.specs.declared.facts.FactRefused.TheVariants as refused
use Rattle.eo_proof.specs.declared.facts.NoScope.{NoScope}
use Rattle.eo_proof.specs.declared.facts.UnknownPremise.{UnknownPremise}
use Rattle.eo_proof.specs.Scopes.{Scopes, is_live, depth, scope_limit, with_fact, with_scope, outside, innermost_hypothesis}

-- the fact, which no command made, was added to the innermost scope, or its name is that of another
abbrev pub Added : Result (Unit {0}) FactRefused → (old : Scopes) → List ℕ → Tree → (new : Scopes) → Type 0
Added (Ok x) old name t new = (is_live old name ≡ false) × (new ≡ with_fact old name t 0)
Added (Err refused.Redeclared) old name t new = is_live old name ≡ true
Added (Err refused.ScopeDepth) old name t new = ⊥
Added (Err (refused.Memory e)) old name t new = ⊤

-- a scope was opened with its assumption, which no command made, or there are as many as may be, or the name is that of a fact
abbrev pub Pushed : Result (Unit {0}) FactRefused → (old : Scopes) → List ℕ → Tree → (new : Scopes) → Type 0
Pushed (Ok x) old name t new = (depth old < scope_limit) × (is_live old name ≡ false) × (new ≡ with_scope old name t 0)
Pushed (Err refused.Redeclared) old name t new = (depth old < scope_limit) × (is_live old name ≡ true)
Pushed (Err refused.ScopeDepth) old name t new = scope_limit ≤ depth old
Pushed (Err (refused.Memory e)) old name t new = ⊤

-- the innermost scope was closed, and had this assumption, or none is open
abbrev pub Popped : List Tree → Result ℕ NoScope → (old new : Scopes) → Type 0
Popped ts (Ok i) old new = (innermost_hypothesis old ≡ Some (tree_at ts i)) × (new ≡ outside old)
Popped ts (Err e) old new = (innermost_hypothesis old ≡ None) × (new ≡ old)

-- the formula that is found, or there is none
abbrev pub Found : List Tree → Result ℕ UnknownPremise → Option Tree → Type 0
Found ts (Ok i) o = o ≡ Some (tree_at ts i)
Found ts (Err e) o = o ≡ None
