-- What calls that make terms return, where a term may be too tall.
use Rattle.std.specs.Prelude.{◌≡◌, ℕ, ◌<◌, Bool, true, List, length, Result, Ok, Err, All}
use Rattle.std.specs.List.{list_any}
use Rattle.eo_term.specs.declared.table.TermRefused.{TermRefused}
use Rattle.eo_term.specs.declared.table.TermRefused.TheVariants as term
use Rattle.eo_term.specs.Growth.{trees_in, IsTerm}
use Rattle.eo_term.specs.Terms.{Terms}
use Rattle.eo_term.specs.Tree.{Tree, is_tall}

-- a refusal for its height says that the test holds; out of memory says nothing
abbrev pub TallWhere : TermRefused → Bool → Type 0
TallWhere term.Tall b = b ≡ true
TallWhere (term.Memory e) b = Unit {0}

-- a call returns something for which this holds, or refuses where the test holds
abbrev pub OrTall : {A : Type 0} → (A → Type 0) → Bool → Result A TermRefused → Type 0
OrTall So b (Ok a) = So a
OrTall So b (Err e) = TallWhere e b

-- the id of this tree
abbrev pub Builds : Terms → Result ℕ TermRefused → Tree → Type 0
Builds t r u = OrTall (IsTerm t u) (is_tall u) r

-- the ids of these trees
pub record AreTerms (t : Terms) (us : List Tree) (is : List ℕ) : Type 0 where
  pub live : All (λ i. i < length t.trees) is
  pub trees : trees_in t is ≡ us

abbrev pub BuildsAll : Terms → Result (List ℕ) TermRefused → List Tree → Type 0
BuildsAll t r us = OrTall (AreTerms t us) (list_any is_tall us) r
