-- Settling a term, where it is known what its parts settle to.
use Rattle.std.specs.Prelude.{◌≡◌, ℕ, ◌<◌, None, List, length}
use Rattle.std.proofs.Common.{sym, ap, ◌∙◌, subst}
use Rattle.eo_term.specs.Growth.{IsTerm, tree_in}
use Rattle.eo_term.specs.Memo.{told}
use Rattle.eo_term.specs.Terms.{Terms}
use Rattle.eo_term.specs.Tree.{Tree, Var}
use Rattle.eo_type.specs.Types.{Typed, on_typed, settle}
use Rattle.eo_type.specs.Outcomes.{IsTyped, Stops}
use Rattle.eo_type.specs.Steps.{IsNext}
use Rattle.eo_type.proofs.Walk.{stops_first}

-- a leaf settles to itself
pub leaf_settled : (t : Terms) (k : ℕ) (u : Tree) → u ≡ tree_in t k → settle u ≡ Typed u → k < length t.trees → IsTyped t (settle (tree_in t k)) k
leaf_settled t k u e s l = record { live = l; typed = ap settle (sym e) ∙ s ∙ ap Typed e }

-- the term k, a variable of the type p
module _ (t : Terms) (k : ℕ) (s : List ℕ) (p : ℕ) (e : Var s (tree_in t p) ≡ tree_in t k) where
  pub next_type : (m : List (ℕ × ℕ)) → p < k → told m p ≡ None → IsNext t m k p
  next_type m l n = record {
    older = l;
    untold = n;
    stops = λ r h. subst (λ u. Stops r (settle u)) e (stops_first r (settle (tree_in t p)) (λ u. Typed (Var s u)) h);
  }

  pub var_settled : (f : ℕ) (new : Terms) (i : ℕ) → IsTyped t (settle (tree_in t p)) f → IsTerm new (Var s (tree_in t f)) i → IsTyped new (settle (tree_in t k)) i
  var_settled f new i a h = record { live = h.live; typed = ap settle (sym e) ∙ ap (λ o. on_typed o (λ u. Typed (Var s u))) a.typed ∙ ap Typed (sym h.tree) }

-- the term k, whose tree has two parts
module _ (t : Terms) (k : ℕ) (c : Tree → Tree → Tree) (p q : ℕ) (e : c (tree_in t p) (tree_in t q) ≡ tree_in t k) (same : (a b : Tree) → settle (c a b) ≡ on_typed (settle a) (λ u. on_typed (settle b) (λ v. Typed (c u v)))) where
  whole : settle (tree_in t k) ≡ on_typed (settle (tree_in t p)) (λ u. on_typed (settle (tree_in t q)) (λ v. Typed (c u v)))
  whole = ap settle (sym e) ∙ same (tree_in t p) (tree_in t q)

  pub next_first : (m : List (ℕ × ℕ)) → p < k → told m p ≡ None → IsNext t m k p
  next_first m l n = record {
    older = l;
    untold = n;
    stops = λ r h. subst (λ o. Stops r o) (sym whole) (stops_first r (settle (tree_in t p)) (λ u. on_typed (settle (tree_in t q)) (λ v. Typed (c u v))) h);
  }

  -- the first part is known
  module _ (f : ℕ) (a : IsTyped t (settle (tree_in t p)) f) where
    pub next_second : (m : List (ℕ × ℕ)) → q < k → told m q ≡ None → IsNext t m k q
    next_second m l n = record {
      older = l;
      untold = n;
      stops = λ r h.
          subst (λ o. Stops r o) (sym (whole ∙ ap (λ o. on_typed o (λ u. on_typed (settle (tree_in t q)) (λ v. Typed (c u v)))) a.typed)) (stops_first r (settle (tree_in t q)) (λ v. Typed (c (tree_in t f) v)) h);
    }

    pub two_settled : (g : ℕ) (new : Terms) (i : ℕ) → IsTyped t (settle (tree_in t q)) g → IsTerm new (c (tree_in t f) (tree_in t g)) i → IsTyped new (settle (tree_in t k)) i
    two_settled g new i b h = record {
      live = h.live;
      typed = whole ∙ (λ j. on_typed (a.typed j) (λ u. on_typed (b.typed j) (λ v. Typed (c u v)))) ∙ ap Typed (sym h.tree);
    }
