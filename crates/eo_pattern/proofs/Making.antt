-- What is made of a term, where it is known what its parts become.
use Rattle.std.specs.Prelude.{◌≡◌, ℕ, ◌<◌, ◌+◌, max, true, false, List, length, Result, Ok, Err, OnErr}
use Rattle.std.specs.Result.{IsErrAnd, is_err}
use Rattle.std.proofs.Common.{sym, ap, ◌∙◌, subst, true≢false, arith}
use Rattle.std.proofs.lemmas.Bool.{false_from_ne_true}
use Rattle.eo_term.specs.declared.table.TermRefused.{TermRefused}
use Rattle.eo_term.specs.Refused.{IsTall}
use Rattle.eo_term.specs.Terms.{tree_at}
use Rattle.eo_term.specs.Tree.{Tree, Var, height, is_tall}
use Rattle.eo_term.proofs.Heights.{higher}
use Rattle.eo_pattern.specs.Matching.{Assignment, put}
use Rattle.eo_pattern.specs.Steps.{IsMade, IsInside, ArePut}

-- the exit of a `?`: what is refused as too tall is
pub tall_exit : {X : Type 0} (r : Result X TermRefused) (e : TermRefused) (t u : Tree) → IsErrAnd r (λ x. x ≡ e) → u ≡ t → (IsTall {X = ℕ} (Err e) → is_tall u ≡ true) → IsTall r → is_tall t ≡ true
tall_exit (Ok x) e t u q s f h = absurd h
tall_exit (Err d) e t u q s f h = ap is_tall (sym s) ∙ f (subst (λ x. IsTall {X = ℕ} (Err x)) q h)

-- what a refusal says, where there was none
pub not_refused : {X E : Type 0} (r : Result X E) (P : Type 0) → is_err r ≡ false → OnErr r P
not_refused (Ok x) P e = tt
not_refused (Err d) P e = absurd (true≢false e)

-- the term k, whose tree has two parts
module _ (σ : Assignment) (ts : List Tree) (k : ℕ) (c : Tree → Tree → Tree) (p q : ℕ) (e : c (tree_at ts p) (tree_at ts q) ≡ tree_at ts k) (same : (a b : Tree) → put σ (c a b) ≡ c (put σ a) (put σ b)) where
  -- each part is older, and makes it too tall where it is
  module _ (high : (a b : Tree) → height (c a b) ≡ 1 + max (height a) (height b)) where
    pub inside_first : p < k → IsInside σ ts k p
    inside_first l =
        let a = put σ (tree_at ts p) in
        let b = put σ (tree_at ts q) in
        record { older = l; tall = λ h. ap is_tall (ap (put σ) (sym e) ∙ same (tree_at ts p) (tree_at ts q)) ∙ higher a (c a b) (omega (arith, high a b)) h }

    pub inside_second : q < k → IsInside σ ts k q
    inside_second l =
        let a = put σ (tree_at ts p) in
        let b = put σ (tree_at ts q) in
        record { older = l; tall = λ h. ap is_tall (ap (put σ) (sym e) ∙ same (tree_at ts p) (tree_at ts q)) ∙ higher b (c a b) (omega (arith, high a b)) h }

  -- what its parts become makes what it becomes
  pub two_put : (r : ℕ × ℕ) → ArePut σ ts p q r → c (tree_at ts r.0) (tree_at ts r.1) ≡ put σ (tree_at ts k)
  two_put r h = (λ i. c (h.first_tree i) (h.second_tree i)) ∙ sym (same (tree_at ts p) (tree_at ts q)) ∙ ap (put σ) e

-- a variable becomes one of what its type becomes
pub var_put : (σ : Assignment) (t u v : Tree) (s : List ℕ) → Var s u ≡ t → v ≡ put σ u → Var s v ≡ put σ t
var_put σ t u v s e h = ap (Var s) h ∙ ap (put σ) e

-- a term that is made, of what its tree is to be
pub made_low : (σ : Assignment) (ts : List Tree) (k : ℕ) (new : List Tree) (v : ℕ) (u : Tree) → u ≡ put σ (tree_at ts k) → v < length new → tree_at new v ≡ u → (is_tall u ≡ true → ⊥) → IsMade σ ts k new v
made_low σ ts k new v u e l t n = record { live = l; tree = t ∙ e; low = ap is_tall (sym e) ∙ false_from_ne_true _ n }

-- a leaf that is no parameter stays what it is
pub leaf_made : (σ : Assignment) (ts : List Tree) (k : ℕ) (u : Tree) → u ≡ tree_at ts k → put σ u ≡ u → k < length ts → is_tall (tree_at ts k) ≡ false → IsMade σ ts k ts k
leaf_made σ ts k u e s l n =
    let same : put σ (tree_at ts k) ≡ tree_at ts k = ap (put σ) (sym e) ∙ s ∙ e in
    record { live = l; tree = sym same; low = ap is_tall same ∙ n }
