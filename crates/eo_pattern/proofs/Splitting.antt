-- What is left to match of two terms with the same root.
use Rattle.std.specs.Prelude.{◌≡◌, ℕ, ◌+◌, ◌<◌, ◌||◌, false, max, List, [], ◌∷◌, length, is_some, refl}
use Rattle.std.proofs.Common.{sym, ap, ap₂, ◌∙◌, subst, arith}
use Rattle.eo_pattern.specs.Sizes.{size}
use Rattle.std.proofs.Math.Bool.{or_assoc}
use Rattle.eo_base.proofs.Tests.{or_first, or_second}
use Rattle.eo_term.specs.Terms.{tree_at}
use Rattle.eo_term.specs.Tree.{Tree, Var, App, Arr, Qar, occurs, height}
use Rattle.eo_pattern.specs.Matching.{Assignment, put, Matches}
use Rattle.eo_pattern.specs.Slots.{Leads}
use Rattle.eo_pattern.specs.Split.{IsOne, IsTwo}

-- variables of one name
var_leads : (σ : Assignment) (s : List ℕ) (a b : Tree) → Leads σ (Var s a ∷ []) (Var s b ∷ []) σ (a ∷ []) (b ∷ [])
var_leads σ s a b = record {
  fwd = λ ρ m. record { extends = m.extends; names = m.names; equal = let e : put ρ a ∷ [] ≡ b ∷ [] = m.equal in let q : put ρ a ≡ b = cc in ap (λ u. Var s u ∷ []) q };
  back = λ ρ m. record { extends = m.extends; names = m.names; equal = let e : Var s (put ρ a) ∷ [] ≡ Var s b ∷ [] = m.equal in let q : put ρ a ≡ b = cc in ap (λ u. u ∷ []) q };
}

pub var_split : (ts : List Tree) (k j p t : ℕ) (s r : List ℕ) → Var s (tree_at ts p) ≡ tree_at ts k → Var r (tree_at ts t) ≡ tree_at ts j → s ≡ r → p < k → t < length ts → IsOne ts k j p t
var_split ts k j p t s r e g h l m = record {
  smaller = let n : size (tree_at ts k) ≡ 1 + size (tree_at ts p) = ap size (sym e) in omega (arith, n);
  part = record { older = l; lower = let n : height (tree_at ts k) ≡ 1 + height (tree_at ts p) = ap height (sym e) in omega (arith, n); pars = λ i o. ap (occurs i) (sym e) ∙ o };
  term = m;
  leads = λ σ. whole σ;
}
  where
    other : Var s (tree_at ts t) ≡ tree_at ts j
    other = ap (λ x. Var x (tree_at ts t)) h ∙ g

    whole : (σ : Assignment) → Leads σ (tree_at ts k ∷ []) (tree_at ts j ∷ []) σ (tree_at ts p ∷ []) (tree_at ts t ∷ [])
    whole σ = subst (λ (x : Tree). Leads σ (x ∷ []) (tree_at ts j ∷ []) σ (tree_at ts p ∷ []) (tree_at ts t ∷ [])) e
        (subst (λ (y : Tree). Leads σ (Var s (tree_at ts p) ∷ []) (y ∷ []) σ (tree_at ts p ∷ []) (tree_at ts t ∷ [])) other (var_leads σ s (tree_at ts p) (tree_at ts t)))

-- variables of two names
pub var_differ : (σ τ : Assignment) (x y a b : Tree) (s r : List ℕ) → Var s a ≡ x → Var r b ≡ y → (s ≡ r → ⊥) → Matches σ (x ∷ []) (y ∷ []) τ → ⊥
var_differ σ τ x y a b s r e g n m =
    let h : put τ x ∷ [] ≡ y ∷ [] = m.equal in
    let q : put τ x ≡ y = cc in
    let same : Var s (put τ a) ≡ Var r b = ap (put τ) e ∙ q ∙ sym g in
    let name : s ≡ r = cc in
    n name

-- a root with two parts, by what makes its tree of theirs
module _ (c : Tree → Tree → Tree) (puts : (ρ : Assignment) (a b : Tree) → put ρ (c a b) ≡ c (put ρ a) (put ρ b)) (named : (i : ℕ) (a b : Tree) → occurs i (c a b) ≡ (occurs i a || occurs i b)) (apart : (a b d e : Tree) → c a b ≡ c d e → (a ≡ d) × (b ≡ e)) (tall : (a b : Tree) → height (c a b) ≡ 1 + max (height a) (height b)) (large : (a b : Tree) → size (c a b) ≡ 1 + (size a + size b)) where
  two_leads : (σ : Assignment) (a b d e : Tree) → Leads σ (c a b ∷ []) (c d e ∷ []) σ (a ∷ b ∷ []) (d ∷ e ∷ [])
  two_leads σ a b d e = record {
    fwd = λ ρ m. record {
      extends = m.extends;
      names = λ i. m.names i ∙ ap (λ n. is_some (σ i) || n) (sym (names i));
      equal =
          let h : put ρ a ∷ put ρ b ∷ [] ≡ d ∷ e ∷ [] = m.equal in
          let f : put ρ a ≡ d = cc in
          let g : put ρ b ≡ e = cc in
          ap (λ u. u ∷ []) (puts ρ a b ∙ ap₂ c f g);
    };
    back = λ ρ m. record {
      extends = m.extends;
      names = λ i. m.names i ∙ ap (λ n. is_some (σ i) || n) (names i);
      equal =
          let h : put ρ (c a b) ∷ [] ≡ c d e ∷ [] = m.equal in
          let q : put ρ (c a b) ≡ c d e = cc in
          let s = apart (put ρ a) (put ρ b) d e (sym (puts ρ a b) ∙ q) in
          ap₂ (λ u v. u ∷ v ∷ []) s.0 s.1;
    };
  }
    where
      names : (i : ℕ) → (occurs i (c a b) || false) ≡ (occurs i a || (occurs i b || false))
      names i = ap (λ n. n || false) (named i a b) ∙ or_assoc (occurs i a) (occurs i b) false

  pub two_split : (ts : List Tree) (k j p q t u : ℕ) → c (tree_at ts p) (tree_at ts q) ≡ tree_at ts k → c (tree_at ts t) (tree_at ts u) ≡ tree_at ts j → (p < k) × (q < k) → t < length ts → u < length ts → IsTwo ts k j p q t u
  two_split ts k j p q t u e g l m n = record {
    smaller = let n : size (tree_at ts k) ≡ 1 + (size (tree_at ts p) + size (tree_at ts q)) = ap size (sym e) ∙ large (tree_at ts p) (tree_at ts q) in omega (arith, n);
    first = record { older = l.0; lower = let n : height (tree_at ts k) ≡ 1 + max (height (tree_at ts p)) (height (tree_at ts q)) = ap height (sym e) ∙ tall (tree_at ts p) (tree_at ts q) in omega (arith, n); pars = λ i o. ap (occurs i) (sym e) ∙ (named i (tree_at ts p) (tree_at ts q) ∙ or_first (occurs i (tree_at ts p)) (occurs i (tree_at ts q)) o) };
    second = record { older = l.1; lower = let n : height (tree_at ts k) ≡ 1 + max (height (tree_at ts p)) (height (tree_at ts q)) = ap height (sym e) ∙ tall (tree_at ts p) (tree_at ts q) in omega (arith, n); pars = λ i o. ap (occurs i) (sym e) ∙ (named i (tree_at ts p) (tree_at ts q) ∙ or_second (occurs i (tree_at ts p)) (occurs i (tree_at ts q)) o) };
    term = m;
    other_term = n;
    leads = λ σ.
        subst (λ (x : Tree). Leads σ (x ∷ []) (tree_at ts j ∷ []) σ (tree_at ts p ∷ tree_at ts q ∷ []) (tree_at ts t ∷ tree_at ts u ∷ [])) e
        (subst (λ (y : Tree). Leads σ (c (tree_at ts p) (tree_at ts q) ∷ []) (y ∷ []) σ (tree_at ts p ∷ tree_at ts q ∷ []) (tree_at ts t ∷ tree_at ts u ∷ [])) g (two_leads σ (tree_at ts p) (tree_at ts q) (tree_at ts t) (tree_at ts u)));
  }

pub app_split : (ts : List Tree) (k j p q t u : ℕ) → App (tree_at ts p) (tree_at ts q) ≡ tree_at ts k → App (tree_at ts t) (tree_at ts u) ≡ tree_at ts j → (p < k) × (q < k) → t < length ts → u < length ts → IsTwo ts k j p q t u
app_split = two_split App (λ ρ a b. refl) (λ i a b. refl) (λ a b d e h. (cc, cc)) (λ a b. refl) (λ a b. refl)

pub arr_split : (ts : List Tree) (k j p q t u : ℕ) → Arr (tree_at ts p) (tree_at ts q) ≡ tree_at ts k → Arr (tree_at ts t) (tree_at ts u) ≡ tree_at ts j → (p < k) × (q < k) → t < length ts → u < length ts → IsTwo ts k j p q t u
arr_split = two_split Arr (λ ρ a b. refl) (λ i a b. refl) (λ a b d e h. (cc, cc)) (λ a b. refl) (λ a b. refl)

pub qar_split : (i : ℕ) (ts : List Tree) (k j p q t u : ℕ) → Qar i (tree_at ts p) (tree_at ts q) ≡ tree_at ts k → Qar i (tree_at ts t) (tree_at ts u) ≡ tree_at ts j → (p < k) × (q < k) → t < length ts → u < length ts → IsTwo ts k j p q t u
qar_split i = two_split (Qar i) (λ ρ a b. refl) (λ j a b. refl) (λ a b d e h. (cc, cc)) (λ a b. refl) (λ a b. refl)
