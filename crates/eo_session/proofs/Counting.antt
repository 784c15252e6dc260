-- How many different trees there are.
use Rattle.std.proofs.Common.{◌≡◌, refl, sym, ap, subst, ◌∙◌, inl, inr, suc, ◌<◌, ◌≤◌, Bool, true, false, not, cond, List, [], ◌∷◌, length, Contains, true≢false, arith}
use Rattle.std.specs.Prelude.{filter, Decides}
use Rattle.eo_term.specs.Terms.{AreApart}
use Rattle.eo_term.specs.Tree.{Tree, tree_eq}
use Rattle.eo_session.specs.Roots.{distinct}
use Rattle.eo_base.proofs.Elements.{contains_later, contains_split, contains_none}

-- ---- elements of a list

pub first : {X : Type 0} (y : X) (xs : List X) (x : X) → y ≡ x → Contains (y ∷ xs) x
first y xs x e = (0, omega arith, e)

-- ---- different trees

-- no tree twice
abbrev pub Apart : List Tree → Type 0
Apart [] = Unit {0}
Apart (t ∷ ts) = (Contains ts t → ⊥) × Apart ts

apart : (ts : List Tree) → AreApart ts → Apart ts
apart [] a = tt
apart (t ∷ ts) a =
    (λ c. a 0 (suc c.0) t (omega arith) (omega (arith, c.1)) (sym c.2), apart ts (λ i j d l h. a (suc i) (suc j) d (omega (arith, l)) (omega (arith, h))))

module _ (decides : (t u : Tree) → Decides (tree_eq t u) (t ≡ u)) where
  -- the others
  abbrev rest : Tree → List Tree → List Tree
  rest t ts = filter (λ u. not (tree_eq t u)) ts

  rest_keeps : (t : Tree) (ts : List Tree) (u : Tree) → tree_eq t u ≡ false → Contains ts u → Contains (rest t ts) u
  rest_keeps t [] u n c = contains_none u c
  rest_keeps t (x ∷ xs) u n c =
      elim (contains_split x xs u c) [
        | inl e ↦ one (tree_eq t x) (ap (tree_eq t) e ∙ n) e
        | inr d ↦ by (tree_eq t x) (rest_keeps t xs u n d)
      ]
    where
      one : (b : Bool) → b ≡ false → x ≡ u → Contains (cond (not b) (x ∷ rest t xs) (rest t xs)) u
      one true h e = absurd (true≢false h)
      one false h e = first x (rest t xs) u e

      by : (b : Bool) → Contains (rest t xs) u → Contains (cond (not b) (x ∷ rest t xs) (rest t xs)) u
      by true h = h
      by false h = contains_later x (rest t xs) u h

  rest_within : (t : Tree) (ts : List Tree) (u : Tree) → Contains (rest t ts) u → Contains ts u
  rest_within t [] u c = c
  rest_within t (x ∷ xs) u c = by (tree_eq t x) c (rest_within t xs u)
    where
      by : (b : Bool) → Contains (cond (not b) (x ∷ rest t xs) (rest t xs)) u → (Contains (rest t xs) u → Contains xs u) → Contains (x ∷ xs) u
      by true h r = contains_later x xs u (r h)
      by false h r = elim (contains_split x (rest t xs) u h) [ inl e ↦ first x xs u e | inr d ↦ contains_later x xs u (r d) ]

  rest_lacks : (t : Tree) (ts : List Tree) → Contains (rest t ts) t → ⊥
  rest_lacks t [] c = contains_none t c
  rest_lacks t (x ∷ xs) c = by (tree_eq t x) refl c (rest_lacks t xs)
    where
      by : (b : Bool) → tree_eq t x ≡ b → Contains (cond (not b) (x ∷ rest t xs) (rest t xs)) t → (Contains (rest t xs) t → ⊥) → ⊥
      by true h c r = r c
      by false h c r =
          elim (contains_split x (rest t xs) t c) [ inl e ↦ true≢false (sym ((decides t x).1 (sym e)) ∙ h) | inr d ↦ r d ]

  rest_fewer : (t : Tree) (ts : List Tree) → length (rest t ts) ≤ length ts
  rest_fewer t [] = omega arith
  rest_fewer t (x ∷ xs) = by (tree_eq t x) (rest_fewer t xs)
    where
      by : (b : Bool) → length (rest t xs) ≤ length xs → length (cond (not b) (x ∷ rest t xs) (rest t xs)) ≤ suc (length xs)
      by true h = omega (arith, h)
      by false h = omega (arith, h)

  rest_less : (t : Tree) (ts : List Tree) → Contains ts t → length (rest t ts) < length ts
  rest_less t [] c = contains_none t c
  rest_less t (x ∷ xs) c =
      elim (contains_split x xs t c) [
        | inl e ↦ one (tree_eq t x) ((decides t x).1 (sym e))
        | inr d ↦ by (tree_eq t x) (rest_less t xs d)
      ]
    where
      one : (b : Bool) → b ≡ true → length (cond (not b) (x ∷ rest t xs) (rest t xs)) < suc (length xs)
      one true h = omega (arith, rest_fewer t xs)
      one false h = absurd (true≢false (sym h))

      by : (b : Bool) → length (rest t xs) < length xs → length (cond (not b) (x ∷ rest t xs) (rest t xs)) < suc (length xs)
      by true h = omega (arith, h)
      by false h = omega (arith, h)

  -- different trees are no more than trees that they are among
  no_more : (ts us : List Tree) → Apart ts → ((u : Tree) → Contains ts u → Contains us u) → length ts ≤ length us
  no_more [] us a h = omega arith
  no_more (t ∷ ts) us a h =
      omega (arith, no_more ts (rest t us) a.1 (λ u c. rest_keeps t us u (differs u c (tree_eq t u) refl) (h u (contains_later t ts u c))), rest_less t us (h t (first t ts t refl)))
    where
      differs : (u : Tree) → Contains ts u → (b : Bool) → tree_eq t u ≡ b → tree_eq t u ≡ false
      differs u c true e = absurd (a.0 (subst (Contains ts) (sym ((decides t u).0 e)) c))
      differs u c false e = e

  rest_apart : (t : Tree) (ts : List Tree) → Apart ts → Apart (rest t ts)
  rest_apart t [] a = tt
  rest_apart t (x ∷ xs) a = by (tree_eq t x) (rest_apart t xs a.1)
    where
      by : (b : Bool) → Apart (rest t xs) → Apart (cond (not b) (x ∷ rest t xs) (rest t xs))
      by true r = r
      by false r = (λ c. a.0 (rest_within t xs x c), r)

  distinct_apart : (ts : List Tree) → Apart (distinct ts)
  distinct_apart [] = tt
  distinct_apart (t ∷ ts) = (rest_lacks t (distinct ts), rest_apart t (distinct ts) (distinct_apart ts))

  distinct_has : (ts : List Tree) (u : Tree) → Contains ts u → Contains (distinct ts) u
  distinct_has [] u c = c
  distinct_has (t ∷ ts) u c =
      elim (contains_split t ts u c) [
        | inl e ↦ first t (rest t (distinct ts)) u e
        | inr d ↦ by (tree_eq t u) refl (distinct_has ts u d)
      ]
    where
      by : (b : Bool) → tree_eq t u ≡ b → Contains (distinct ts) u → Contains (t ∷ rest t (distinct ts)) u
      by true e h = first t (rest t (distinct ts)) u ((decides t u).0 e)
      by false e h = contains_later t (rest t (distinct ts)) u (rest_keeps t (distinct ts) u e h)

  distinct_within : (ts : List Tree) (u : Tree) → Contains (distinct ts) u → Contains ts u
  distinct_within [] u c = c
  distinct_within (t ∷ ts) u c =
      elim (contains_split t (rest t (distinct ts)) u c) [
        | inl e ↦ first t ts u e
        | inr d ↦ contains_later t ts u (distinct_within ts u (rest_within t (distinct ts) u d))
      ]

  -- a list of different trees has as many as there are different ones in a list of the same trees
  pub count_is : (ts us : List Tree) → AreApart ts → ((u : Tree) → Contains ts u → Contains us u) → ((u : Tree) → Contains us u → Contains ts u) → length ts ≡ length (distinct us)
  count_is ts us a h k =
      omega (arith, no_more ts (distinct us) (apart ts a) (λ u c. distinct_has us u (h u c)), no_more (distinct us) ts (distinct_apart us) (λ u c. k u (distinct_within us u c)))
