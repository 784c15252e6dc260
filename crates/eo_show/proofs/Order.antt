-- The members of a value: each once and after its parts.
use Rattle.std.specs.Prelude.{◌≡◌, refl, ℕ, zero, suc, ◌<◌, ◌≤◌, Bool, true, false, ◌||◌, List, [], ◌∷◌, ◌++◌, length, fold, if◌then◌else◌, All, Contains, slice_index_or, ◌⊎◌}
use Rattle.std.specs.List.{list_any}
use Rattle.std.proofs.Common.{sym, ◌∙◌, ap, arith, subst, inl, inr, append_assoc, append-nil, true≢false}
use Rattle.std.proofs.lemmas.List.Elements.{All-nil, All-cons, All-head, All-tail, Contains-append_left, Contains-push, Contains-push_cases}
use Rattle.eo_term.specs.Tree.{Tree, height, is_value, tree_eq}
use Rattle.eo_term.proofs.Equality.{tree_same, tree_refl}
use Rattle.eo_sig.specs.Signature.{Signature}
use Rattle.eo_show.specs.Members.{parts_of, with_members, members}
use Rattle.eo_show.specs.Written.{IsNext, Ordered}
use Rattle.eo_show.proofs.FormFacts.{some_height}
use Rattle.eo_show.specs.Walking.{IsLower}
use Rattle.eo_show.proofs.Lower.{parts-below}

-- ---- what a list of trees holds

contains-later : (x t : Tree) (xs : List Tree) → Contains xs t → Contains (x ∷ xs) t
contains-later x t xs h = let lt = h.1 in (suc h.0, omega arith, h.2)

any-contains : (t : Tree) (xs : List Tree) → list_any (tree_eq t) xs ≡ true → Contains xs t
any-contains t [] e = cc
any-contains t (x ∷ xs) e = go (tree_eq t x) refl e (any-contains t xs)
  where
    go : (b : Bool) → tree_eq t x ≡ b → (b || list_any (tree_eq t) xs) ≡ true → (list_any (tree_eq t) xs ≡ true → Contains xs t) → Contains (x ∷ xs) t
    go true f h later = (0, omega arith, sym (tree_same t x f))
    go false f h later = contains-later x t xs (later h)

none-contains : (t : Tree) (xs : List Tree) → list_any (tree_eq t) xs ≡ false → Contains xs t → ⊥
none-contains t [] e c = let lt = c.1 in absurd (omega arith)
none-contains t (x ∷ xs) e c = go (tree_eq t x) refl e c (none-contains t xs)
  where
    at : tree_eq t x ≡ false → (k : ℕ) → k < length (x ∷ xs) → slice_index_or (x ∷ xs) k t ≡ t → (Contains xs t → ⊥) → ⊥
    at f zero lt is later = true≢false (sym (tree_refl t) ∙ ap (tree_eq t) (sym is) ∙ f)
    at f (suc k) lt is later = later (k, omega arith, is)

    go : (b : Bool) → tree_eq t x ≡ b → (b || list_any (tree_eq t) xs) ≡ false → Contains (x ∷ xs) t → (list_any (tree_eq t) xs ≡ false → Contains xs t → ⊥) → ⊥
    go true f h c later = cc
    go false f h c later = at f c.0 c.1 c.2 (later h)

module _ (S : Signature) where
  ordered-push : (front back : List Tree) (m : Tree) → Ordered S front back → IsNext S (front ++ back) m → Ordered S front (back ++ m ∷ [])
  ordered-push front [] m h n = (subst (λ ms. IsNext S ms m) (append-nil front) n, tt)
  ordered-push front (b ∷ back) m h n = (h.0, ordered-push (front ++ b ∷ []) back m h.1 (subst (λ ms. IsNext S ms m) (sym (append_assoc front (b ∷ []) back)) n))

  -- what the members of t add to those that were found
  pub record Visited (found : List Tree) (t : Tree) (new : List Tree) : Type 0 where
    pub ordered : Ordered S [] new
    pub keeps : (m : Tree) → Contains found m → Contains new m
    pub has : Contains new t
    pub lower : (m : Tree) → Contains new m → Contains found m ⊎ (height m ≤ height t)

  record AllVisited (h : ℕ) (found ts new : List Tree) : Type 0 where
    ordered : Ordered S [] new
    keeps : (m : Tree) → Contains found m → Contains new m
    have : All (Contains new) ts
    lower : (m : Tree) → Contains new m → Contains found m ⊎ (height m < h)

  abbrev VisitsAt : ℕ → Type 0
  VisitsAt d = (found : List Tree) (t : Tree) → is_value t ≡ true → height t ≤ d → Ordered S [] found → Visited found t (with_members S d found t)

  visit-all : (d h : ℕ) → VisitsAt d → h ≤ suc d → (found ts : List Tree) → All (IsLower h) ts → Ordered S [] found → AllVisited h found ts (fold (with_members S d) found ts)
  visit-all d h visit le found [] all o = record { ordered = o; keeps = λ m k. k; have = All-nil (Contains found); lower = λ m k. inl k }
  visit-all d h visit le found (t ∷ ts) all o =
      let b = All-head (IsLower h) t ts all in
      let first = visit found t b.value (omega (arith, b.lower)) o in
      let new = with_members S d found t in
      let rest = visit-all d h visit le new ts (All-tail (IsLower h) t ts all) first.ordered in
      record {
        ordered = rest.ordered;
        keeps = λ m k. rest.keeps m (first.keeps m k);
        have = All-cons (Contains (fold (with_members S d) new ts)) t ts (rest.keeps t first.has) rest.have;
        lower = λ m k. go m (rest.lower m k) (first.lower m) b.lower;
      }
    where
      go : (m : Tree) → Contains (with_members S d found t) m ⊎ (height m < h) → (Contains (with_members S d found t) m → Contains found m ⊎ (height m ≤ height t)) → height t < h → Contains found m ⊎ (height m < h)
      go m (inr lt) f b = inr lt
      go m (inl k) f b = elim (f k) [ inl k' ↦ inl k' | inr le' ↦ inr (omega arith) ]

  visit-new : (found : List Tree) (t : Tree) (new : List Tree) → is_value t ≡ true → list_any (tree_eq t) found ≡ false → AllVisited (height t) found (parts_of S t) new → Visited found t (new ++ t ∷ [])
  visit-new found t new v e all =
      record {
        ordered = ordered-push [] new t all.ordered (record { value = v; new = λ k. absent (all.lower t k); parts_before = all.have });
        keeps = λ m k. Contains-append_left new (t ∷ []) m (all.keeps m k);
        has = Contains-push new t;
        lower = λ m k. by m (Contains-push_cases new t m k);
      }
    where
      absent : Contains found t ⊎ (height t < height t) → ⊥
      absent (inl c) = none-contains t found e c
      absent (inr lt) = absurd (omega arith)

      inside : (m : Tree) → Contains found m ⊎ (height m < height t) → Contains found m ⊎ (height m ≤ height t)
      inside m (inl c) = inl c
      inside m (inr lt) = inr (omega arith)

      by : (m : Tree) → Contains new m ⊎ (t ≡ m) → Contains found m ⊎ (height m ≤ height t)
      by m (inl c) = inside m (all.lower m c)
      by m (inr same) = inr (omega (arith, ap height same))

  visit : (d : ℕ) → VisitsAt d
  visit zero found t v le o = absurd (omega (arith, some_height t))
  visit (suc d) found t v le o = go (list_any (tree_eq t) found) refl (visit-all d (height t) (visit d) le found (parts_of S t) (parts-below S t v) o)
    where
      go : (b : Bool) → list_any (tree_eq t) found ≡ b → AllVisited (height t) found (parts_of S t) (fold (with_members S d) found (parts_of S t)) →
          Visited found t (if b then found else fold (with_members S d) found (parts_of S t) ++ t ∷ [])
      go true e all = record { ordered = o; keeps = λ m k. k; has = any-contains t found e; lower = λ m k. inl k }
      go false e all = visit-new found t (fold (with_members S d) found (parts_of S t)) v e all

  -- The members of a value are in order, and no taller than it.
  pub members-visited : (t : Tree) → is_value t ≡ true → Visited [] t (members S t)
  unfolding members
  members-visited t v = visit (height t) [] t v (omega arith) tt

  -- the value itself is the last of them
  pub members-end : (t : Tree) → (front : List Tree) × (members S t ≡ front ++ t ∷ [])
  unfolding members
  members-end t = go (height t) refl
    where
      go : (d : ℕ) → height t ≡ d → (front : List Tree) × (with_members S d [] t ≡ front ++ t ∷ [])
      go zero e = absurd (omega (arith, some_height t))
      go (suc d) e = (fold (with_members S d) [] (parts_of S t), refl)
