-- Which trees are among the subtrees of others, and among those of a table.
use Rattle.std.proofs.Common.{refl, sym, subst, ◌∙◌, inl, inr, ℕ, suc, List, [], ◌∷◌, ◌++◌, take, drop, Contains, All, arith}
use Rattle.std.specs.Prelude.{flat_map}
use Rattle.std.proofs.lemmas.List.{take-append-drop, get_or_default}
use Rattle.std.proofs.lemmas.List.Elements.{Contains-append_left, Contains-append_right, Contains-append_cases}
use Rattle.eo_term.specs.Terms.{tree_at, AreAmong, HasPartsAmong, HaveOlderParts}
use Rattle.eo_term.specs.Tree.{Tree, Trees, Con, Num, Bits, Str, Par, Var, App, Arr, Qar, Op, NoTree, More, subtrees, all_subtrees}
use Rattle.eo_session.proofs.Counting.{first}
use Rattle.eo_base.proofs.Elements.{contains_later, contains_split, contains_none}

-- ---- lists joined

pub in_flat : {X A : Type 0} (f : X → List A) (xs : List X) (x : X) (a : A) → Contains xs x → Contains (f x) a → Contains (flat_map f xs) a
in_flat f [] x a c h = contains_none x c
in_flat f (y ∷ ys) x a c h =
    elim (contains_split y ys x c) [
      | inl e ↦ Contains-append_left (f y) (flat_map f ys) a (subst (λ z. Contains (f z) a) (sym e) h)
      | inr d ↦ Contains-append_right (f y) (flat_map f ys) a (in_flat f ys x a d h)
    ]

pub out_flat : {X A : Type 0} (f : X → List A) (xs : List X) (a : A) → Contains (flat_map f xs) a → (x : X) × Contains xs x × Contains (f x) a
out_flat f [] a c = contains_none a c
out_flat f (y ∷ ys) a c =
    elim (Contains-append_cases (f y) (flat_map f ys) a c) [
      | inl h ↦ (y, first y ys y refl, h)
      | inr h ↦ let r = out_flat f ys a h in (r.0, contains_later y ys r.0 r.1, r.2)
    ]

-- more lists joined have more elements
pub more_flat : {X A : Type 0} (f : X → List A) (xs ys : List X) → ((x : X) → Contains xs x → Contains ys x) → (a : A) → Contains (flat_map f xs) a → Contains (flat_map f ys) a
more_flat f xs ys h a c = let r = out_flat f xs a c in in_flat f ys r.0 a (h r.0 r.1) r.2

-- ---- a front of a list

pub in_front : {X : Type 0} (n : ℕ) (xs : List X) (x : X) → Contains (take n xs) x → Contains xs x
in_front n xs x c = subst (λ ys. Contains ys x) (take-append-drop n xs) (Contains-append_left (take n xs) (drop n xs) x c)

-- ---- parts

module _ (ts us : List Tree) (sub : (t : Tree) → Contains ts t → Contains us t) where
  among_more : (vs : Trees) → AreAmong ts vs → AreAmong us vs
  among_more NoTree h = tt
  among_more (More v vs) h = (sub v h.0, among_more vs h.1)

  parts_more : (t : Tree) → HasPartsAmong ts t → HasPartsAmong us t
  parts_more (Con k) h = tt
  parts_more (Num z) h = tt
  parts_more (Bits w v) h = tt
  parts_more (Str s) h = tt
  parts_more (Par i) h = tt
  parts_more (Var s t) h = sub t h
  parts_more (App f x) h = (sub f h.0, sub x h.1)
  parts_more (Arr a b) h = (sub a h.0, sub b h.1)
  parts_more (Qar i t b) h = (sub t h.0, sub b h.1)
  parts_more (Op c vs) h = among_more vs h

-- trees whose parts are older have all their subtrees among them
module _ (ts : List Tree) (older : HaveOlderParts ts) where
  has_parts : (t : Tree) → Contains ts t → HasPartsAmong ts t
  has_parts t c =
      subst (HasPartsAmong ts) (get_or_default ts c.0 (Con 0) t c.1 ∙ c.2)
      (parts_more (take c.0 ts) ts (λ u d. in_front c.0 ts u d) (tree_at ts c.0) (older c.0 c.1))

  leaf : (t u : Tree) → Contains ts t → Contains (t ∷ []) u → Contains ts u
  leaf t u c s = elim (contains_split t [] u s) [ inl e ↦ subst (Contains ts) e c | inr d ↦ contains_none u d ]

  mutual
    pub closed : (t : Tree) → Contains ts t → (u : Tree) → Contains (subtrees t) u → Contains ts u
    closed (Con k) c u s = leaf (Con k) u c s
    closed (Num z) c u s = leaf (Num z) u c s
    closed (Bits w v) c u s = leaf (Bits w v) u c s
    closed (Str w) c u s = leaf (Str w) u c s
    closed (Par i) c u s = leaf (Par i) u c s
    closed (Var w y) c u s =
        elim (contains_split (Var w y) (subtrees y) u s) [ inl e ↦ subst (Contains ts) e c | inr d ↦ closed y (has_parts (Var w y) c) u d ]
    closed (App f x) c u s =
        elim (contains_split (App f x) (subtrees f ++ subtrees x) u s) [
          | inl e ↦ subst (Contains ts) e c
          | inr d ↦
              elim (Contains-append_cases (subtrees f) (subtrees x) u d) [
                | inl a ↦ closed f (has_parts (App f x) c).0 u a
                | inr b ↦ closed x (has_parts (App f x) c).1 u b
              ]
        ]
    closed (Arr f x) c u s =
        elim (contains_split (Arr f x) (subtrees f ++ subtrees x) u s) [
          | inl e ↦ subst (Contains ts) e c
          | inr d ↦
              elim (Contains-append_cases (subtrees f) (subtrees x) u d) [
                | inl a ↦ closed f (has_parts (Arr f x) c).0 u a
                | inr b ↦ closed x (has_parts (Arr f x) c).1 u b
              ]
        ]
    closed (Qar i f x) c u s =
        elim (contains_split (Qar i f x) (subtrees f ++ subtrees x) u s) [
          | inl e ↦ subst (Contains ts) e c
          | inr d ↦
              elim (Contains-append_cases (subtrees f) (subtrees x) u d) [
                | inl a ↦ closed f (has_parts (Qar i f x) c).0 u a
                | inr b ↦ closed x (has_parts (Qar i f x) c).1 u b
              ]
        ]
    closed (Op o vs) c u s =
        elim (contains_split (Op o vs) (all_subtrees vs) u s) [
          | inl e ↦ subst (Contains ts) e c
          | inr d ↦ all_closed vs (has_parts (Op o vs) c) u d
        ]

    all_closed : (vs : Trees) → AreAmong ts vs → (u : Tree) → Contains (all_subtrees vs) u → Contains ts u
    all_closed NoTree h u s = contains_none u s
    all_closed (More v vs) h u s =
        elim (Contains-append_cases (subtrees v) (all_subtrees vs) u s) [
          | inl a ↦ closed v h.0 u a
          | inr b ↦ all_closed vs h.1 u b
        ]

  pub all_among : (roots : List Tree) → All (Contains ts) roots → (u : Tree) → Contains (flat_map subtrees roots) u → Contains ts u
  all_among [] a u s = contains_none u s
  all_among (t ∷ rs) a u s =
      elim (Contains-append_cases (subtrees t) (flat_map subtrees rs) u s) [
        | inl h ↦ closed t (a 0 t (omega arith)) u h
        | inr h ↦ all_among rs (λ k d l. a (suc k) d (omega (arith, l))) u h
      ]
