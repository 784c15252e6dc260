-- What is known of the member at a place, and of its parts.
use Rattle.std.specs.Prelude.{◌≡◌, refl, ℕ, zero, suc, ◌<◌, ◌≤◌, Bool, true, false, cond, if◌then◌else◌, List, [], ◌∷◌, ◌++◌, ◌+◌, map, length, drop, take, slice_get, slice_index_or, position, min, nat_lt, Option, Some, None, Result, Ok, Err, OnOk, All, Contains}
use Rattle.std.proofs.Common.{sym, ap, ap₂, ◌∙◌, subst, arith, append-nil, append_assoc, true≢false}
use Rattle.std.specs.List.{position_or_len}
use Rattle.std.proofs.lemmas.Bool.{leb-true, leb-false, le-leb}
use Rattle.std.proofs.lemmas.List.{at_drop_more, drop_all, length-map, get_or-take, get_or-map, get_or_default, length-take}
use Rattle.std.proofs.lemmas.List.Elements.{All-nil, All-cons, All-head, All-tail, All-weaker}
use Rattle.std.proofs.lemmas.List.Sums.{fails_before_first, passes_at_first}
use Rattle.std.proofs.lemmas.Option.{same_Some, slice_get_within, get_or_from_slice_get}
use Rattle.eo_base.proofs.Tests.{clash}
use Rattle.eo_term.specs.Tree.{Tree, Con, height, is_value, tree_eq}
use Rattle.eo_term.specs.Terms.{Terms}
use Rattle.eo_term.proofs.Equality.{tree_same, tree_refl}
use Rattle.eo_sig.specs.Signature.{Signature}
use Rattle.eo_show.specs.declared.Member.{Member}
use Rattle.eo_show.specs.declared.parts.Form.{Form}
use Rattle.eo_show.specs.Forms.{form, with_parts}
use Rattle.eo_show.specs.Members.{parts_of, has_no_spelling, measured, wants_line, stand_in}
use Rattle.eo_show.specs.Plan.{member_tree, member_trees, IsLive, IsForm}
use Rattle.eo_show.specs.Sizes.{own, as_part}
use Rattle.eo_show.specs.Walking.{HaveForms, IsLower}
use Rattle.eo_show.specs.Written.{IsNext, Ordered}
use Rattle.eo_show.proofs.FormFacts.{some_height}
use Rattle.eo_show.proofs.Lower.{parts-below}
use Rattle.eo_show.proofs.Depths.{with_parts-same, measured-same}

abbrev pub at : List Tree → ℕ → Tree
at us i = slice_index_or us i (Con 0)

pub get-some : {X : Type 0} (xs : List X) (i : ℕ) → i < length xs → (x : X) × (slice_get xs i ≡ Some x)
get-some [] i lt = absurd (omega arith)
get-some (x ∷ xs) zero lt = (x, refl)
get-some (x ∷ xs) (suc i) lt = get-some xs i (omega arith)

pub all-at : {X : Type 0} (P : X → Type 0) (xs : List X) (i : ℕ) (x : X) → All P xs → slice_get xs i ≡ Some x → P x
all-at P xs i x all e = subst P (get_or_from_slice_get xs i x x e) (all i x (slice_get_within xs i x e))

pub both_ok : {T E : Type 0} {P Q R : Type 0} (r : Result T E) → (P → Q → R) → OnOk r P → OnOk r Q → OnOk r R
both_ok (Ok x) f p q = f p q
both_ok (Err e) f p q = tt

pub none-past : {X : Type 0} (xs : List X) (i : ℕ) → slice_get xs i ≡ None → length xs ≤ i
none-past [] i e = omega arith
none-past (x ∷ xs) zero e = cc
none-past (x ∷ xs) (suc i) e = let le = none-past xs i e in omega (arith, le)

module _ (S : Signature) (t : Terms) where
  -- the form of a tree that comes after some others
  pub record IsKnown (before : List Tree) (u : Tree) (f : Form) : Type 0 where
    pub kept : IsForm S t (form S u) f.shape f.parts.items
    pub spelled : has_no_spelling S u ≡ false
    pub next : IsNext S before u

  known-from : (front : List Tree) (ms : List Member) (fs : List Form) (i : ℕ) (f : Form) → HaveForms S t ms fs → Ordered S front (member_trees t ms) → slice_get fs i ≡ Some f → IsKnown (front ++ take i (member_trees t ms)) (at (member_trees t ms) i) f
  known-from front [] [] i f h o e = clash (none i e)
    where
      none : (i : ℕ) → slice_get [] i ≡ Some f → false ≡ true
      none i e = cc
  known-from front [] (g ∷ fs) i f h o e = absurd h
  known-from front (m ∷ ms) [] i f h o e = absurd h
  known-from front (m ∷ ms) (g ∷ fs) zero f h o e =
      let same : g ≡ f = same_Some g f e in
      subst (λ g. IsKnown (front ++ []) (member_tree t m) g) same
      (record { kept = h.0.0; spelled = h.0.1; next = subst (λ us. IsNext S us (member_tree t m)) (sym (append-nil front)) o.0 })
  known-from front (m ∷ ms) (g ∷ fs) (suc i) f h o e =
      subst (λ us. IsKnown us (at (member_trees t ms) i) f) (append_assoc front (member_tree t m ∷ []) (take i (member_trees t ms)))
      (known-from (front ++ member_tree t m ∷ []) ms fs i f h.1 o.1 e)

  pub known-at : (ms : List Member) (fs : List Form) (i : ℕ) (f : Form) → HaveForms S t ms fs → Ordered S [] (member_trees t ms) → slice_get fs i ≡ Some f → IsKnown (take i (member_trees t ms)) (at (member_trees t ms) i) f
  known-at ms fs i f h o e = known-from [] ms fs i f h o e

  pub same-count : (ms : List Member) (fs : List Form) → HaveForms S t ms fs → length fs ≡ length ms
  same-count [] [] h = refl
  same-count [] (f ∷ fs) h = absurd h
  same-count (m ∷ ms) [] h = absurd h
  same-count (m ∷ ms) (f ∷ fs) h = ap suc (same-count ms fs h.1)

  -- the parts of that tree
  pub parts-before : (before : List Tree) (u : Tree) (f : Form) → IsKnown before u f → All (λ p. Contains before (member_tree t p)) f.parts.items
  parts-before before u f k = of-trees f.parts.items (subst (All (Contains before)) (sym k.kept.parts.trees) k.next.parts_before)
    where
      of-trees : (ms : List Member) → All (Contains before) (member_trees t ms) → All (λ p. Contains before (member_tree t p)) ms
      of-trees [] h = All-nil (λ (p : Member). Contains before (member_tree t p))
      of-trees (m ∷ ms) h = All-cons (λ (p : Member). Contains before (member_tree t p)) m ms (All-head (Contains before) (member_tree t m) (member_trees t ms) h) (of-trees ms (All-tail (Contains before) (member_tree t m) (member_trees t ms) h))

  pub live-at : (ms : List Member) (i : ℕ) (m : Member) → All (IsLive t) ms → slice_get ms i ≡ Some m → IsLive t m
  live-at ms i m all e = all-at (IsLive t) ms i m all e

  pub tree-at : (ms : List Member) (i : ℕ) (m : Member) → slice_get ms i ≡ Some m → member_tree t m ≡ at (member_trees t ms) i
  tree-at ms i m e = sym (get_or-map (member_tree t) ms i m (Con 0) (slice_get_within ms i m e) ∙ ap (member_tree t) (get_or_from_slice_get ms i m m e))

  -- the parts from a number on
  pub no-parts-left : (before : List Tree) (u : Tree) (f : Form) (n : ℕ) → IsKnown before u f → slice_get f.parts.items n ≡ None → drop n (parts_of S u) ≡ []
  no-parts-left before u f n k e =
      let past = none-past f.parts.items n e in
      drop_all n (parts_of S u) (omega (arith, past, sym (ap length k.kept.parts.trees) ∙ length-map f.parts.items (member_tree t)))

  pub parts-left : (before : List Tree) (u : Tree) (f : Form) (n : ℕ) (p : Member) → IsKnown before u f → slice_get f.parts.items n ≡ Some p → drop n (parts_of S u) ≡ member_tree t p ∷ drop (n + 1) (parts_of S u)
  parts-left before u f n p k e =
      let within = slice_get_within f.parts.items n p e in
      let lt : n < length (parts_of S u) = omega (arith, within, sym (ap length k.kept.parts.trees) ∙ length-map f.parts.items (member_tree t)) in
      at_drop_more (λ us. us) (parts_of S u) n (Con 0) lt ∙ ap (λ q. q ∷ drop (n + 1) (parts_of S u)) (ap (λ us. at us n) (sym k.kept.parts.trees) ∙ sym (tree-at f.parts.items n p e))

-- ---- the place of a member

-- a tree that is there is found, and no later than there
find-place : (all : List Tree) (u : Tree) (k : ℕ) → k < length all → at all k ≡ u → (position_or_len (tree_eq u) all ≤ k) × (at all (position_or_len (tree_eq u) all) ≡ u)
find-place all u k lt is = go (nat_lt k n) refl
  where
    n : ℕ
    n = position_or_len (tree_eq u) all

    go : (b : Bool) → nat_lt k n ≡ b → (n ≤ k) × (at all n ≡ u)
    go true e = absurd (true≢false (sym (tree_refl u) ∙ ap (tree_eq u) (sym is) ∙ fails_before_first (tree_eq u) all k (Con 0) (leb-true (suc k) n e)))
    go false e =
        let le : n ≤ k = omega (arith, leb-false (suc k) n e) in
        (le, sym (tree_same u (at all n) (passes_at_first (tree_eq u) all (Con 0) (omega (arith, le, lt)))))

-- one of the first i is found, and it is one of them
pub found-at : (all : List Tree) (i : ℕ) (u : Tree) (o : Option ℕ) → o ≡ position (tree_eq u) all → Contains (take i all) u → (j : ℕ) × (o ≡ Some j) × (j < i) × (j < length all) × (at all j ≡ u)
found-at all i u o e c =
    let short : length (take i all) ≡ min i (length all) = length-take i all in
    let lt : c.0 < min i (length all) = omega (arith, short, c.1) in
    let within : c.0 < length all = omega (arith, lt) in
    let before : c.0 < i = omega (arith, lt) in
    let is : at all c.0 ≡ u = sym (read all c.0 within) ∙ sym (get_or-take i all c.0 u before) ∙ c.2 in
    let found = find-place all u c.0 within is in
    (position_or_len (tree_eq u) all, e ∙ ap (λ b. cond b (Some (position_or_len (tree_eq u) all)) None) (le-leb (suc (position_or_len (tree_eq u) all)) (length all) (omega (arith, found.0, within))), omega (arith, found.0, before), omega (arith, found.0, within), found.1)
  where
    read : (us : List Tree) (k : ℕ) → k < length us → slice_index_or us k u ≡ at us k
    read us k lt = get_or_default us k u (Con 0) lt

-- what is kept of each of the first n trees
pub kept-at : {X : Type 0} (f : Tree → X) (all : List Tree) (n j r : ℕ) (u : Tree) (xs : List X) (d : X) → xs ≡ map f (take n all) → j < n → j < length all → at all j ≡ u → j ≡ r → slice_index_or xs r d ≡ f u
kept-at f all n j r u xs d e lt within is same =
    let short : length (take n all) ≡ min n (length all) = length-take n all in
    ap₂ (λ ys k. slice_index_or ys k d) e (sym same) ∙ get_or-map f (take n all) j (Con 0) d (omega (arith, short, lt, within)) ∙ ap f (get_or-take n all j (Con 0) lt ∙ is)

-- ---- as a member is measured

module _ (S : Signature) (all : List Tree) where
  pub own-form : (u : Tree) → is_value u ≡ true → own S all u ≡ with_parts S (as_part S all) (form S u)
  own-form u v = go (height u) refl
    where
      part : (d : ℕ) (p : Tree) → measured S all d p ≡ own S all p → (if wants_line S all p (measured S all d p) then stand_in else measured S all d p) ≡ as_part S all p
      part d p same = ap (λ s. if wants_line S all p s then stand_in else s) same

      go : (d : ℕ) → height u ≡ d → measured S all d u ≡ with_parts S (as_part S all) (form S u)
      go zero e = absurd (omega (arith, some_height u))
      go (suc d) e =
          with_parts-same S _ (as_part S all) (form S u)
          (All-weaker (IsLower (height u)) _ (λ p b. part d p (measured-same S all d (height p) p b.value (omega (arith, b.lower)) (omega arith))) (parts_of S u) (parts-below S u v))
