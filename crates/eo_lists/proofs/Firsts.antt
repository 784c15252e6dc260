-- The first occurrence of each item: inserted one after the other, and by ids in place of trees.
use Rattle.std.proofs.Common.{◌≡◌, ℕ, ◌<◌, Bool, true, false, not, cond, ◌&&◌, ◌||◌, nat_eq, List, [], ◌∷◌, ◌++◌, map, filter, length, All, if◌then◌else◌, refl, sym, ap, ◌∙◌, append_assoc, arith}
use Rattle.std.specs.List.{list_any}
use Rattle.std.proofs.lemmas.Bool.{eqb-true}
use Rattle.std.proofs.lemmas.Bool.Decides.{nat_tests}
use Rattle.std.proofs.lemmas.List.{append-nil}
use Rattle.std.proofs.lemmas.List.Elements.{All-cons, All-head, All-tail, All-filter}
use Rattle.std.proofs.lemmas.List.Folds.{list_any-append}
use Rattle.indexmap.specs.IndexSet.{insert_all}
use Rattle.eo_term.specs.Terms.{tree_at}
use Rattle.eo_term.specs.Tree.{Tree, tree_eq}
use Rattle.eo_lists.specs.Lists.{set_of}

-- ---- lists filtered

filter_filter : {X : Type 0} (p q : X → Bool) (xs : List X) → filter p (filter q xs) ≡ filter (λ x. q x && p x) xs
filter_filter p q [] = refl
filter_filter p q (x ∷ xs) = by_test (q x) (filter_filter p q xs)
  where
    by_test : (b : Bool) → filter p (filter q xs) ≡ filter (λ y. q y && p y) xs → filter p (cond b (x ∷ filter q xs) (filter q xs)) ≡ cond (b && p x) (x ∷ filter (λ y. q y && p y) xs) (filter (λ y. q y && p y) xs)
    by_test true rest = λ k. cond (p x) (x ∷ rest k) (rest k)
    by_test false rest = rest

filter_map : {X Y : Type 0} (p : Y → Bool) (h : X → Y) (xs : List X) → filter p (map h xs) ≡ map h (filter (λ x. p (h x)) xs)
filter_map p h [] = refl
filter_map p h (x ∷ xs) = by_test (p (h x)) (filter_map p h xs)
  where
    by_test : (b : Bool) → filter p (map h xs) ≡ map h (filter (λ y. p (h y)) xs) → cond b (h x ∷ filter p (map h xs)) (filter p (map h xs)) ≡ map h (cond b (x ∷ filter (λ y. p (h y)) xs) (filter (λ y. p (h y)) xs))
    by_test true rest = ap (λ ys. h x ∷ ys) rest
    by_test false rest = rest

filter_alike : {X : Type 0} (p q : X → Bool) (xs : List X) → All (λ x. p x ≡ q x) xs → filter p xs ≡ filter q xs
filter_alike p q [] h = refl
filter_alike p q (x ∷ xs) h =
    let first = All-head (λ y. p y ≡ q y) x xs h in
    let rest = filter_alike p q xs (All-tail (λ y. p y ≡ q y) x xs h) in
    λ k. cond (first k) (x ∷ rest k) (rest k)

filter_none : {X : Type 0} (xs : List X) → filter (λ x. true) xs ≡ xs
filter_none [] = refl
filter_none (x ∷ xs) = ap (λ ys. x ∷ ys) (filter_none xs)

-- ---- inserted one after the other

-- not among these
abbrev is_new : List ℕ → ℕ → Bool
is_new found x = not (list_any (nat_eq x) found)

-- of what is after an item that is among these, that item is not new
new_later : (found : List ℕ) (x : ℕ) → is_new found x ≡ false → (y : ℕ) → is_new found y ≡ (not (nat_eq x y) && is_new found y)
new_later found x old y = by_test (nat_eq x y) refl
  where
    by_test : (b : Bool) → nat_eq x y ≡ b → is_new found y ≡ (not b && is_new found y)
    by_test true e = ap (is_new found) (sym (eqb-true x y e)) ∙ old
    by_test false e = refl

-- nor is it once it was put after these
new_behind : (found : List ℕ) (x y : ℕ) → is_new (found ++ x ∷ []) y ≡ (not (nat_eq x y) && is_new found y)
new_behind found x y = ap not (list_any-append (nat_eq y) found (x ∷ []) ∙ ap (λ b. list_any (nat_eq y) found || (b || false)) turned) ∙ by_test (nat_eq x y) (list_any (nat_eq y) found)
  where
    turned : nat_eq y x ≡ nat_eq x y
    turned = grind (arith, nat_tests)

    by_test : (b c : Bool) → not (c || (b || false)) ≡ (not b && not c)
    by_test true true = refl
    by_test true false = refl
    by_test false true = refl
    by_test false false = refl

insert_behind : (found xs : List ℕ) → insert_all nat_eq found xs ≡ found ++ filter (is_new found) (set_of nat_eq xs)
insert_behind found [] = sym (append-nil found)
insert_behind found (x ∷ xs) = by_test (list_any (nat_eq x) found) refl (λ ks. insert_behind ks xs)
  where
    others : List ℕ
    others = set_of nat_eq xs

    by_test : (b : Bool) → list_any (nat_eq x) found ≡ b → ((ks : List ℕ) → insert_all nat_eq ks xs ≡ ks ++ filter (is_new ks) others) → insert_all nat_eq (if b then found else found ++ x ∷ []) xs ≡ found ++ cond (not b) (x ∷ filter (is_new found) (filter (λ y. not (nat_eq x y)) others)) (filter (is_new found) (filter (λ y. not (nat_eq x y)) others))
    by_test true e rest =
        rest found ∙ ap (λ ys. found ++ ys) ((λ k. filter (λ y. new_later found x (ap not e) y k) others) ∙ sym (filter_filter (is_new found) (λ y. not (nat_eq x y)) others))
    by_test false e rest =
        rest (found ++ x ∷ []) ∙ append_assoc found (x ∷ []) (filter (is_new (found ++ x ∷ [])) others)
        ∙ ap (λ ys. found ++ x ∷ ys) ((λ k. filter (λ y. new_behind found x y k) others) ∙ sym (filter_filter (is_new found) (λ y. not (nat_eq x y)) others))

pub insert_all_is : (xs : List ℕ) → insert_all nat_eq [] xs ≡ set_of nat_eq xs
insert_all_is xs = insert_behind [] xs ∙ filter_none (set_of nat_eq xs)

-- ---- by ids in place of trees

pub all_set_of : {X : Type 0} (same : X → X → Bool) (P : X → Type 0) (xs : List X) → All P xs → All P (set_of same xs)
all_set_of same P [] h = h
all_set_of same P (x ∷ xs) h =
    let rest = all_set_of same P xs (All-tail P x xs h) in
    All-cons P x (filter (λ y. not (same x y)) (set_of same xs)) (All-head P x xs h) (All-filter (λ y. not (same x y)) P (set_of same xs) rest)

-- over trees of which two are equal exactly where their ids are
module _ (ts : List Tree) (equals : (i j : ℕ) → i < length ts → j < length ts → tree_eq (tree_at ts i) (tree_at ts j) ≡ nat_eq i j) where
  pub set_of_trees : (is : List ℕ) → All (λ i. i < length ts) is → set_of tree_eq (map (tree_at ts) is) ≡ map (tree_at ts) (set_of nat_eq is)
  set_of_trees [] h = refl
  set_of_trees (i ∷ is) h =
      let P : ℕ → Type 0 = λ j. j < length ts in
      let first = All-head P i is h in
      let others = set_of nat_eq is in
      let live = all_set_of nat_eq P is (All-tail P i is h) in
      ap (λ us. tree_at ts i ∷ us)
      (ap (filter (λ u. not (tree_eq (tree_at ts i) u))) (set_of_trees is (All-tail P i is h)) ∙ filter_map (λ u. not (tree_eq (tree_at ts i) u)) (tree_at ts) others
      ∙ ap (map (tree_at ts)) (filter_alike (λ j. not (tree_eq (tree_at ts i) (tree_at ts j))) (λ j. not (nat_eq i j)) others (λ k d l. ap not (equals i _ first (live k d l)))))
