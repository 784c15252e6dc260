-- Operations on items by their ids and by their trees.
use Rattle.std.proofs.Common.{◌≡◌, ℕ, suc, ◌+◌, ◌<◌, Bool, true, false, cond, ◌&&◌, nat_eq, nat_le, nat_lt, List, [], ◌∷◌, map, length, All, position, Option, Some, None, if◌then◌else◌, refl, sym, ap, ◌∙◌}
use Rattle.std.specs.Option.{option_map_or}
use Rattle.std.specs.List.{list_all, position_or_len}
use Rattle.std.proofs.lemmas.List.{length-map}
use Rattle.std.proofs.lemmas.List.Recursion.{is_count_by}
use Rattle.std.proofs.lemmas.List.Recursion.{is_position_or_len}
use Rattle.std.proofs.lemmas.List.Elements.{All-head, All-tail}
use Rattle.std.proofs.lemmas.List.Folds.{list_all-map}
use Rattle.eo_term.specs.Terms.{tree_at}
use Rattle.eo_term.specs.Tree.{Tree, tree_eq}
use Rattle.eo_lists.specs.Lists.{times, includes}
use Rattle.std.proofs.lemmas.Bool.{eqb-true}
use Rattle.eo_lists.specs.Parts.{counted}
use Rattle.std.specs.Map.{lookup}

-- one more of an id is counted
pub count_more : (id k v : ℕ) (m : List (ℕ × ℕ)) (o : Option ℕ) → v ≡ suc (counted m id) → o ≡ (if nat_eq id k then Some v else lookup (nat_eq k) m) → option_map_or (λ (x : ℕ). x) o 0 ≡ (if nat_eq id k then suc (counted m k) else counted m k)
count_more id k v m o e h = ap (λ p. option_map_or (λ (x : ℕ). x) p 0) h ∙ by_test (nat_eq id k) refl
  where
    by_test : (b : Bool) → nat_eq id k ≡ b → option_map_or (λ (x : ℕ). x) (if b then Some v else lookup (nat_eq k) m) 0 ≡ (if b then suc (counted m k) else counted m k)
    by_test true p = e ∙ ap (λ j. suc (counted m j)) (eqb-true id k p)
    by_test false p = refl

-- counts and places by recursion from the front
abbrev tally : {X : Type 0} → (X → Bool) → List X → ℕ
tally p [] = 0
tally p (x ∷ xs) = cond (p x) (1 + tally p xs) (tally p xs)

abbrev pub seek : {X : Type 0} → (X → Bool) → List X → ℕ
seek p [] = 0
seek p (x ∷ xs) = cond (p x) 0 (1 + seek p xs)

pub seek_is : {X : Type 0} (p : X → Bool) (xs : List X) → seek p xs ≡ position_or_len p xs
seek_is p xs = is_position_or_len (seek p) p refl (λ x xs. refl) xs

-- over trees of which two are equal exactly where their ids are
module _ (ts : List Tree) (equals : (i j : ℕ) → i < length ts → j < length ts → tree_eq (tree_at ts i) (tree_at ts j) ≡ nat_eq i j) where
  abbrev AreLive : List ℕ → Type 0
  AreLive is = All (λ i. i < length ts) is

  tally_trees : (a : ℕ) → a < length ts → (is : List ℕ) → AreLive is → tally (tree_eq (tree_at ts a)) (map (tree_at ts) is) ≡ tally (nat_eq a) is
  tally_trees a l [] h = refl
  tally_trees a l (i ∷ is) h =
      let rest = tally_trees a l is (All-tail (λ (j : ℕ). j < length ts) i is h) in
      λ k. cond (equals a i l (All-head (λ (j : ℕ). j < length ts) i is h) k) (1 + rest k) (rest k)

  pub times_trees : (a : ℕ) → a < length ts → (is : List ℕ) → AreLive is → times tree_eq (tree_at ts a) (map (tree_at ts) is) ≡ times nat_eq a is
  times_trees a l is h =
      sym (is_count_by (tally (tree_eq (tree_at ts a))) (tree_eq (tree_at ts a)) refl (λ x xs. refl) (map (tree_at ts) is)) ∙ tally_trees a l is h ∙ is_count_by (tally (nat_eq a)) (nat_eq a) refl (λ x xs. refl) is

  all_same : (is js ks : List ℕ) → AreLive is → AreLive js → AreLive ks → list_all (λ a. nat_le (times tree_eq (tree_at ts a) (map (tree_at ts) js)) (times tree_eq (tree_at ts a) (map (tree_at ts) is))) ks ≡ list_all (λ a. nat_le (times nat_eq a js) (times nat_eq a is)) ks
  all_same is js [] g h l = refl
  all_same is js (a ∷ ks) g h l =
      let m = All-head (λ (j : ℕ). j < length ts) a ks l in
      λ k. nat_le (times_trees a m js h k) (times_trees a m is g k) && all_same is js ks g h (All-tail (λ (j : ℕ). j < length ts) a ks l) k

  pub includes_trees : (is js : List ℕ) → AreLive is → AreLive js → includes tree_eq (map (tree_at ts) is) (map (tree_at ts) js) ≡ includes nat_eq is js
  includes_trees is js g h =
      list_all-map (λ a. nat_le (times tree_eq a (map (tree_at ts) js)) (times tree_eq a (map (tree_at ts) is))) (tree_at ts) js ∙ all_same is js js g h h

  seek_trees : (a : ℕ) → a < length ts → (is : List ℕ) → AreLive is → seek (tree_eq (tree_at ts a)) (map (tree_at ts) is) ≡ seek (nat_eq a) is
  seek_trees a l [] h = refl
  seek_trees a l (i ∷ is) h = λ k. cond (equals a i l (All-head (λ (j : ℕ). j < length ts) i is h) k) 0 (1 + seek_trees a l is (All-tail (λ (j : ℕ). j < length ts) i is h) k)

  first_place : (a : ℕ) → a < length ts → (is : List ℕ) → AreLive is → position_or_len (tree_eq (tree_at ts a)) (map (tree_at ts) is) ≡ position_or_len (nat_eq a) is
  first_place a l is h =
      sym (is_position_or_len (seek (tree_eq (tree_at ts a))) (tree_eq (tree_at ts a)) refl (λ x xs. refl) (map (tree_at ts) is)) ∙ seek_trees a l is h ∙ is_position_or_len (seek (nat_eq a)) (nat_eq a) refl (λ x xs. refl) is

  pub position_trees : (a : ℕ) → a < length ts → (is : List ℕ) → AreLive is → position (tree_eq (tree_at ts a)) (map (tree_at ts) is) ≡ position (nat_eq a) is
  position_trees a l is h =
      let at = first_place a l is h in
      let long = length-map is (tree_at ts) in
      λ k. cond (nat_lt (at k) (long k)) (Some (at k)) None
