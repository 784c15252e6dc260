-- The operators on lists give trees within their ranges.
use Rattle.std.specs.Prelude.{◌≡◌, ℕ, zero, suc, ◌≤◌, pos, Bool, true, false, not, if◌then◌else◌, List, [], ◌∷◌, ◌++◌, reverse, length, filter, slice_get, cond, nat_lt, Option, Some, None, option_and_then, refl}
use mathlib.Core.List.{reverse_aux}
use Rattle.std.specs.List.{position_or_len}
use Rattle.std.proofs.Common.{subst, sym, ap, ◌∙◌, arith}
use Rattle.std.proofs.lemmas.Bool.{ltb-true}
use Rattle.std.proofs.lemmas.List.Folds.{list_all-append}
use Rattle.eo_base.specs.Limits.{height_limit}
use Rattle.eo_base.proofs.Tests.{both, join}
use Rattle.eo_term.specs.declared.OpName.{OpName}
use Rattle.eo_term.specs.Tree.{Tree, Con, Num, height, truth, tree_eq}
use Rattle.eo_ops.specs.Operators.{is_in_range}
use Rattle.eo_sig.specs.Signature.{Signature, terminator}
use Rattle.eo_lists.specs.Lists.{spell, spelled, erase, set_of, includes, item_at, place_or_none, place_in, on_list, as_list, by_operator, list_value}
use Rattle.eo_lists.proofs.Spell.{spell-spelled}
use Rattle.eo_roundtrip.proofs.Within.{is_within}
use Rattle.eo_roundtrip.proofs.Ranges.{IsWithin, AreWithin, truth-within, small-fits}
use Rattle.eo_roundtrip.proofs.Puts.{SomeWithin}

both-within : (xs ys : List Tree) → AreWithin xs → AreWithin ys → AreWithin (xs ++ ys)
both-within xs ys h k = list_all-append is_within xs ys ∙ join h k

reversed-within : (xs ys : List Tree) → AreWithin xs → AreWithin ys → AreWithin (reverse_aux xs ys)
reversed-within [] ys h k = k
reversed-within (x ∷ xs) ys h k = reversed-within xs (x ∷ ys) (both h).1 (join (both h).0 k)

erased-within : (a : Tree) (xs : List Tree) → AreWithin xs → AreWithin (erase tree_eq a xs)
erased-within a [] h = refl
erased-within a (x ∷ xs) h = by_test (tree_eq a x) (erased-within a xs (both h).1)
  where
    by_test : (b : Bool) → AreWithin (erase tree_eq a xs) → AreWithin (if b then xs else x ∷ erase tree_eq a xs)
    by_test true k = (both h).1
    by_test false k = join (both h).0 k

filtered-within : (p : Tree → Bool) (xs : List Tree) → AreWithin xs → AreWithin (filter p xs)
filtered-within p [] h = refl
filtered-within p (x ∷ xs) h = by_test (p x) (filtered-within p xs (both h).1)
  where
    by_test : (b : Bool) → AreWithin (filter p xs) → AreWithin (if b then x ∷ filter p xs else filter p xs)
    by_test true k = join (both h).0 k
    by_test false k = k

set-within : (xs : List Tree) → AreWithin xs → AreWithin (set_of tree_eq xs)
set-within [] h = refl
set-within (x ∷ xs) h = join (both h).0 (filtered-within (λ y. not (tree_eq x y)) (set_of tree_eq xs) (set-within xs (both h).1))

got-within : (xs : List Tree) (k : ℕ) → AreWithin xs → SomeWithin (slice_get xs k)
got-within [] k h = tt
got-within (x ∷ xs) zero h = (both h).0
got-within (x ∷ xs) (suc k) h = got-within xs k (both h).1

item-within : (i : Tree) (xs : List Tree) → AreWithin xs → SomeWithin (item_at i xs)
item-within (Num (pos k)) xs h = got-within xs k h
item-within _ xs h = tt

-- ---- lists that are spelled

spell-within : (f n : Tree) (xs : List Tree) → IsWithin f → IsWithin n → AreWithin xs → IsWithin (spell f n xs)
spell-within f n [] h k l = k
spell-within f n (x ∷ xs) h k l = join (join h (both l).0) (spell-within f n xs h k (both l).1)

items-within : (f n : Tree) (xs : List Tree) → IsWithin (spell f n xs) → AreWithin xs
items-within f n [] h = refl
items-within f n (x ∷ xs) h = join (both (both h).0).1 (items-within f n xs (both h).1)

items-few : (f n : Tree) (xs : List Tree) → length xs ≤ height (spell f n xs)
items-few f n [] = omega arith
items-few f n (x ∷ xs) = omega (arith, items-few f n xs)

place-low : (a : Tree) (xs : List Tree) → length xs ≤ height_limit → is_in_range (place_in a xs) ≡ true
place-low a xs few = by_test (nat_lt (position_or_len (tree_eq a) xs) (length xs)) refl
  where
    by_test : (b : Bool) → nat_lt (position_or_len (tree_eq a) xs) (length xs) ≡ b → is_in_range (place_or_none (cond b (Some (position_or_len (tree_eq a) xs)) None)) ≡ true
    by_test true e = small-fits (position_or_len (tree_eq a) xs) (omega (arith, few, ltb-true (position_or_len (tree_eq a) xs) (length xs) e))
    by_test false e = refl

abbrev pub AreLow : List Tree → Type 0
AreLow [] = Unit {0}
AreLow (t ∷ ts) = (height t ≤ height_limit) × AreLow ts

module _ (f n : Tree) (constant : IsWithin f) (ends : IsWithin n) where
  spelled-within : (xs : List Tree) → AreWithin xs → IsWithin (spell f n xs)
  spelled-within xs h = spell-within f n xs constant ends h

  on-list : (t : Tree) (make : List Tree → Option Tree) → IsWithin t → height t ≤ height_limit →
      ((xs : List Tree) → AreWithin xs → length xs ≤ height_limit → SomeWithin (make xs)) → SomeWithin (on_list f n t make)
  on-list t make h low g = by_list (spelled f n t) refl
    where
      by_list : (o : Option (List Tree)) → spelled f n t ≡ o → SomeWithin (option_and_then make o)
      by_list None e = tt
      by_list (Some xs) e =
          let same = (spell-spelled f n t xs e).0 in
          g xs (items-within f n xs (subst IsWithin (sym same) h)) (omega (arith, items-few f n xs, ap height same, low))

  pub by-operator : (o : OpName) (ts : List Tree) → AreWithin ts → AreLow ts → SomeWithin (by_operator f n o ts)
  by-operator OpName.Nil [] h l = ends
  by-operator OpName.Cons (a ∷ t ∷ []) h l =
      on-list t (λ xs. as_list f n (a ∷ xs)) (both (both h).1).0 l.1.0 (λ xs k few. spelled-within (a ∷ xs) (join (both h).0 k))
  by-operator OpName.ListLen (t ∷ []) h l =
      on-list t (λ xs. Some (Num (pos (length xs)))) (both h).0 l.0 (λ xs k few. small-fits (length xs) (omega (arith, few)))
  by-operator OpName.ListConcat (s ∷ t ∷ []) h l =
      on-list s (λ xs. on_list f n t (λ ys. as_list f n (xs ++ ys))) (both h).0 l.0
      (λ xs k few. on-list t (λ ys. as_list f n (xs ++ ys)) (both (both h).1).0 l.1.0 (λ ys m some. spelled-within (xs ++ ys) (both-within xs ys k m)))
  by-operator OpName.ListNth (t ∷ i ∷ []) h l = on-list t (item_at i) (both h).0 l.0 (λ xs k few. item-within i xs k)
  by-operator OpName.ListFind (t ∷ a ∷ []) h l =
      on-list t (λ xs. Some (Num (place_in a xs))) (both h).0 l.0 (λ xs k few. place-low a xs few)
  by-operator OpName.ListRev (t ∷ []) h l =
      on-list t (λ xs. as_list f n (reverse xs)) (both h).0 l.0 (λ xs k few. spelled-within (reverse xs) (reversed-within xs [] k refl))
  by-operator OpName.ListErase (t ∷ a ∷ []) h l =
      on-list t (λ xs. as_list f n (erase tree_eq a xs)) (both h).0 l.0 (λ xs k few. spelled-within (erase tree_eq a xs) (erased-within a xs k))
  by-operator OpName.ListSetof (t ∷ []) h l =
      on-list t (λ xs. as_list f n (set_of tree_eq xs)) (both h).0 l.0 (λ xs k few. spelled-within (set_of tree_eq xs) (set-within xs k))
  by-operator OpName.ListMinclude (s ∷ t ∷ []) h l =
      on-list s (λ xs. on_list f n t (λ ys. Some (truth (includes tree_eq xs ys)))) (both h).0 l.0
      (λ xs k few. on-list t (λ ys. Some (truth (includes tree_eq xs ys))) (both (both h).1).0 l.1.0 (λ ys m some. truth-within (includes tree_eq xs ys)))
  by-operator _ _ h l = tt

pub list-values : (S : Signature) → ((f : ℕ) (n : Tree) → terminator S f ≡ Some n → IsWithin n) → (o : OpName) (ts : List Tree) → AreWithin ts → AreLow ts → SomeWithin (list_value S o ts)
list-values S terms o [] h l = tt
list-values S terms o (Con f ∷ ts) h l = by_terminator (terminator S f) refl
  where
    by_terminator : (t : Option Tree) → terminator S f ≡ t → SomeWithin (option_and_then (λ n. by_operator (Con f) n o ts) t)
    by_terminator None e = tt
    by_terminator (Some n) e = by-operator (Con f) n refl (terms f n e) o ts h l.1
list-values S terms o _ h l = tt
