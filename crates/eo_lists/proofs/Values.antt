-- List operators on values give values.
use Rattle.std.specs.Prelude.{◌≡◌, ℕ, zero, suc, pos, Bool, true, false, not, if◌then◌else◌, List, [], ◌∷◌, ◌++◌, reverse, filter, length, Option, Some, None, is_some, option_and_then, slice_get, refl}
use Rattle.std.specs.List.{list_all}
use Rattle.std.proofs.Common.{ap, subst}
use Rattle.eo_term.proofs.Values.{truth_value}
use mathlib.Core.List.{reverse_aux}
use Rattle.eo_base.proofs.Tests.{both, join, clash}
use Rattle.eo_term.specs.declared.OpName.{OpName}
use Rattle.eo_term.specs.Tree.{Tree, Con, Num, truth, is_value, tree_eq}
use Rattle.eo_sig.specs.Signature.{Signature, terminator}
use Rattle.eo_lists.specs.Lists.{spell, spelled, erase, set_of, includes, item_at, place_in, on_list, as_list, by_operator, list_value}
use Rattle.eo_lists.proofs.Spell.{spell-spelled, spell_value}

abbrev AreValues : List Tree → Type 0
AreValues ts = list_all is_value ts ≡ true

some_same : (P : Tree → Type 0) (t u : Tree) → Some t ≡ Some u → P t → P u
some_same P t u e p = subst P (ap or_t e) p
  where
    or_t : Option Tree → Tree
    or_t None = t
    or_t (Some x) = x

values_append : (xs ys : List Tree) → AreValues xs → AreValues ys → AreValues (xs ++ ys)
values_append [] ys h k = k
values_append (x ∷ xs) ys h k = join (both h).0 (values_append xs ys (both h).1 k)

values_reverse_aux : (xs ys : List Tree) → AreValues xs → AreValues ys → AreValues (reverse_aux xs ys)
values_reverse_aux [] ys h k = k
values_reverse_aux (x ∷ xs) ys h k = values_reverse_aux xs (x ∷ ys) (both h).1 (join (both h).0 k)

values_erase : (a : Tree) (xs : List Tree) → AreValues xs → AreValues (erase tree_eq a xs)
values_erase a [] h = refl
values_erase a (x ∷ xs) h = by_test (tree_eq a x) (values_erase a xs (both h).1)
  where
    by_test : (b : Bool) → AreValues (erase tree_eq a xs) → AreValues (if b then xs else x ∷ erase tree_eq a xs)
    by_test true k = (both h).1
    by_test false k = join (both h).0 k

values_filter : (p : Tree → Bool) (xs : List Tree) → AreValues xs → AreValues (filter p xs)
values_filter p [] h = refl
values_filter p (x ∷ xs) h = by_test (p x) (values_filter p xs (both h).1)
  where
    by_test : (b : Bool) → AreValues (filter p xs) → AreValues (if b then x ∷ filter p xs else filter p xs)
    by_test true k = join (both h).0 k
    by_test false k = k

values_set_of : (xs : List Tree) → AreValues xs → AreValues (set_of tree_eq xs)
values_set_of [] h = refl
values_set_of (x ∷ xs) h = join (both h).0 (values_filter (λ y. not (tree_eq x y)) (set_of tree_eq xs) (values_set_of xs (both h).1))

values_get : (xs : List Tree) (k : ℕ) (u : Tree) → AreValues xs → slice_get xs k ≡ Some u → is_value u ≡ true
values_get [] k u h e = clash (ap is_some e)
values_get (x ∷ xs) zero u h e = some_same (λ t. is_value t ≡ true) x u e (both h).0
values_get (x ∷ xs) (suc k) u h e = values_get xs k u (both h).1 e

values_item : (i : Tree) (xs : List Tree) (u : Tree) → AreValues xs → item_at i xs ≡ Some u → is_value u ≡ true
values_item (Num (pos k)) xs u h e = values_get xs k u h e
values_item _ xs u h e = clash (ap is_some e)

module _ (f n : Tree) (constant : is_value f ≡ true) (terminates : is_value n ≡ true) where
  abbrev GivesValue : Option Tree → Type 0
  GivesValue o = (u : Tree) → o ≡ Some u → is_value u ≡ true

  none_value : GivesValue None
  none_value u e = clash (ap is_some e)

  some_value : (t : Tree) → is_value t ≡ true → GivesValue (Some t)
  some_value t h u e = some_same (λ x. is_value x ≡ true) t u e h

  list_value' : (xs : List Tree) → AreValues xs → GivesValue (as_list f n xs)
  list_value' xs h = some_value (spell f n xs) (spell_value f n xs constant terminates h)

  on_list_value : (t : Tree) (make : List Tree → Option Tree) → is_value t ≡ true → ((xs : List Tree) → AreValues xs → GivesValue (make xs)) → GivesValue (on_list f n t make)
  on_list_value t make h g u e = by_list (spelled f n t) refl e
    where
      by_list : (o : Option (List Tree)) → spelled f n t ≡ o → option_and_then make o ≡ Some u → is_value u ≡ true
      by_list None p q = clash (ap is_some q)
      by_list (Some xs) p q = g xs ((spell-spelled f n t xs p).1 h) u q

  pub by_operator_value : (o : OpName) (ts : List Tree) → AreValues ts → GivesValue (by_operator f n o ts)
  by_operator_value OpName.Nil [] h = some_value n terminates
  by_operator_value OpName.Cons (a ∷ t ∷ []) h =
      on_list_value t (λ xs. as_list f n (a ∷ xs)) (both (both h).1).0 (λ xs k. list_value' (a ∷ xs) (join (both h).0 k))
  by_operator_value OpName.ListLen (t ∷ []) h =
      on_list_value t (λ xs. Some (Num (pos (length xs)))) (both h).0 (λ xs k. some_value (Num (pos (length xs))) refl)
  by_operator_value OpName.ListConcat (s ∷ t ∷ []) h =
      on_list_value s (λ xs. on_list f n t (λ ys. as_list f n (xs ++ ys))) (both h).0 (λ xs k. on_list_value t (λ ys. as_list f n (xs ++ ys)) (both (both h).1).0 (λ ys l. list_value' (xs ++ ys) (values_append xs ys k l)))
  by_operator_value OpName.ListNth (t ∷ i ∷ []) h = on_list_value t (item_at i) (both h).0 (λ xs k u e. values_item i xs u k e)
  by_operator_value OpName.ListFind (t ∷ a ∷ []) h =
      on_list_value t (λ xs. Some (Num (place_in a xs))) (both h).0 (λ xs k. some_value (Num (place_in a xs)) refl)
  by_operator_value OpName.ListRev (t ∷ []) h =
      on_list_value t (λ xs. as_list f n (reverse xs)) (both h).0 (λ xs k. list_value' (reverse xs) (values_reverse_aux xs [] k refl))
  by_operator_value OpName.ListErase (t ∷ a ∷ []) h =
      on_list_value t (λ xs. as_list f n (erase tree_eq a xs)) (both h).0 (λ xs k. list_value' (erase tree_eq a xs) (values_erase a xs k))
  by_operator_value OpName.ListSetof (t ∷ []) h =
      on_list_value t (λ xs. as_list f n (set_of tree_eq xs)) (both h).0 (λ xs k. list_value' (set_of tree_eq xs) (values_set_of xs k))
  by_operator_value OpName.ListMinclude (s ∷ t ∷ []) h =
      on_list_value s (λ xs. on_list f n t (λ ys. Some (truth (includes tree_eq xs ys)))) (both h).0 (λ xs k. on_list_value t (λ ys. Some (truth (includes tree_eq xs ys))) (both (both h).1).0 (λ ys l. some_value (truth (includes tree_eq xs ys)) (truth_value (includes tree_eq xs ys))))
  by_operator_value _ _ h = none_value

pub list_value_value : (S : Signature) → ((f : ℕ) (n : Tree) → terminator S f ≡ Some n → is_value n ≡ true) → (o : OpName) (ts : List Tree) (u : Tree) → AreValues ts → list_value S o ts ≡ Some u → is_value u ≡ true
list_value_value S terms o [] u h e = clash (ap is_some e)
list_value_value S terms o (Con f ∷ ts) u h e = by_terminator (terminator S f) refl e
  where
    by_terminator : (t : Option Tree) → terminator S f ≡ t → option_and_then (λ n. by_operator (Con f) n o ts) t ≡ Some u → is_value u ≡ true
    by_terminator None p q = clash (ap is_some q)
    by_terminator (Some n) p q = by_operator_value (Con f) n refl (terms f n p) o ts h u q
list_value_value S terms o _ u h e = clash (ap is_some e)
