-- The truth of what `and` and `or` spell, and the operators on such lists.
use Rattle.std.specs.Prelude.{if◌then◌else◌, ◌≡◌, ℕ, pos, zero, suc, Bool, true, false, ◌&&◌, ◌||◌, List, [], ◌∷◌, ◌++◌, Some, slice_get, refl}
use Rattle.std.specs.List.{list_all, list_any}
use Rattle.std.proofs.Common.{sym, ◌∙◌, ap, subst}
use Rattle.std.proofs.lemmas.Option.{none-some, same_Some}
use Rattle.eo_base.proofs.Tests.{both, join}
use Rattle.eo_term.specs.Tree.{Tree, Con, Num, truth, is_plain, tree_eq}
use Rattle.eo_term.proofs.Equality.{tree_decides}
use Rattle.eo_sig.specs.Signature.{Signature}
use Rattle.eo_lists.specs.Lists.{spell, spelled, erase, item_at}
use Rattle.eo_lists.proofs.Spell.{spell-spelled}
use Rattle.eo_sem.specs.Truth.{Valuation, holds}

-- ---- lists without operators

plain_items : (k : ℕ) (n : Tree) (items : List Tree) → is_plain (spell (Con k) n items) ≡ true → list_all is_plain items ≡ true
plain_items k n [] h = refl
plain_items k n (a ∷ items) h = join (both h).0 (plain_items k n items (both h).1)

-- the items hold no operator where the tree that spells them holds none
pub items_plain : (k : ℕ) (n t : Tree) (items : List Tree) → spelled (Con k) n t ≡ Some items → is_plain t ≡ true → list_all is_plain items ≡ true
items_plain k n t items e h =
    plain_items k n items (ap is_plain (spell-spelled (Con k) n t items e).0 ∙ h)

pub spell_plain : (k : ℕ) (n : Tree) (items : List Tree) → is_plain n ≡ true → list_all is_plain items ≡ true → is_plain (spell (Con k) n items) ≡ true
spell_plain k n [] h all = h
spell_plain k n (a ∷ items) h all = join (both all).0 (spell_plain k n items h (both all).1)

pub append_plain : (xs ys : List Tree) → list_all is_plain xs ≡ true → list_all is_plain ys ≡ true → list_all is_plain (xs ++ ys) ≡ true
append_plain [] ys h k = k
append_plain (x ∷ xs) ys h k = join (both h).0 (append_plain xs ys (both h).1 k)

pub erase_plain : (a : Tree) (xs : List Tree) → list_all is_plain xs ≡ true → list_all is_plain (erase tree_eq a xs) ≡ true
erase_plain a [] h = h
erase_plain a (x ∷ xs) h = by (tree_eq a x) (erase_plain a xs (both h).1)
  where
    by : (b : Bool) → list_all is_plain (erase tree_eq a xs) ≡ true → list_all is_plain (if b then xs else x ∷ erase tree_eq a xs) ≡ true
    by true rest = (both h).1
    by false rest = join (both h).0 rest

module _ (S : Signature) (V : Valuation) where
  pub and_spell : (items : List Tree) → holds S V (spell (Con 8) (truth true) items) ≡ list_all (holds S V) items
  and_spell [] = refl
  and_spell (a ∷ items) = ap (λ (b : Bool). holds S V a && b) (and_spell items)

  pub or_spell : (items : List Tree) → holds S V (spell (Con 9) (truth false) items) ≡ list_any (holds S V) items
  or_spell [] = refl
  or_spell (a ∷ items) = ap (λ (b : Bool). holds S V a || b) (or_spell items)

  -- a conjunction is true where all of its items are
  pub and_list : (t : Tree) (items : List Tree) → spelled (Con 8) (truth true) t ≡ Some items → holds S V t ≡ list_all (holds S V) items
  and_list t items e = ap (holds S V) (sym (spell-spelled (Con 8) (truth true) t items e).0) ∙ and_spell items

  -- a clause is true where one of its items is
  pub or_list : (t : Tree) (items : List Tree) → spelled (Con 9) (truth false) t ≡ Some items → holds S V t ≡ list_any (holds S V) items
  or_list t items e = ap (holds S V) (sym (spell-spelled (Con 9) (truth false) t items e).0) ∙ or_spell items

  or_append : (b c d : Bool) → (b || (c || d)) ≡ ((b || c) || d)
  or_append true c d = refl
  or_append false c d = refl

  pub any_append : (xs ys : List Tree) → list_any (holds S V) (xs ++ ys) ≡ list_any (holds S V) xs || list_any (holds S V) ys
  any_append [] ys = refl
  any_append (x ∷ xs) ys =
      ap (λ (b : Bool). holds S V x || b) (any_append xs ys) ∙ or_append (holds S V x) (list_any (holds S V) xs) (list_any (holds S V) ys)

  -- without an item that is false, a clause is as true as before
  pub any_erase : (a : Tree) (xs : List Tree) → holds S V a ≡ false → list_any (holds S V) (erase tree_eq a xs) ≡ list_any (holds S V) xs
  any_erase a [] h = refl
  any_erase a (x ∷ xs) h = by (tree_eq a x) refl (any_erase a xs h)
    where
      by : (b : Bool) → tree_eq a x ≡ b → list_any (holds S V) (erase tree_eq a xs) ≡ list_any (holds S V) xs → list_any (holds S V) (if b then xs else x ∷ erase tree_eq a xs) ≡ holds S V x || list_any (holds S V) xs
      by true p rest = sym (ap (λ (b : Bool). b || list_any (holds S V) xs) (sym (ap (holds S V) ((tree_decides a x).0 p)) ∙ h))
      by false p rest = ap (λ (b : Bool). holds S V x || b) rest

  -- an item of a list that is true is true
  pub item_holds : (i : Tree) (xs : List Tree) (t : Tree) → item_at i xs ≡ Some t → list_all (holds S V) xs ≡ true → holds S V t ≡ true
  item_holds (Num (pos n)) xs t e all = by n xs e all
    where
      by : (n : ℕ) (xs : List Tree) → slice_get xs n ≡ Some t → list_all (holds S V) xs ≡ true → holds S V t ≡ true
      by n [] e all = absurd (none-some t e)
      by zero (x ∷ xs) e all = subst (λ (u : Tree). holds S V u ≡ true) (same_Some x t e) (both all).0
      by (suc n) (x ∷ xs) e all = by n xs e (both all).1
  item_holds i xs t e all = absurd (none-some t e)
