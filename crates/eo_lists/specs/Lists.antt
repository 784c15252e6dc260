-- Lists that terms spell, and the operators on them (Ethos manual, list operators).
use Rattle.std.specs.Prelude.{ℕ, ℤ, pos, negsuc, Bool, not, nat_le, if◌then◌else◌, List, [], ◌∷◌, ◌++◌, reverse, length, filter, count_by, position, slice_get, Option, Some, None, option_map, option_and_then}
use Rattle.std.specs.List.{list_all}
use Rattle.eo_term.specs.declared.OpName.{OpName}
use Rattle.eo_term.specs.Tree.{Tree, Con, Num, App, truth, tree_eq}
use Rattle.eo_sig.specs.Signature.{Signature, terminator}

-- A constant f with a terminator n spells lists: n is the empty one, and f a t is a followed by the list that t spells.

-- an item before what spells the rest
abbrev pub link : Tree → Tree → Tree → Tree
link f a t = App (App f a) t

abbrev pub spell : Tree → Tree → List Tree → Tree
spell f n [] = n
spell f n (a ∷ items) = link f a (spell f n items)

-- what spells the items by the constant of this number, if it has a terminator
abbrev pub list_by : Signature → ℕ → List Tree → Option Tree
list_by S f items = option_map (λ n. spell (Con f) n items) (terminator S f)

abbrev pub none_or_empty : Bool → Option (List Tree)
none_or_empty is_terminator = if is_terminator then Some [] else None

-- the list that a tree spells, if it spells one
abbrev pub spelled : Tree → Tree → Tree → Option (List Tree)
spelled f n (App (App g a) t) =
    if tree_eq (App (App g a) t) n then Some [] else (if tree_eq g f then option_map (λ items. a ∷ items) (spelled f n t) else None)
spelled f n t = none_or_empty (tree_eq t n)

-- Lists of any things, with a test of which are the same.
module _ {X : Type 0} (same : X → X → Bool) where
  -- without the first item that is the same as a
  abbrev pub erase : X → List X → List X
  erase a [] = []
  erase a (x ∷ xs) = if same a x then xs else x ∷ erase a xs

  -- the first occurrence of each item
  abbrev pub set_of : List X → List X
  set_of [] = []
  set_of (x ∷ xs) = x ∷ filter (λ y. not (same x y)) (set_of xs)

  abbrev pub times : X → List X → ℕ
  times a xs = count_by (same a) xs

  -- each item of the second occurs in the first at least as often
  abbrev pub includes : List X → List X → Bool
  includes xs ys = list_all (λ a. nat_le (times a ys) (times a xs)) ys

abbrev pub item_at : Tree → List Tree → Option Tree
item_at (Num (pos n)) xs = slice_get xs n
item_at _ xs = None

abbrev pub place_or_none : Option ℕ → ℤ
place_or_none None = negsuc 0
place_or_none (Some k) = pos k

-- the place of the first item that equals a, or -1
abbrev pub place_in : Tree → List Tree → ℤ
place_in a xs = place_or_none (position (tree_eq a) xs)

-- The operators on lists of f, whose terminator is n, by the arguments after f. None is stuck.
module _ (f n : Tree) where
  -- what a function makes of the list that a tree spells
  abbrev pub on_list : Tree → (List Tree → Option Tree) → Option Tree
  on_list t make = option_and_then make (spelled f n t)

  abbrev pub as_list : List Tree → Option Tree
  as_list items = Some (spell f n items)

  abbrev pub nil : List Tree → Option Tree
  nil [] = Some n
  nil _ = None

  abbrev pub cons : List Tree → Option Tree
  cons (a ∷ t ∷ []) = on_list t (λ xs. as_list (a ∷ xs))
  cons _ = None

  abbrev pub list_len : List Tree → Option Tree
  list_len (t ∷ []) = on_list t (λ xs. Some (Num (pos (length xs))))
  list_len _ = None

  abbrev pub list_concat : List Tree → Option Tree
  list_concat (s ∷ t ∷ []) = on_list s (λ xs. on_list t (λ ys. as_list (xs ++ ys)))
  list_concat _ = None

  abbrev pub list_nth : List Tree → Option Tree
  list_nth (t ∷ i ∷ []) = on_list t (item_at i)
  list_nth _ = None

  abbrev pub list_find : List Tree → Option Tree
  list_find (t ∷ a ∷ []) = on_list t (λ xs. Some (Num (place_in a xs)))
  list_find _ = None

  abbrev pub list_rev : List Tree → Option Tree
  list_rev (t ∷ []) = on_list t (λ xs. as_list (reverse xs))
  list_rev _ = None

  abbrev pub list_erase : List Tree → Option Tree
  list_erase (t ∷ a ∷ []) = on_list t (λ xs. as_list (erase tree_eq a xs))
  list_erase _ = None

  abbrev pub list_setof : List Tree → Option Tree
  list_setof (t ∷ []) = on_list t (λ xs. as_list (set_of tree_eq xs))
  list_setof _ = None

  abbrev pub list_minclude : List Tree → Option Tree
  list_minclude (s ∷ t ∷ []) = on_list s (λ xs. on_list t (λ ys. Some (truth (includes tree_eq xs ys))))
  list_minclude _ = None

  abbrev pub by_operator : OpName → List Tree → Option Tree
  by_operator OpName.Nil ts = nil ts
  by_operator OpName.Cons ts = cons ts
  by_operator OpName.ListLen ts = list_len ts
  by_operator OpName.ListConcat ts = list_concat ts
  by_operator OpName.ListNth ts = list_nth ts
  by_operator OpName.ListFind ts = list_find ts
  by_operator OpName.ListRev ts = list_rev ts
  by_operator OpName.ListErase ts = list_erase ts
  by_operator OpName.ListSetof ts = list_setof ts
  by_operator OpName.ListMinclude ts = list_minclude ts
  by_operator _ ts = None

-- the terminator of a constant that has one
abbrev pub terminator_of_tree : Signature → Tree → Option Tree
terminator_of_tree S (Con f) = terminator S f
terminator_of_tree S _ = None

-- The value of a list operator. The first argument is a constant with a terminator.
abbrev pub list_value : Signature → OpName → List Tree → Option Tree
list_value S o [] = None
list_value S o (f ∷ ts) = option_and_then (λ n. by_operator f n o ts) (terminator_of_tree S f)
