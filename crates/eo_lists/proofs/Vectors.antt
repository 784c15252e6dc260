-- Operators on lists, computed.
use Rattle.std.specs.Prelude.{◌≡◌, pos, negsuc, true, false, codes, List, [], ◌∷◌, ◌++◌, Some, None, refl}
use Rattle.eo_term.specs.declared.OpName.{OpName}
use Rattle.eo_term.specs.Tree.{Tree, Con, Num, Arr, truth, bool_tree}
use Rattle.eo_sig.specs.Signature.{Signature, IsConstant, From, RightNil, first_signature}
use Rattle.eo_lists.specs.Lists.{spell, list_value}

-- or is constant 4; p, q and r are any other trees
abbrev S : Signature
S = first_signature ++ IsConstant (record { name = codes "or"; parameters = []; type = Arr bool_tree (Arr bool_tree bool_tree); attribute = RightNil (truth false); from_reference = false }) (From 1) ∷ []

abbrev or_of : List Tree → Tree
or_of ts = spell (Con 4) (truth false) ts

abbrev p : Tree
p = Con 5

abbrev q : Tree
q = Con 6

setof : list_value S OpName.ListSetof (Con 4 ∷ or_of (p ∷ q ∷ p ∷ []) ∷ []) ≡ Some (or_of (p ∷ q ∷ []))
setof = refl

minclude : list_value S OpName.ListMinclude (Con 4 ∷ or_of (p ∷ q ∷ p ∷ []) ∷ or_of (p ∷ p ∷ []) ∷ []) ≡ Some (truth true)
minclude = refl

minclude_more : list_value S OpName.ListMinclude (Con 4 ∷ or_of (p ∷ q ∷ []) ∷ or_of (p ∷ p ∷ []) ∷ []) ≡ Some (truth false)
minclude_more = refl

nil : list_value S OpName.Nil (Con 4 ∷ []) ≡ Some (truth false)
nil = refl

no_list : list_value S OpName.Cons (Con 4 ∷ p ∷ q ∷ []) ≡ None
no_list = refl

no_terminator : list_value S OpName.Nil (Con 5 ∷ []) ≡ None
no_terminator = refl

cons : list_value S OpName.Cons (Con 4 ∷ p ∷ or_of (q ∷ []) ∷ []) ≡ Some (or_of (p ∷ q ∷ []))
cons = refl

len : list_value S OpName.ListLen (Con 4 ∷ or_of (p ∷ q ∷ p ∷ []) ∷ []) ≡ Some (Num (pos 3))
len = refl

concat : list_value S OpName.ListConcat (Con 4 ∷ or_of (p ∷ []) ∷ or_of (q ∷ p ∷ []) ∷ []) ≡ Some (or_of (p ∷ q ∷ p ∷ []))
concat = refl

nth : list_value S OpName.ListNth (Con 4 ∷ or_of (p ∷ q ∷ []) ∷ Num (pos 1) ∷ []) ≡ Some q
nth = refl

nth_beyond : list_value S OpName.ListNth (Con 4 ∷ or_of (p ∷ q ∷ []) ∷ Num (pos 2) ∷ []) ≡ None
nth_beyond = refl

nth_below : list_value S OpName.ListNth (Con 4 ∷ or_of (p ∷ q ∷ []) ∷ Num (negsuc 0) ∷ []) ≡ None
nth_below = refl

find : list_value S OpName.ListFind (Con 4 ∷ or_of (p ∷ q ∷ q ∷ []) ∷ q ∷ []) ≡ Some (Num (pos 1))
find = refl

find_none : list_value S OpName.ListFind (Con 4 ∷ or_of (p ∷ []) ∷ q ∷ []) ≡ Some (Num (negsuc 0))
find_none = refl

rev : list_value S OpName.ListRev (Con 4 ∷ or_of (p ∷ q ∷ []) ∷ []) ≡ Some (or_of (q ∷ p ∷ []))
rev = refl

erase : list_value S OpName.ListErase (Con 4 ∷ or_of (p ∷ q ∷ p ∷ []) ∷ p ∷ []) ≡ Some (or_of (q ∷ p ∷ []))
erase = refl

erase_none : list_value S OpName.ListErase (Con 4 ∷ or_of (p ∷ []) ∷ q ∷ []) ≡ Some (or_of (p ∷ []))
erase_none = refl
