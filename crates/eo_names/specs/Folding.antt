-- How a constant with an attribute is applied to its arguments (Ethos manual, attributes).
use Rattle.std.specs.Prelude.{ℕ, zero, suc, Bool, true, false, nat_lt, ◌==◌, if◌then◌else◌, List, [], ◌∷◌, ◌++◌, map, fold, length, Ok, Err}
use Rattle.std.specs.Option.{option_map_or}
use Rattle.eo_base.specs.declared.FaultName.TheVariants.{BadArity}
use Rattle.eo_base.specs.Checks.{Checked}
use Rattle.eo_term.specs.declared.OpCode.{OpCode}
use Rattle.eo_term.specs.declared.OpName.{OpName}
use Rattle.eo_term.specs.Tree.{Tree, Con, App, Arr, Op, to_trees}
use Rattle.eo_sig.specs.Signature.{Signature, Attribute, Plain, RightNil, LeftNil, Right, Left, Chain, Pairs, Binder, constant_at}

-- f applied to the arguments one by one
abbrev pub applied : Tree → List Tree → Tree
applied f args = fold App f args

abbrev pub applied_to_two : Tree → Tree → Tree → Tree
applied_to_two f a b = App (App f a) b

abbrev pub list_concat : Tree → Tree → Tree → Tree
list_concat f a rest = Op (OpCode.Builtin OpName.ListConcat) (to_trees (f ∷ a ∷ rest ∷ []))

-- An argument before the rest of a list. One that represents a list itself is joined to it.
abbrev pub list_onto : (is_list : Bool) → Tree → Tree → Tree → Tree
list_onto true f a rest = list_concat f a rest
list_onto false f a rest = applied_to_two f a rest

-- the last argument: one that represents a list is the tail
abbrev pub last_onto : (is_list : Bool) → Tree → Tree → Tree → Tree
last_onto true f a nil = a
last_onto false f a nil = applied_to_two f a nil

-- `:right-assoc-nil`
abbrev pub right_nil : (Tree → Bool) → Tree → Tree → List Tree → Tree
right_nil is_list f nil [] = nil
right_nil is_list f nil (a ∷ []) = last_onto (is_list a) f a nil
right_nil is_list f nil (a ∷ b ∷ args) = list_onto (is_list a) f a (right_nil is_list f nil (b ∷ args))

-- `:left-assoc-nil`
abbrev pub left_nil : Tree → Tree → List Tree → Tree
left_nil f nil args = fold (applied_to_two f) nil args

-- `:right-assoc`
abbrev pub right : Tree → List Tree → Tree
right f [] = f
right f (a ∷ []) = a
right f (a ∷ b ∷ args) = applied_to_two f a (right f (b ∷ args))

-- `:left-assoc`
abbrev pub left : Tree → List Tree → Tree
left f [] = f
left f (a ∷ args) = fold (applied_to_two f) a args

-- f on each two neighbours
abbrev pub links : Tree → List Tree → List Tree
links f [] = []
links f (a ∷ []) = []
links f (a ∷ b ∷ args) = applied_to_two f a b ∷ links f (b ∷ args)

-- f on each two arguments, by the first and then by the second
abbrev pub all_pairs : Tree → List Tree → List Tree
all_pairs f [] = []
all_pairs f (a ∷ args) = map (applied_to_two f a) args ++ all_pairs f args

-- the least number of arguments
abbrev pub least : Attribute → ℕ
least Plain = 1
least (RightNil n) = 1
least (LeftNil n) = 1
least Right = 2
least Left = 2
least (Chain g) = 2
least (Pairs g) = 2
least (Binder c) = 1

abbrev pub attribute_at : Signature → ℕ → Attribute
attribute_at S f = option_map_or (λ c. c.attribute) (constant_at S f) Plain

-- Two arguments are applied plainly, and from three on g is folded over what f makes of them.
abbrev pub joined_by : (ℕ → List Tree → Checked Tree) → Tree → ℕ → (items args : List Tree) → Checked Tree
joined_by fold_by f g items args = if length args == 2 then Ok (applied f args) else fold_by g items

-- f with an attribute on arguments; `is_list` says which arguments represent lists, and `fold_by` folds another constant
abbrev pub by_attribute : (ℕ → List Tree → Checked Tree) → (Tree → Bool) → Tree → Attribute → List Tree → Checked Tree
by_attribute fold_by is_list f Plain args = Ok (applied f args)
by_attribute fold_by is_list f (RightNil nil) args = Ok (right_nil is_list f nil args)
by_attribute fold_by is_list f (LeftNil nil) args = Ok (left_nil f nil args)
by_attribute fold_by is_list f Right args = Ok (right f args)
by_attribute fold_by is_list f Left args = Ok (left f args)
by_attribute fold_by is_list f (Chain g) args = joined_by fold_by f g (links f args) args
by_attribute fold_by is_list f (Pairs g) args = joined_by fold_by f g (all_pairs f args) args
by_attribute fold_by is_list f (Binder c) args = Ok (applied f args)

-- A constant by number, on arguments. What it is joined by was declared before it, so that more turns than its number are enough.
abbrev pub folded_within : (turns : ℕ) → Signature → (Tree → Bool) → ℕ → List Tree → Checked Tree
folded_within zero S is_list f args = Ok (applied (Con f) args)
folded_within (suc turns) S is_list f args =
    if nat_lt (length args) (least (attribute_at S f)) then Err BadArity
    else by_attribute (folded_within turns S is_list) is_list (Con f) (attribute_at S f) args

unfoldable pub folded : Signature → (Tree → Bool) → ℕ → List Tree → Checked Tree
folded S is_list f args = folded_within (suc f) S is_list f args

-- ---- without a constant

-- a function type; the last type is that of its values
abbrev pub arrow : List Tree → Tree
arrow [] = Con 0
arrow (a ∷ []) = a
arrow (a ∷ b ∷ rest) = Arr a (arrow (b ∷ rest))

-- the first applied to the others
abbrev pub plainly : List Tree → Tree
plainly [] = Con 0
plainly (f ∷ args) = applied f args
