-- A constant on arguments, where its attribute does not join what it makes.
use Rattle.std.specs.Prelude.{ℕ, Bool, List, length, Option, Some, None, Ok, Err, ◌==◌, if◌then◌else◌}
use Rattle.eo_term.specs.Tree.{Tree, is_tall}
use Rattle.eo_sig.specs.Signature.{Attribute, Plain, RightNil, LeftNil, Right, Left, Chain, Pairs, Binder}
use Rattle.eo_base.specs.declared.FaultName.TheVariants.{TermHeight}
use Rattle.eo_base.specs.Checks.{Checked}
use Rattle.eo_names.specs.Folding.{applied, right_nil, left_nil, right, left, links, all_pairs}

abbrev pub grouped : (Tree → Bool) → Tree → Attribute → List Tree → Tree
grouped is_list f Plain args = applied f args
grouped is_list f (RightNil nil) args = right_nil is_list f nil args
grouped is_list f (LeftNil nil) args = left_nil f nil args
grouped is_list f Right args = right f args
grouped is_list f Left args = left f args
grouped is_list f (Chain g) args = applied f args
grouped is_list f (Pairs g) args = applied f args
grouped is_list f (Binder c) args = applied f args

-- What another constant joins, with the number of that constant; none, where the constant is applied to its arguments itself.
abbrev pub joined_items : Tree → Attribute → List Tree → Option (ℕ × List Tree)
joined_items f Plain args = None
joined_items f (RightNil nil) args = None
joined_items f (LeftNil nil) args = None
joined_items f Right args = None
joined_items f Left args = None
joined_items f (Chain g) args = if length args == 2 then None else Some (g, links f args)
joined_items f (Pairs g) args = if length args == 2 then None else Some (g, all_pairs f args)
joined_items f (Binder c) args = None

-- the tree, if it is not too tall
abbrev pub if_low : Checked Tree → Checked Tree
if_low (Ok t) = if is_tall t then Err TermHeight else Ok t
if_low (Err fault) = Err fault
