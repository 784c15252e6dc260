use Rattle.std.proofs.Common.{◌≡◌, ◌<◌, length}
use Rattle.std.specs.List.{list_any}
use Rattle.eo_term.specs.Growth.{tree_in}
use Rattle.eo_term.specs.Tree.{occurs_openly}
use Rattle.eo_sig.specs.Signature.{argument_types}
use Rattle.eo_sig.proofs.types.occurs_in_argument.Given as goal

-- it occurs in the arguments that are left, or nowhere
abbrev pub invariant-loop-argument : goal.invariant-loop-argument
invariant-loop-argument l = record {
  live : l.rest < length l.table.trees;
  whole : list_any (occurs_openly l.fn.par) (argument_types (tree_in l.table l.rest)) ≡ list_any (occurs_openly l.fn.par) (argument_types (tree_in l.table l.fn.ty));
}

-- what is left is an older term
abbrev pub decreases-loop-argument : goal.decreases-loop-argument
decreases-loop-argument l = l.rest
