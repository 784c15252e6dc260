use Rattle.std.proofs.Common.{arith}
use Rattle.eo_term.specs.Growth.{tree_in}
use Rattle.eo_term.specs.Tree.{type_tree, tree_eq}
use Rattle.eo_sig.specs.Reading.{signature}
use Rattle.eo_type.specs.Types.{typed_if, type_of}
use Rattle.eo_type.proofs.Walk.{stops_first}
use Rattle.eo_type.proofs.partwise.variable_step.Goals as goal

pub returns-in_default : goal.returns-in_default
returns-in_default c =
    let u = tree_in c.args.table.now c.args.ty in
    record { older = omega arith; unkept = c.in_default.ensures.none; stops = λ e h. stops_first e (type_of (signature c.args.table.now.trees c.args.sig.now) u) (λ k. typed_if (tree_eq k type_tree) u) h }
