use Rattle.std.proofs.Common.{◌&&◌}
use Rattle.eo_term.specs.Growth.{tree_in}
use Rattle.eo_term.specs.Tree.{type_tree, tree_eq}
use Rattle.eo_sig.specs.Reading.{signature}
use Rattle.eo_type.specs.Types.{typed_if, type_of}
use Rattle.eo_type.proofs.TypingSteps.{stops_both}
use Rattle.eo_type.proofs.partwise.function_step.Goals as goal

pub returns-in-Err : goal.returns-in-Err
returns-in-Err c =
    let S = signature c.args.table.now.trees c.args.sig.now in
    let a = tree_in c.args.table.now c.args.from in
    let b = tree_in c.args.table.now c.args.to in
    let p = c.in-Err.ensures in
    record { older = p.within; unkept = p.unkept; stops = λ e h. stops_both e (type_of S a) (type_of S b) (λ k l. typed_if (tree_eq k type_tree && tree_eq l type_tree) type_tree) (p.stops e h) }
