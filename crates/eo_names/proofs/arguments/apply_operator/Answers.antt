use Rattle.std.proofs.Common.{ap, sym, subst}
use Rattle.eo_term.specs.Tree.{Op}
use Rattle.eo_term.specs.Builds.{Builds}
use Rattle.eo_names.proofs.UsageLemmas.{to_trees-at}
use Rattle.eo_names.proofs.arguments.apply_operator.Goals as goal

pub returns-clause-gives : goal.returns-clause-gives
returns-clause-gives c =
    let ts = c.args.table.now.trees in
    subst (Builds c.intern_op.new.self c.intern_op.result) (ap (Op c.args.code) (sym (to_trees-at ts c.args.args.now)))
    (c.builds_law.ensures.interned c.args.table.now c.intern_op.new.self c.intern_op.result _ c.intern_op.ensures.interned c.intern_op.ensures.tall)
