use Rattle.std.proofs.Common.{sym, ◌∙◌}
use Rattle.eo_term.specs.Terms.{tree_at}
use Rattle.eo_type.proofs.SettleSteps.{settle_plain, told_settled}
use Rattle.eo_type.proofs.settling.part_settled.Goals as goal

pub returns-then-is_plain : goal.returns-then-is_plain
returns-then-is_plain c =
    record { live = c.requires.live; typed = settle_plain (tree_at c.args.table.now.trees c.args.id) (sym c.is_plain.ensures ∙ c.if-is_plain.true) }

pub returns : goal.returns
returns c = told_settled c.args.table.now c.args.memo.now c.args.id c.get.result c.get.ensures c.requires.memo
