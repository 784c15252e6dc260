use Rattle.eo_sig.specs.Reading.{read_pair}
use Rattle.eo_term.specs.Growth.{tree_in}
use Rattle.eo_term.proofs.Building.{builds_interned}
use Rattle.eo_rule.specs.Instance.{under}
use Rattle.eo_rule.proofs.requirements.under.Goals as goal

pub returns-clause-gives : goal.returns-clause-gives
returns-clause-gives c =
    let t = c.args.table.now in
    builds_interned t c.intern_op.new.self c.intern_op.result (under (read_pair t.trees c.args.pair) (tree_in t c.args.id)) c.intern_op.ensures.interned c.intern_op.ensures.tall
