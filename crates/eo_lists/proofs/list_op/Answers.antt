use Rattle.eo_lists.proofs.list_op.Goals as goal

pub returns-in-Err-clause-refused : goal.returns-in-Err-clause-refused
returns-in-Err-clause-refused c = (c.release.ensures.back c.args.table.now c.value_of.ensures.grows.table c.mark-mark.ensures.mark).same

pub returns-in-Err-clause-grows : goal.returns-in-Err-clause-grows
returns-in-Err-clause-grows c =
    c.laws.ensures c.args.table.now c.release.new.self c.requires.below (c.release.ensures.back c.args.table.now c.value_of.ensures.grows.table c.mark-mark.ensures.mark).grows
