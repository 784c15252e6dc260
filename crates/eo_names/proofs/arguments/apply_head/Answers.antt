use Rattle.eo_names.proofs.arguments.apply_head.Goals as goal

pub returns-in-Err-clause-refused : goal.returns-in-Err-clause-refused
returns-in-Err-clause-refused c = (c.release.ensures.back c.args.table.now c.use_or_leave.ensures.grows c.mark-mark.ensures.mark).same

pub returns-in-Err-clause-grows : goal.returns-in-Err-clause-grows
returns-in-Err-clause-grows c = (c.release.ensures.back c.args.table.now c.use_or_leave.ensures.grows c.mark-mark.ensures.mark).grows

pub release-requires : goal.release-requires
release-requires c = c.use_or_leave.ensures.grows.now.marks c.mark-mark.result c.mark-mark.ensures.holds
