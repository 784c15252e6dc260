use Rattle.eo_declare.proofs.declaring.declared_parameterized.Goals as goal

pub release-requires : goal.release-requires
release-requires c = c.parameterized_constant.ensures.grows.table.now.marks c.mark-mark.result c.mark-mark.ensures.holds

pub returns-in-Err-clause-refused : goal.returns-in-Err-clause-refused
returns-in-Err-clause-refused c = (c.release.ensures.back c.args.table.now c.parameterized_constant.ensures.grows.table c.mark-mark.ensures.mark).same

pub returns-in-Err-clause-grows : goal.returns-in-Err-clause-grows
returns-in-Err-clause-grows c =
    let back = c.release.ensures.back c.args.table.now c.parameterized_constant.ensures.grows.table c.mark-mark.ensures.mark in
    c.laws.ensures c.args.table.now c.release.new.self c.requires back.grows
