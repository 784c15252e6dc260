use Rattle.eo_elab.proofs.terms.term.Goals as goal

pub release-requires : goal.release-requires
release-requires c = c.elaborate_in.ensures.grows.now.marks c.mark-mark.result c.mark-mark.ensures.holds

pub returns-in-Err-clause-refused : goal.returns-in-Err-clause-refused
returns-in-Err-clause-refused c = (c.release.ensures.back c.args.table.now c.elaborate_in.ensures.grows c.mark-mark.ensures.mark).same

pub returns-in-Err-clause-grows : goal.returns-in-Err-clause-grows
returns-in-Err-clause-grows c = (c.release.ensures.back c.args.table.now c.elaborate_in.ensures.grows c.mark-mark.ensures.mark).grows

pub returns-in-Err-clause-keeps : goal.returns-in-Err-clause-keeps
returns-in-Err-clause-keeps c =
    let back = c.release.ensures.back c.args.table.now c.elaborate_in.ensures.grows c.mark-mark.ensures.mark in
    let v = c.names_law.ensures.stays c.args.sig.now c.args.locals.now c.args.table.now c.release.new.self c.requires.ready back.grows in
    record { context = λ i. (v.world i).names; names = λ i. (v.world i).locals; ready = v.ready }
