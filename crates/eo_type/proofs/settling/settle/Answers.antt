use Rattle.std.proofs.Common.{Err}
use Rattle.eo_term.specs.Terms.{tree_at}
use Rattle.eo_type.specs.Types.{settle}
use Rattle.eo_type.proofs.Fitting.{cut_back, grows_back}
use Rattle.eo_type.proofs.SettleSteps.{answers_low}
use Rattle.eo_type.proofs.settling.settle.Goals as goal

pub returns-in-Err-clause-never_tall : goal.returns-in-Err-clause-never_tall
returns-in-Err-clause-never_tall c =
    let t = c.settle_term.new.table in
    let u = tree_at c.args.table.now.trees c.args.id in
    answers_low t (Err c.in-Err.e) u (c.in-Err.ensures.answers t (settle u) c.settle_term.ensures.gives)

pub returns-in-Err-clause-grows : goal.returns-in-Err-clause-grows
returns-in-Err-clause-grows c =
    grows_back c.args.table.now c.release.new.self (cut_back c.args.table.now c.settle_term.new.table c.release.new.self c.mark-mark.result c.settle_term.ensures.grows.now c.mark-mark.ensures.mark c.release.ensures.trees c.release.ensures.texts)
