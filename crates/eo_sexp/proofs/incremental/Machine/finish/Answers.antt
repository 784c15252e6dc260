use Rattle.eo_sexp.specs.Machine.{meaning}
use Rattle.eo_sexp.proofs.FedEnds.{finishes-from, finishes-standing}
use Rattle.eo_sexp.proofs.incremental.Machine.finish.Goals as goal

pub returns-in-Between-clause-finishes : goal.returns-in-Between-clause-finishes
returns-in-Between-clause-finishes c = finishes-from (meaning c.args.self.now) c.go_on.new.self c.finish_between.new.self c.finish_between.result c.go_on.ensures.meant c.finish_between.ensures

pub returns-in-Begun-clause-finishes : goal.returns-in-Begun-clause-finishes
returns-in-Begun-clause-finishes c = finishes-from (meaning c.args.self.now) c.go_on.new.self c.finish_begun.new.self c.finish_begun.result c.go_on.ensures.meant c.finish_begun.ensures

pub returns-in_default-clause-finishes : goal.returns-in_default-clause-finishes
returns-in_default-clause-finishes c =
    let g = c.go_on.new.self in
    let h = finishes-standing (meaning c.args.self.now) g c.go_on.ensures.meant c.in_default.not-Between c.in_default.not-Begun c.in_default.not-Pair in
    (h.0, c.end_answer.ensures)
