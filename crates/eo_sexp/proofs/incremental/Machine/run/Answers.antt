use Rattle.std.proofs.Common.{subst, sym, arith, take, get_or}
use Rattle.eo_base.specs.Limits.{limits}
use Rattle.eo_sexp.specs.Machine.{TakesBytes, TakesByte, Turned}
use Rattle.eo_sexp.specs.declared.incremental.Machine.{Machine}
use Rattle.eo_sexp.specs.Reader.{Runs}
use Rattle.eo_sexp.specs.Spot.{Spot}
use Rattle.eo_sexp.proofs.FedRuns.{stopped, stopped-takes, stops-at, takes-stop}
use Rattle.eo_sexp.proofs.incremental.Machine.run.Goals as goal

pub returns-in-Goes-clause-takes : goal.returns-in-Goes-clause-takes
returns-in-Goes-clause-takes c =
    let r = c.in_ok-taken.field-0 in
    let m = c.args.self.now in
    let b = c.run.new.buffer in
    subst (λ (at : Spot). TakesBytes m (take r.taken c.args.rest.now) (record (stopped m r.taken r.lines b c.run.new.self) { here = at })) (sym c.further-self.ensures)
    (stopped-takes m c.args.rest.now r.taken r.lines b c.run.new.self c.requires.begun c.requires.sound
    (subst (λ t. Runs limits m.begun m.reader c.args.rest.now r.taken r.lines t b c.run.new.self) c.in-Goes.is c.in_ok-taken.ensures.runs))

pub returns-in_ok-decide-in_default : goal.returns-in_ok-decide-in_default
returns-in_ok-decide-in_default c =
    let r = c.in_ok-taken.field-0 in
    let m = c.args.self.now in
    let b = c.run.new.buffer in
    let h = stops-at m.begun m.reader c.args.rest.now r.taken r.lines r.turn b c.run.new.self c.in_default.not-Goes c.in_ok-taken.ensures.runs in
    record {
      within = omega (arith, h.more);
      takes =
          takes-stop m c.decide.new.self c.args.rest.now r.taken r.lines r.turn b c.run.new.self c.requires.begun c.requires.sound h
          (subst
          (λ (at : Spot). (old : Machine) → Turned old r.turn (get_or c.args.rest.now r.taken 0) (record (stopped m r.taken r.lines b c.run.new.self) { here = at }) → TakesByte old (get_or c.args.rest.now r.taken 0) c.decide.new.self)
          c.further-self.ensures c.in_ok-decide-in_default.ensures);
    }
