use Rattle.std.proofs.Common.{refl, sym, ap, ◌∙◌, length, subst}
use Rattle.std.proofs.lemmas.Result.{on_ok_weaker}
use Rattle.eo_sexp.specs.Machine.{phase_of, MayPass, Turned}
use Rattle.eo_sexp.proofs.MachineSteps.{placed-none}
use Rattle.eo_sexp.proofs.FedRuns.{turned-goes, turned-whole, turned-fault, turned-before, turned-unsat}
use Rattle.eo_sexp.proofs.incremental.Machine.decide.Goals as goal

pub turn_between-requires : goal.turn_between-requires
turn_between-requires c =
    let l = c.leave.ensures in
    let at = subst MayPass (sym l.here) c.requires in
    record { between = l.state; nothing = l.begun; placed = placed-none c.leave.new.self l.begun (l.here ∙ sym l.start) at.line; room = at.room }

pub returns-then-is_unsat : goal.returns-then-is_unsat
returns-then-is_unsat c =
    let u = c.if-is_unsat.ensures.yes refl in
    let l = c.leave.ensures in
    on_ok_weaker c.turn_between.result (λ k old h.
    turned-unsat old c.args.self.now c.turn_between.new.self c.args.x (subst (λ t. Turned old t c.args.x c.args.self.now) c.in-Before.is h) c.leave.new.self u.0 u.1 l.state l.begun l.start (ap phase_of l.phase) k) c.turn_between.ensures

pub returns-else-is_unsat : goal.returns-else-is_unsat
returns-else-is_unsat c = λ old h.
    turned-before old c.args.self.now c.complete.new.self c.args.x (subst (λ t. Turned old t c.args.x c.args.self.now) c.in-Before.is h) (c.if-is_unsat.ensures.no refl) c.complete.ensures

pub returns-in-Fault : goal.returns-in-Fault
returns-in-Fault c = λ old h.
    turned-fault old c.args.self.now c.fail.new.self c.args.x (length c.bytes-at.result.now) (ap length c.bytes-at.ensures) c.in-Fault.name c.earlier_fault.result (subst (λ t. Turned old t c.args.x c.args.self.now) c.in-Fault.is h) c.earlier_fault.ensures c.fail.ensures

pub returns-in-Goes : goal.returns-in-Goes
returns-in-Goes c =
    on_ok_weaker c.lengthen.result (λ k old h. turned-goes old c.args.self.now c.lengthen.new.self c.args.x (length c.bytes-at.result.now) (ap length c.bytes-at.ensures) (subst (λ t. Turned old t c.args.x c.args.self.now) c.in-Goes.is h) k) c.lengthen.ensures

pub returns-in-Whole : goal.returns-in-Whole
returns-in-Whole c =
    on_ok_weaker c.close.result (λ k old h. turned-whole old c.args.self.now c.close.new.self c.args.x (length c.bytes-at.result.now) (ap length c.bytes-at.ensures) (subst (λ t. Turned old t c.args.x c.args.self.now) c.in-Whole.is h) k) c.close.ensures
