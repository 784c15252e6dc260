use Rattle.eo_session.specs.Numbered.{origin_of, number_of}
use Rattle.eo_session.proofs.Decisions.{placed_done}
use Rattle.eo_run.proofs.Exits.{fault-steps, refused-last, shows-all, shows-last, hides-last}
use Rattle.eo_run.proofs.reading.check_command.Goals as goal

pub returns-then-not-watches-clause-shows : goal.returns-then-not-watches-clause-shows
returns-then-not-watches-clause-shows g c =
    shows-all g.O.Observer.tells c.args.observer.now (origin_of c.args.from) (number_of c.args.from) (c.watches.ensures c.if-not-watches.true) c.args.session.now.state c.args.collector.now c.check_unseen.result

pub returns-in-Err-Fault-clause-checks : goal.returns-in-Err-Fault-clause-checks
returns-in-Err-Fault-clause-checks g c =
    refused-last (origin_of c.args.from) c.args.session.now.state c.args.session.now.state c.args.collector.now c.command.result c.in-Err-Fault.name c.start-at.result c.command.ensures
    (fault-steps _ _ _ _ _ c.in-Err-Fault.field-0-is c.in-Err-Fault.ensures.steps) c.start-at.ensures

pub returns-in-Ok-clause-shows : goal.returns-in-Ok-clause-shows
returns-in-Ok-clause-shows g c =
    shows-last g.O.Observer.tells c.args.observer.now c.command_by.new.observer (origin_of c.args.from) (number_of c.args.from) placed_done c.in-Ok.next c.args.session.now.state c.command_by.new.self.state c.args.collector.now c.command.result c.bytes.result.now c.start-at.result _
    (λ i. record { file = c.file.ensures i; line = (c.at.view_is i).line; offset = (c.at.view_is i).offset }) c.command.ensures c.bytes.ensures c.start-at.ensures c.in-Ok.ensures.steps.1 c.in-Ok.ensures.sees

pub returns-in-Err-Fault-clause-shows : goal.returns-in-Err-Fault-clause-shows
returns-in-Err-Fault-clause-shows g c =
    hides-last g.O.Observer.tells c.args.observer.now c.command_by.new.observer (origin_of c.args.from) (number_of c.args.from) _ c.in-Err-Fault.name c.start-at.result c.args.session.now.state c.args.collector.now c.in-Err-Fault.field-0-is c.in-Err-Fault.ensures.unseen
