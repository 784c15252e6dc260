use Rattle.eo_session.specs.Numbered.{origin_of}
use Rattle.eo_run.proofs.Exits.{fault-steps, refused-last}
use Rattle.eo_run.proofs.reading.check_unseen.Goals as goal

pub returns-in-Err-Fault-clause-checks : goal.returns-in-Err-Fault-clause-checks
returns-in-Err-Fault-clause-checks c =
    refused-last (origin_of c.args.from) c.args.session.now.state c.args.session.now.state c.args.collector.now c.command.result c.in-Err-Fault.name c.start-at.result c.command.ensures
    (fault-steps _ _ _ _ _ c.in-Err-Fault.field-0-is c.in-Err-Fault.ensures.steps) c.start-at.ensures
