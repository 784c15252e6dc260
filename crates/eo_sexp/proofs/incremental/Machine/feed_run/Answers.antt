use Rattle.eo_sexp.proofs.FedAnswers.{no-run}
use Rattle.eo_sexp.proofs.incremental.Machine.feed_run.Goals as goal

pub returns-in_default : goal.returns-in_default
returns-in_default c = record { goes = no-run c.args.self.now c.args.first c.args.rest.now c.requires.sound c.requires.within; stops = tt }
