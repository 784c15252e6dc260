use Rattle.eo_sexp.proofs.FedAnswers.{left-sound, answered-sound}
use Rattle.eo_sexp.proofs.incremental.Machine.go_on.Goals as goal

pub returns-in-Command-clause-sound : goal.returns-in-Command-clause-sound
returns-in-Command-clause-sound c =
    let l = c.leave.ensures in
    left-sound c.args.self.now c.leave.new.self (answered-sound c.args.self.now c.in-Command.is c.requires) l.state l.begun l.start l.here
