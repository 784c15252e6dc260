use Rattle.std.proofs.Common.{ap}
use Rattle.eo_sexp.specs.declared.incremental.Phase.TheVariants as file
use Rattle.eo_sexp.specs.Machine.{phase_of}
use Rattle.eo_sexp.proofs.MachineSteps.{not-phase}
use Rattle.eo_sexp.proofs.FedEnds.{ends-in_pair, ends-well}
use Rattle.eo_sexp.proofs.incremental.Machine.finish_between.Goals as goal

pub returns-in-InPair : goal.returns-in-InPair
returns-in-InPair c =
    ends-in_pair c.args.self.now c.finish_open.new.self c.finish_open.result c.requires.between.0 c.requires.between.1 c.requires.nothing c.requires.placed (ap phase_of c.in-InPair.is)
    c.finish_open.ensures.state c.finish_open.ensures.answer

pub returns-in_default : goal.returns-in_default
returns-in_default c = ends-well c.args.self.now c.requires.between.0 c.requires.between.1 c.requires.nothing c.requires.placed (not-phase c.args.self.now.phase file.InPair c.in_default.not-InPair)
