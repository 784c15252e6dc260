use Rattle.std.proofs.Common.{ap, ◌∙◌, ◌∷◌, [], false}
use Rattle.eo_base.specs.Limits.{limits}
use Rattle.eo_base.specs.declared.FaultName.TheVariants.{ExtraClose}
use Rattle.eo_sexp.specs.Machine.{phase_of}
use Rattle.eo_sexp.specs.Collecting.{Within, fed_from}
use Rattle.eo_sexp.proofs.MachineSteps.{takes-refused}
use Rattle.eo_sexp.proofs.FedBetween.{fed-after_pair}
use Rattle.eo_sexp.proofs.incremental.Machine.begin.Goals as goal

pub returns-in-AfterPair : goal.returns-in-AfterPair
returns-in-AfterPair c =
    takes-refused c.args.self.now c.fail.new.self c.args.x false ExtraClose c.requires.between.placed c.requires.between.nothing c.requires.between.between c.fail.ensures
    (ap (λ q. fed_from limits (Within (phase_of q) false c.args.self.now.start []) (c.args.x ∷ [])) c.in-AfterPair.is ∙ fed-after_pair limits c.args.self.now.start c.args.x c.requires.first)
