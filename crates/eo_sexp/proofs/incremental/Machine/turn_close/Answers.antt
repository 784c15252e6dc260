use Rattle.std.proofs.Common.{ap, ◌∙◌, ◌∷◌, [], false}
use Rattle.eo_base.specs.Limits.{limits}
use Rattle.eo_base.specs.declared.FaultName.TheVariants.{ExtraClose}
use Rattle.eo_sexp.specs.declared.incremental.Phase.TheVariants as file
use Rattle.eo_sexp.specs.Machine.{phase_of}
use Rattle.eo_sexp.specs.Collecting.{Within, fed_from}
use Rattle.eo_sexp.proofs.MachineSteps.{takes-passed, takes-refused, not-phase}
use Rattle.eo_sexp.proofs.FedBetween.{fed-close, fed-extra_close}
use Rattle.eo_sexp.proofs.incremental.Machine.turn_close.Goals as goal

pub returns-in-InPair : goal.returns-in-InPair
returns-in-InPair c =
    let l = c.pass.ensures in
    takes-passed c.args.self.now c.pass.new.self c.args.x false false _ c.requires.between.placed c.requires.between.nothing c.requires.between.between l.state l.begun l.start l.here (ap phase_of l.phase)
    (ap (λ q. fed_from limits (Within (phase_of q) false c.args.self.now.start []) (c.args.x ∷ [])) c.in-InPair.is ∙ fed-close limits c.args.self.now.start c.args.x c.requires.class)

pub returns-in_default : goal.returns-in_default
returns-in_default c =
    takes-refused c.args.self.now c.fail.new.self c.args.x false ExtraClose c.requires.between.placed c.requires.between.nothing c.requires.between.between c.fail.ensures
    (fed-extra_close limits (phase_of c.args.self.now.phase) c.args.self.now.start c.args.x (not-phase c.args.self.now.phase file.InPair c.in_default.not-InPair) c.requires.class)
