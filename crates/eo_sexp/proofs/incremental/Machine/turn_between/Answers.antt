use Rattle.std.proofs.Common.{sym, ap, true, false}
use Rattle.eo_base.specs.Limits.{limits}
use Rattle.eo_base.specs.declared.FaultName.TheVariants.{BadByte}
use Rattle.eo_sexp.specs.Machine.{phase_of}
use Rattle.eo_sexp.proofs.MachineSteps.{takes-passed, takes-refused}
use Rattle.eo_sexp.proofs.FedBetween.{fed-space, fed-comment, fed-bad}
use Rattle.eo_sexp.proofs.incremental.Machine.turn_between.Goals as goal

pub returns-in-Space : goal.returns-in-Space
returns-in-Space c =
    let l = c.pass.ensures in
    takes-passed c.args.self.now c.pass.new.self c.args.x false false (phase_of c.args.self.now.phase) c.requires.placed c.requires.nothing c.requires.between l.state l.begun l.start l.here (ap phase_of l.phase)
    (fed-space limits (phase_of c.args.self.now.phase) c.args.self.now.start c.args.x (sym c.in-Space.ensures))

pub returns-in-Comment : goal.returns-in-Comment
returns-in-Comment c =
    let l = c.pass-in-Comment.ensures in
    takes-passed c.args.self.now c.pass-in-Comment.new.self c.args.x false true (phase_of c.args.self.now.phase) c.requires.placed c.requires.nothing c.requires.between l.state l.begun l.start l.here (ap phase_of l.phase)
    (fed-comment limits (phase_of c.args.self.now.phase) c.args.self.now.start c.args.x (sym c.in-Comment.ensures))

pub returns-in-Other : goal.returns-in-Other
returns-in-Other c =
    takes-refused c.args.self.now c.fail.new.self c.args.x false BadByte c.requires.placed c.requires.nothing c.requires.between c.fail.ensures
    (fed-bad limits (phase_of c.args.self.now.phase) c.args.self.now.start c.args.x (sym c.in-Other.ensures))
