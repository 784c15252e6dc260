use Rattle.std.proofs.Common.{sym, ap, ◌∙◌, [], true, false, not, subst}
use Rattle.eo_base.specs.Limits.{limits}
use Rattle.eo_sexp.specs.declared.incremental.State.TheVariants as state
use Rattle.eo_sexp.specs.Machine.{phase_of, IsSoundAt}
use Rattle.eo_sexp.specs.Texts.{next_spot}
use Rattle.eo_sexp.specs.Collecting.{Within}
use Rattle.eo_sexp.proofs.MachineSteps.{begun-pair, takes-passed, takes-answered, between-none, between-placed}
use Rattle.eo_sexp.proofs.FedBetween.{fed-in_comment}
use Rattle.eo_sexp.proofs.incremental.Machine.turn.Goals as goal

pub turn_begun-requires-clause-pair : goal.turn_begun-requires-clause-pair
turn_begun-requires-clause-pair c = begun-pair c.args.self.now c.args.x c.in-Begun.is c.requires.sound

pub returns-then-comment : goal.returns-then-comment
returns-then-comment c =
    let e = c.in-Between.is ∙ ap (λ b. state.Between b) c.if-comment.true in
    let l = c.pass.ensures in
    takes-passed c.args.self.now c.pass.new.self c.args.x true (not c.is_line_end.result) (phase_of c.args.self.now.phase) (between-placed c.args.self.now true e c.requires.sound) (between-none c.args.self.now true e c.requires.sound) e
    l.state l.begun l.start l.here (ap phase_of l.phase)
    (fed-in_comment limits (phase_of c.args.self.now.phase) c.args.self.now.start c.args.x ∙ ap (λ b. Within (phase_of c.args.self.now.phase) (not b) (next_spot c.args.self.now.start c.args.x) []) (sym c.is_line_end.ensures))

pub returns-in_default : goal.returns-in_default
returns-in_default c = takes-answered c.args.self.now c.args.x c.in_default.not-Between c.in_default.not-Begun c.in_default.not-Pair c.requires.sound

pub pass-requires-clause-at : goal.pass-requires-clause-at
pass-requires-clause-at c =
    let p = between-placed c.args.self.now true (c.in-Between.is ∙ ap (λ b. state.Between b) c.if-comment.true) c.requires.sound in
    record { line = p.line; room = c.requires.room }

pub pass-requires-clause-nothing : goal.pass-requires-clause-nothing
pass-requires-clause-nothing c = between-none c.args.self.now true (c.in-Between.is ∙ ap (λ b. state.Between b) c.if-comment.true) c.requires.sound

pub turn_between-requires : goal.turn_between-requires
turn_between-requires c =
    let e = c.in-Between.is ∙ ap (λ b. state.Between b) c.if-comment.false in
    record {
      between = e;
      nothing = between-none c.args.self.now false e c.requires.sound;
      placed = between-placed c.args.self.now false e c.requires.sound;
      room = c.requires.room;
    }

pub turn_begun-requires-clause-begun : goal.turn_begun-requires-clause-begun
turn_begun-requires-clause-begun c = let h = subst (λ q. IsSoundAt q c.args.self.now) c.in-Begun.is c.requires.sound in h.0

pub turn_begun-requires-clause-placed : goal.turn_begun-requires-clause-placed
turn_begun-requires-clause-placed c = let h = subst (λ q. IsSoundAt q c.args.self.now) c.in-Begun.is c.requires.sound in h.2
