use Rattle.std.proofs.Common.{sym, subst, ◌∙◌}
use Rattle.eo_base.specs.Checks.{Checked}
use Rattle.eo_shape.specs.Reading.{read_command}
use Rattle.eo_session.specs.Deciding.{Decides}
use Rattle.eo_session.specs.Store.{state_of}
use Rattle.eo_session.specs.Numbered.{origin_of}
use Rattle.eo_session.specs.Effects.{Effect}
use Rattle.eo_session.proofs.Dispatch.{does-in_scope}
use Rattle.eo_session.proofs.Sessions.{scope-ok}
use Rattle.eo_session.proofs.store.Store.decide_placed.Goals as goal

pub returns-then-not-may_stand-clause-decides : goal.returns-then-not-may_stand-clause-decides
returns-then-not-may_stand-clause-decides c =
    does-in_scope (state_of c.args.self.now) (origin_of c.args.from) (read_command c.args.command.now) c.may_stand.result c.may_stand.ensures c.if-not-may_stand.true

pub returns-clause-decides : goal.returns-clause-decides
returns-clause-decides c =
    subst (λ (m : Checked Effect). Decides c.decide_own.new.self c.decide_own.result m)
    (sym (scope-ok (state_of c.args.self.now) (origin_of c.args.from) (read_command c.args.command.now) (sym c.may_stand.ensures ∙ c.if-not-may_stand.false)))
    c.decide_own.ensures.decides

pub decide_own-requires-clause-stands : goal.decide_own-requires-clause-stands
decide_own-requires-clause-stands c = sym c.may_stand.ensures ∙ c.if-not-may_stand.false
