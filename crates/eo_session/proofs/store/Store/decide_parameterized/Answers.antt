use Rattle.eo_session.specs.Store.{state_of}
use Rattle.eo_session.specs.Decisions.{checked_effect}
use Rattle.eo_session.proofs.Decided.{declared-refuses, declared-decides}
use Rattle.eo_session.proofs.Holding.{keeps_table}
use Rattle.eo_sig.specs.Reading.{read_constant}
use Rattle.eo_declare.specs.Declarations.{may_be_constant}
use Rattle.eo_session.specs.State.{State, context, is_in_scope}
use Rattle.std.proofs.Common.{◌≡◌, true, ap, sym, subst, ◌∙◌}
use Rattle.eo_session.proofs.store.Store.decide_parameterized.Goals as goal

pub returns-in_err-d-clause-decides : goal.returns-in_err-d-clause-decides
returns-in_err-d-clause-decides c =
    declared-refuses _ checked_effect (state_of c.args.self.now) _ c.from_residual.result c.in_err-d.field-0.0 c.from_residual.ensures.1 c.in_err-d.ensures.gives

pub decide_checked-requires-clause-whole : goal.decide_checked-requires-clause-whole
decide_checked-requires-clause-whole c = (keeps_table c.args.self.now c.requires.whole c.declared_parameterized.new.table c.in_ok-d.ensures.grows.stays c.in_ok-d.ensures.grows.table).whole

pub returns-clause-decides : goal.returns-clause-decides
returns-clause-decides c =
    let keeps = keeps_table c.args.self.now c.requires.whole c.declared_parameterized.new.table c.in_ok-d.ensures.grows.stays c.in_ok-d.ensures.grows.table in
    declared-decides _ checked_effect (state_of c.args.self.now) _ c.decide_checked.result _ (read_constant c.declared_parameterized.new.table.trees c.in_ok-d.d) keeps.same c.in_ok-d.ensures.gives.is c.decide_checked.ensures.decides

pub decide_checked-requires-clause-outside : goal.decide_checked-requires-clause-outside
decide_checked-requires-clause-outside c =
    ap is_in_scope (keeps_table c.args.self.now c.requires.whole c.declared_parameterized.new.table c.in_ok-d.ensures.grows.stays c.in_ok-d.ensures.grows.table).same ∙ c.requires.outside

pub returns-clause-keeps : goal.returns-clause-keeps
returns-clause-keeps c = keeps_table c.args.self.now c.requires.whole c.declared_parameterized.new.table c.in_ok-d.ensures.grows.stays c.in_ok-d.ensures.grows.table

pub decide_checked-requires-clause-named : goal.decide_checked-requires-clause-named
decide_checked-requires-clause-named c =
    let keeps = keeps_table c.args.self.now c.requires.whole c.declared_parameterized.new.table c.in_ok-d.ensures.grows.stays c.in_ok-d.ensures.grows.table in
    subst (λ (st : State). may_be_constant (context st) c.in_ok-d.d.name ≡ true) (sym keeps.same) c.in_ok-d.ensures.named
