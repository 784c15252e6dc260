use Rattle.std.proofs.Common.{ap}
use Rattle.eo_shape.specs.Reading.{read_command}
use Rattle.eo_session.specs.Commands.{may_be_in_scope}
use Rattle.eo_session.specs.Store.{state_of}
use Rattle.eo_session.specs.State.{is_in_scope}
use Rattle.eo_session.proofs.Dispatch.{not_in_scope}
use Rattle.eo_session.proofs.store.Store.decide_own.Goals as goal

pub decide_const-requires-clause-outside : goal.decide_const-requires-clause-outside
decide_const-requires-clause-outside c =
    not_in_scope (is_in_scope (state_of c.args.self.now)) (may_be_in_scope (read_command c.args.command.now)) c.requires.stands (ap (λ k. may_be_in_scope (read_command k)) c.in-DeclareConst.is)

pub decide_fun-requires-clause-outside : goal.decide_fun-requires-clause-outside
decide_fun-requires-clause-outside c =
    not_in_scope (is_in_scope (state_of c.args.self.now)) (may_be_in_scope (read_command c.args.command.now)) c.requires.stands (ap (λ k. may_be_in_scope (read_command k)) c.in-DeclareFun.is)

pub decide_sort-requires-clause-outside : goal.decide_sort-requires-clause-outside
decide_sort-requires-clause-outside c =
    not_in_scope (is_in_scope (state_of c.args.self.now)) (may_be_in_scope (read_command c.args.command.now)) c.requires.stands (ap (λ k. may_be_in_scope (read_command k)) c.in-DeclareSort.is)

pub decide_parameterized-requires-clause-outside : goal.decide_parameterized-requires-clause-outside
decide_parameterized-requires-clause-outside c =
    not_in_scope (is_in_scope (state_of c.args.self.now)) (may_be_in_scope (read_command c.args.command.now)) c.requires.stands (ap (λ k. may_be_in_scope (read_command k)) c.in-DeclareParameterized.is)

pub decide_literals-requires-clause-outside : goal.decide_literals-requires-clause-outside
decide_literals-requires-clause-outside c =
    not_in_scope (is_in_scope (state_of c.args.self.now)) (may_be_in_scope (read_command c.args.command.now)) c.requires.stands (ap (λ k. may_be_in_scope (read_command k)) c.in-DeclareLiterals.is)

pub decide_program-requires-clause-outside : goal.decide_program-requires-clause-outside
decide_program-requires-clause-outside c =
    not_in_scope (is_in_scope (state_of c.args.self.now)) (may_be_in_scope (read_command c.args.command.now)) c.requires.stands (ap (λ k. may_be_in_scope (read_command k)) c.in-Program.is)

pub decide_rule-requires-clause-outside : goal.decide_rule-requires-clause-outside
decide_rule-requires-clause-outside c =
    not_in_scope (is_in_scope (state_of c.args.self.now)) (may_be_in_scope (read_command c.args.command.now)) c.requires.stands (ap (λ k. may_be_in_scope (read_command k)) c.in-DeclareRule.is)

pub decide_assert-requires-clause-outside : goal.decide_assert-requires-clause-outside
decide_assert-requires-clause-outside c =
    not_in_scope (is_in_scope (state_of c.args.self.now)) (may_be_in_scope (read_command c.args.command.now)) c.requires.stands (ap (λ k. may_be_in_scope (read_command k)) c.in-Assert.is)
