use Rattle.eo_session.specs.Store.{state_of}
use Rattle.eo_sig.specs.Signature.{IsLiteralType}
use Rattle.eo_session.specs.Decisions.{entry_effect}
use Rattle.eo_session.proofs.Decided.{declared-refuses, declared-decides}
use Rattle.eo_session.proofs.Holding.{keeps_table}
use Rattle.eo_term.specs.Terms.{tree_at}
use Rattle.eo_session.specs.State.{is_in_scope}
use Rattle.std.proofs.Common.{ap, ◌∙◌}
use Rattle.eo_session.proofs.store.Store.decide_literals.Goals as goal

pub returns-in_err-ty-clause-decides : goal.returns-in_err-ty-clause-decides
returns-in_err-ty-clause-decides c =
    declared-refuses _ (λ z t. entry_effect z (IsLiteralType c.args.class t)) (state_of c.args.self.now) _ c.from_residual.result c.in_err-ty.field-0.0 c.from_residual.ensures.1 c.in_err-ty.ensures.gives

pub decide_entry-requires-clause-whole : goal.decide_entry-requires-clause-whole
decide_entry-requires-clause-whole c = (keeps_table c.args.self.now c.requires.whole c.declared_literals.new.table c.in_ok-ty.ensures.grows.stays c.in_ok-ty.ensures.grows.table).whole

pub returns-clause-decides : goal.returns-clause-decides
returns-clause-decides c =
    let keeps = keeps_table c.args.self.now c.requires.whole c.declared_literals.new.table c.in_ok-ty.ensures.grows.stays c.in_ok-ty.ensures.grows.table in
    declared-decides _ (λ z t. entry_effect z (IsLiteralType c.args.class t)) (state_of c.args.self.now) _ c.decide_entry.result _ (tree_at c.declared_literals.new.table.trees c.in_ok-ty.ty) keeps.same c.in_ok-ty.ensures.gives.is c.decide_entry.ensures.decides

pub decide_entry-requires-clause-outside : goal.decide_entry-requires-clause-outside
decide_entry-requires-clause-outside c =
    ap is_in_scope (keeps_table c.args.self.now c.requires.whole c.declared_literals.new.table c.in_ok-ty.ensures.grows.stays c.in_ok-ty.ensures.grows.table).same ∙ c.requires.outside

pub returns-clause-keeps : goal.returns-clause-keeps
returns-clause-keeps c = keeps_table c.args.self.now c.requires.whole c.declared_literals.new.table c.in_ok-ty.ensures.grows.stays c.in_ok-ty.ensures.grows.table
