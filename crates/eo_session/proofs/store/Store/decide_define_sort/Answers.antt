use Rattle.std.proofs.Common.{sym, subst}
use Rattle.eo_session.specs.Store.{state_of}
use Rattle.eo_session.specs.Decisions.{macro_effect}
use Rattle.eo_session.proofs.Decided.{declared-refuses, declared-decides}
use Rattle.eo_session.proofs.Holding.{keeps_table}
use Rattle.eo_session.specs.State.{State, context}
use Rattle.eo_sig.specs.Reading.{read_macro}
use Rattle.eo_declare.specs.Declaring.{MayBeMacro}
use Rattle.eo_session.proofs.store.Store.decide_define_sort.Goals as goal

pub returns-in_err-d-clause-decides : goal.returns-in_err-d-clause-decides
returns-in_err-d-clause-decides c =
    declared-refuses _ macro_effect (state_of c.args.self.now) _ c.from_residual.result c.in_err-d.field-0.0 c.from_residual.ensures.1 c.in_err-d.ensures.gives

pub decide_macro-requires-clause-whole : goal.decide_macro-requires-clause-whole
decide_macro-requires-clause-whole c = (keeps_table c.args.self.now c.requires c.defined_sort.new.table c.in_ok-d.ensures.grows.stays c.in_ok-d.ensures.grows.table).whole

pub decide_macro-requires-clause-may : goal.decide_macro-requires-clause-may
decide_macro-requires-clause-may c =
    let keeps = keeps_table c.args.self.now c.requires c.defined_sort.new.table c.in_ok-d.ensures.grows.stays c.in_ok-d.ensures.grows.table in
    subst (λ (z : State). MayBeMacro (context z) (read_macro c.defined_sort.new.table.trees c.in_ok-d.d)) (sym keeps.same) c.in_ok-d.ensures.may

pub decide_macro-requires-clause-bound : goal.decide_macro-requires-clause-bound
decide_macro-requires-clause-bound c =
    c.reference_law.ensures.sorts _ _ _ _ (read_macro c.defined_sort.new.table.trees c.in_ok-d.d) (record { folds = c.requires.store.terms.folds; macros = c.requires.store.terms.macros }) c.in_ok-d.ensures.gives.is

pub returns-clause-decides : goal.returns-clause-decides
returns-clause-decides c =
    let keeps = keeps_table c.args.self.now c.requires c.defined_sort.new.table c.in_ok-d.ensures.grows.stays c.in_ok-d.ensures.grows.table in
    declared-decides _ macro_effect (state_of c.args.self.now) _ c.decide_macro.result _ (read_macro c.defined_sort.new.table.trees c.in_ok-d.d) keeps.same c.in_ok-d.ensures.gives.is c.decide_macro.ensures.decides

pub returns-clause-keeps : goal.returns-clause-keeps
returns-clause-keeps c = keeps_table c.args.self.now c.requires c.defined_sort.new.table c.in_ok-d.ensures.grows.stays c.in_ok-d.ensures.grows.table
