use Rattle.eo_session.proofs.Used.{keeps_on}
use Rattle.std.proofs.Common.{sym, subst, ap, ◌∙◌}
use Rattle.eo_session.specs.Store.{state_of}
use Rattle.eo_session.specs.Decisions.{typed_effect}
use Rattle.eo_session.proofs.Adding.{fun-alone, none-read}
use Rattle.eo_session.proofs.Decided.{declared-refuses, declared-decides}
use Rattle.eo_session.proofs.Holding.{keeps_table}
use Rattle.eo_session.specs.State.{State, context, is_in_scope}
use Rattle.eo_sig.specs.Reading.{read_constant, read_parameter}
use Rattle.eo_declare.specs.Declaring.{MayRepeat}
use Rattle.eo_session.proofs.store.Store.decide_fun.Goals as goal

pub returns-in_err-d-clause-decides : goal.returns-in_err-d-clause-decides
returns-in_err-d-clause-decides c =
    declared-refuses _ typed_effect (state_of c.args.self.now) _ c.from_residual.result c.in_err-d.field-0.0 c.from_residual.ensures.1 c.in_err-d.ensures.gives

pub decide_valued-requires-clause-whole : goal.decide_valued-requires-clause-whole
decide_valued-requires-clause-whole c = (keeps_table c.args.self.now c.requires.whole c.declared_fun.new.table c.in_ok-d.ensures.grows.stays c.in_ok-d.ensures.grows.table).whole

pub decide_valued-requires-clause-may : goal.decide_valued-requires-clause-may
decide_valued-requires-clause-may c =
    let keeps = keeps_table c.args.self.now c.requires.whole c.declared_fun.new.table c.in_ok-d.ensures.grows.stays c.in_ok-d.ensures.grows.table in
    subst (λ (z : State). MayRepeat (context z) (read_constant c.declared_fun.new.table.trees c.in_ok-d.d)) (sym keeps.same) c.in_ok-d.ensures.may

pub returns-clause-decides : goal.returns-clause-decides
returns-clause-decides c =
    let keeps = keeps_table c.args.self.now c.requires.whole c.declared_fun.new.table c.in_ok-d.ensures.grows.stays c.in_ok-d.ensures.grows.table in
    declared-decides _ typed_effect (state_of c.args.self.now) _ c.decide_valued.result _ (read_constant c.declared_fun.new.table.trees c.in_ok-d.d) keeps.same c.in_ok-d.ensures.gives.is c.decide_valued.ensures.decides

pub decide_valued-requires-clause-alone : goal.decide_valued-requires-clause-alone
decide_valued-requires-clause-alone c =
    let ts = c.declared_fun.new.table.trees in
    none-read (read_parameter ts) c.in_ok-d.d.params (fun-alone _ _ (read_constant ts c.in_ok-d.d) _ _ c.in_ok-d.ensures.gives.is)

pub decide_valued-requires-clause-outside : goal.decide_valued-requires-clause-outside
decide_valued-requires-clause-outside c =
    ap is_in_scope (keeps_table c.args.self.now c.requires.whole c.declared_fun.new.table c.in_ok-d.ensures.grows.stays c.in_ok-d.ensures.grows.table).same ∙ c.requires.outside

pub returns-clause-keeps : goal.returns-clause-keeps
returns-clause-keeps c = keeps_on _ _ _ (keeps_table c.args.self.now c.requires.whole c.declared_fun.new.table c.in_ok-d.ensures.grows.stays c.in_ok-d.ensures.grows.table) c.decide_valued.ensures.keeps
