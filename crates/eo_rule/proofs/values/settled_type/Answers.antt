use Rattle.std.proofs.Common.{ap}
use Rattle.eo_term.specs.Terms.{tree_at}
use Rattle.eo_type.specs.Types.{settled}
use Rattle.eo_rule.specs.Answers.{of_type}
use Rattle.eo_rule.specs.Uses.{typed_or}
use Rattle.eo_rule.proofs.Steps.{term_fails, itself, kind_none, kind_some, settled-none, settled-refused}
use Rattle.eo_rule.proofs.values.settled_type.Goals as goal

pub returns-in_err-found-clause-gives : goal.returns-in_err-found-clause-gives
returns-in_err-found-clause-gives c =
    let t = tree_at c.args.table.now.trees c.args.ty in
    let x = c.in_err-found.field-0.0 in
    let low = c.laws.ensures.low c.args.ty c.requires.live in
    term_fails c.settle.new.table _ (typed_or (settled t)) (of_type x) (typed_or (settled t)) c.from_residual.ensures.1 (itself _) (settled-refused t c.settle.new.table x low c.in_err-found.ensures.answers)

pub returns-in_default-clause-gives : goal.returns-in_default-clause-gives
returns-in_default-clause-gives c =
    let t = tree_at c.args.table.now.trees c.args.ty in
    let low = c.laws.ensures.low c.args.ty c.requires.live in
    settled-none t low (kind_none c.settle.new.table _ _ c.in_default.is c.in_ok-found.ensures.answers)

pub returns-clause-gives : goal.returns-clause-gives
returns-clause-gives c =
    let t = tree_at c.args.table.now.trees c.args.ty in
    let low = c.laws.ensures.low c.args.ty c.requires.live in
    let k = kind_some c.settle.new.table _ _ c.in-Some.found c.in-Some.is c.in_ok-found.ensures.answers in
    record { live = k.0; is = ap typed_or (c.settled_law.ensures t _ low k.1) }
