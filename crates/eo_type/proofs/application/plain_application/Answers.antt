use Rattle.std.proofs.Common.{◌<◌, length, true≢false, sym, ◌∙◌, arith, rules, tests}
use Rattle.eo_term.specs.Terms.{tree_at}
use Rattle.eo_type.proofs.Plain.{plain_applies, plain_apart}
use Rattle.eo_type.proofs.application.plain_application.Goals as goal

pub returns-then-not-is_same : goal.returns-then-not-is_same
returns-then-not-is_same c = λ x.
    let ts = c.args.table.now.trees in
    plain_apart (tree_at ts c.args.fun) (tree_at ts c.in-Arr.from) (tree_at ts c.in-Arr.to) (tree_at ts c.args.ty) x c.in-Arr.ensures.tree (sym c.is_closed.ensures.closed ∙ search (rules, tests))
    (λ e. true≢false (sym (c.is_same.ensures.tells.1 e) ∙ c.if-not-is_same.true))

pub returns : goal.returns
returns c = λ x.
    let ts = c.args.table.now.trees in
    let live : c.in-Arr.to < length ts = omega (arith, c.in-Arr.ensures.parts.1, c.requires.fun) in
    record {
      live = live;
      typed = plain_applies (tree_at ts c.args.fun) (tree_at ts c.in-Arr.from) (tree_at ts c.in-Arr.to) (tree_at ts c.args.ty) x c.in-Arr.ensures.tree (sym c.is_closed.ensures.closed ∙ search (rules, tests)) (sym c.is_plain.ensures ∙ search (rules, tests)) (c.is_closed.ensures.low c.in-Arr.to live) (c.is_same.ensures.tells.0 c.if-not-is_same.false);
    }
