use Rattle.std.proofs.Common.{◌≡◌, ◌+◌, false, length, option_map, sym, ap, ◌∙◌, arith, rules, tests}
use Rattle.eo_term.specs.Terms.{tree_at}
use Rattle.eo_term.specs.Tree.{tree_eq}
use Rattle.eo_lists.proofs.Spell.{no_link, count_link}
use Rattle.eo_lists.proofs.spelling.length_of.Goals as goal

pub returns-in_default : goal.returns-in_default
returns-in_default c =
    let ts = c.args.table.now.trees in
    let differs : tree_eq (tree_at ts c.loop-rest.rest) (tree_at ts c.args.form.now.end) ≡ false = sym c.is_same.ensures.equals ∙ search (rules, tests) in
    sym (c.loop-rest.invariant.whole ∙ ap (option_map (λ xs. c.loop-rest.count + length xs)) (no_link (tree_at ts c.args.form.now.fun) (tree_at ts c.args.form.now.end) (tree_at ts c.loop-rest.rest) differs c.in_default.ensures))

pub loop-rest-preserved : goal.loop-rest-preserved
loop-rest-preserved c =
    let ts = c.args.table.now.trees in
    let differs : tree_eq (tree_at ts c.loop-rest.rest) (tree_at ts c.args.form.now.end) ≡ false = sym c.is_same.ensures.equals ∙ search (rules, tests) in
    let v = c.loop-rest.invariant in
    let l = c.in-Some.ensures in
    record {
      live = omega (arith, l.rest, v.live);
      counted = omega (arith, l.rest, v.counted);
      whole = count_link (tree_at ts c.args.form.now.fun) (tree_at ts c.args.form.now.end) (tree_at ts c.loop-rest.rest) (tree_at ts c.in-Some.link.item) (tree_at ts c.in-Some.link.rest) c.loop-rest.count _ v.whole differs l.tree;
    }
