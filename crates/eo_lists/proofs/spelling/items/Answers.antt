use Rattle.std.proofs.Common.{◌≡◌, ◌++◌, [], ◌∷◌, false, option_map, sym, ap, ◌∙◌, arith, rules, tests}
use Rattle.eo_term.specs.Terms.{tree_at}
use Rattle.eo_term.specs.Tree.{tree_eq}
use Rattle.eo_term.specs.Growth.{trees_in}
use Rattle.eo_lists.proofs.Spell.{no_link, after_link, all_pushed}
use Rattle.eo_lists.proofs.spelling.items.Goals as goal

pub returns-in_default : goal.returns-in_default
returns-in_default c =
    let ts = c.args.table.now.trees in
    let differs : tree_eq (tree_at ts c.loop-rest.rest) (tree_at ts c.args.form.now.end) ≡ false = sym c.is_same.ensures.equals ∙ search (rules, tests) in
    c.loop-rest.invariant.whole ∙ ap (option_map (λ xs. trees_in c.args.table.now c.loop-rest.found ++ xs)) (no_link (tree_at ts c.args.form.now.fun) (tree_at ts c.args.form.now.end) (tree_at ts c.loop-rest.rest) differs c.in_default.ensures)

pub loop-rest-preserved : goal.loop-rest-preserved
loop-rest-preserved c =
    let ts = c.args.table.now.trees in
    let differs : tree_eq (tree_at ts c.loop-rest.rest) (tree_at ts c.args.form.now.end) ≡ false = sym c.is_same.ensures.equals ∙ search (rules, tests) in
    let v = c.loop-rest.invariant in
    let l = c.in-Some.ensures in
    let pushed : c.push.new.self ≡ c.loop-rest.found ++ c.in-Some.link.item ∷ [] = c.in_ok-push.ensures.pushed in
    record {
      live = omega (arith, l.rest, v.live);
      found = all_pushed ts c.loop-rest.found c.in-Some.link.item c.push.new.self v.found (omega (arith, l.item, v.live)) pushed;
      whole = after_link ts (tree_at ts c.args.form.now.fun) (tree_at ts c.args.form.now.end) (tree_at ts c.loop-rest.rest) (tree_at ts c.in-Some.link.rest) c.in-Some.link.item c.loop-rest.found c.push.new.self _ v.whole differs l.tree pushed;
    }
