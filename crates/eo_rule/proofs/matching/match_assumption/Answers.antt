use Rattle.std.proofs.Common.{option_map, option_to_list, sym, subst}
use Rattle.eo_base.specs.Checks.{Checked}
use Rattle.eo_term.specs.Growth.{tree_in}
use Rattle.eo_pattern.specs.Matching.{Assignment}
use Rattle.eo_pattern.specs.Slots.{held}
use Rattle.eo_rule.specs.Answers.{GivesAssignment}
use Rattle.eo_rule.specs.Uses.{match_trees}
use Rattle.eo_rule.proofs.matching.match_assumption.Goals as goal

pub returns-in-Some-given : goal.returns-in-Some-given
returns-in-Some-given c =
    let t = c.args.table.now in
    let σ = held t.trees c.args.subst.now in
    let p = sym c.in-Some.is in
    let q = sym c.in-Some-given.is in
    subst (λ (o : Checked Assignment). GivesAssignment t c.match_list.result c.match_list.new.subst o)
    (λ k. match_trees σ (option_to_list (option_map (tree_in t) (p k))) (option_to_list (option_map (tree_in t) (q k))))
    c.match_list.ensures

pub returns-in-None-given-2 : goal.returns-in-None-given-2
returns-in-None-given-2 c =
    let t = c.args.table.now in
    let σ = held t.trees c.args.subst.now in
    let p = sym c.in-None.is in
    let q = sym c.in-None-given-2.is in
    subst (λ (o : Checked Assignment). GivesAssignment t c.match_list-in-None-given-2.result c.match_list-in-None-given-2.new.subst o)
    (λ k. match_trees σ (option_to_list (option_map (tree_in t) (p k))) (option_to_list (option_map (tree_in t) (q k))))
    c.match_list-in-None-given-2.ensures
