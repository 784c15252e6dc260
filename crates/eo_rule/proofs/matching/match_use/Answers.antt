use Rattle.std.proofs.Common.{◌≡◌, Ok, map, option_map, option_to_list, sym, ◌∙◌, subst}
use Rattle.eo_base.specs.Answers.{Tells}
use Rattle.eo_base.specs.Checks.{Checked}
use Rattle.eo_sig.specs.Reading.{read_rule}
use Rattle.eo_term.specs.Terms.{tree_at}
use Rattle.eo_pattern.specs.Matching.{Assignment}
use Rattle.eo_pattern.specs.Slots.{held}
use Rattle.eo_rule.specs.Answers.{told, GivesAssignment}
use Rattle.eo_rule.specs.Uses.{match_trees, match_use}
use Rattle.eo_rule.proofs.Steps.{assignment_fails}
use Rattle.eo_rule.proofs.Chains.{first, use-first, use-second, use-last}
use Rattle.eo_rule.proofs.matching.match_use.Goals as goal

pub returns-in_err-match_assumption : goal.returns-in_err-match_assumption
returns-in_err-match_assumption c =
    let ts = c.args.table.now.trees in
    let r = read_rule ts c.args.rule.now in
    let h = option_map (tree_at ts) c.args.given.now.«assumption» in
    let ps = map (tree_at ts) c.args.premises.now in
    let xs = map (tree_at ts) c.args.given.now.args in
    let x = c.in_err-match_assumption.field-0.0 in
    assignment_fails c.args.table.now c.match_assumption.new.subst _ (match_use r h ps xs) x (first r h ps xs) c.from_residual.ensures.1 (use-first r h ps xs)
    (subst (λ (o : Checked Assignment). Tells told x o) (λ k. match_trees (c.clear.ensures.held ts k) (option_to_list r.assumed) (option_to_list h)) c.in_err-match_assumption.ensures)

pub returns-in_err-match_list : goal.returns-in_err-match_list
returns-in_err-match_list c =
    let ts = c.args.table.now.trees in
    let r = read_rule ts c.args.rule.now in
    let h = option_map (tree_at ts) c.args.given.now.«assumption» in
    let ps = map (tree_at ts) c.args.premises.now in
    let xs = map (tree_at ts) c.args.given.now.args in
    let σ = held ts c.match_assumption.new.subst in
    let one : first r h ps xs ≡ Ok σ = sym (λ k. match_trees (c.clear.ensures.held ts k) (option_to_list r.assumed) (option_to_list h)) ∙ c.in_ok-match_assumption.ensures.is in
    let patterns = sym c.requires.patterns in
    let x = c.in_err-match_list.field-0.0 in
    assignment_fails c.args.table.now c.match_list.new.subst _ (match_use r h ps xs) x _ c.from_residual-in_err-match_list.ensures.1 (use-second r h ps xs σ one)
    (subst (λ (o : Checked Assignment). Tells told x o) (λ k. match_trees σ (patterns k) ps) c.in_err-match_list.ensures)

pub returns : goal.returns
returns c =
    let ts = c.args.table.now.trees in
    let r = read_rule ts c.args.rule.now in
    let h = option_map (tree_at ts) c.args.given.now.«assumption» in
    let ps = map (tree_at ts) c.args.premises.now in
    let xs = map (tree_at ts) c.args.given.now.args in
    let σ = held ts c.match_assumption.new.subst in
    let τ = held ts c.match_list.new.subst in
    let one : first r h ps xs ≡ Ok σ = sym (λ k. match_trees (c.clear.ensures.held ts k) (option_to_list r.assumed) (option_to_list h)) ∙ c.in_ok-match_assumption.ensures.is in
    let patterns = c.requires.patterns in
    subst (λ (o : Checked Assignment). GivesAssignment c.args.table.now c.match_list-2.result c.match_list-2.new.subst o)
    ((λ k. match_trees τ (map (tree_at ts) (c.as_slice.ensures k)) (map (tree_at ts) (c.as_slice-2.ensures k)))
    ∙ sym (use-last r h ps xs σ τ one ((λ k. match_trees σ (patterns k) ps) ∙ c.in_ok-match_list.ensures.is)))
    c.match_list-2.ensures
