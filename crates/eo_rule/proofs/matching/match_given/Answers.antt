use Rattle.std.proofs.Common.{[], ◌∷◌, map, sym, ap, ◌∙◌, subst}
use Rattle.eo_base.specs.Answers.{Tells}
use Rattle.eo_base.specs.Checks.{Checked}
use Rattle.eo_sig.specs.Reading.{read_premises, read_rule, signature}
use Rattle.eo_term.specs.Terms.{tree_at}
use Rattle.eo_term.specs.Tree.{Tree}
use Rattle.eo_term.proofs.Growing.{grows_refl}
use Rattle.eo_pattern.specs.Matching.{Assignment}
use Rattle.eo_rule.specs.Answers.{told, GivesAssignment}
use Rattle.eo_rule.specs.Reading.{read_use}
use Rattle.eo_rule.specs.Uses.{joined, match_use, matched}
use Rattle.eo_rule.proofs.Steps.{assignment_fails}
use Rattle.eo_rule.proofs.Chains.{matched-each, matched-fails, matched-joined}
use Rattle.eo_rule.proofs.matching.match_given.Goals as goal

pub returns-in_err-list-in-Joined-clause-gives : goal.returns-in_err-list-in-Joined-clause-gives
returns-in_err-list-in-Joined-clause-gives c =
    let ts = c.args.table.now.trees in
    let S = signature ts c.args.sig.now in
    let r = read_rule ts c.args.rule.now in
    let u = read_use ts c.args.given.now in
    let shape = ap (read_premises ts) c.in-Joined.is in
    let x = c.in_err-list-in-Joined.field-0.0 in
    assignment_fails c.join.new.table c.args.subst.now _ (matched S r u) x (joined S c.in-Joined.with u.premises) c.from_residual.ensures.1 (matched-fails S r u _ c.in-Joined.with shape)
    (subst (λ (o : Checked Tree). Tells told x o) (λ k. joined S c.in-Joined.with (map (tree_at ts) (c.as_slice-premises.ensures k))) c.in_err-list-in-Joined.ensures.gives)

pub returns-in-Each-clause-gives : goal.returns-in-Each-clause-gives
returns-in-Each-clause-gives c =
    let ts = c.args.table.now.trees in
    let S = signature ts c.args.sig.now in
    let r = read_rule ts c.args.rule.now in
    let u = read_use ts c.args.given.now in
    let shape = ap (read_premises ts) c.in-Each.is in
    subst (λ (o : Checked Assignment). GivesAssignment c.args.table.now c.match_use.result c.match_use.new.subst o)
    ((λ k. match_use r u.assumed (map (tree_at ts) (c.as_slice-premises.ensures k)) u.arguments) ∙ sym (matched-each S r u _ shape))
    c.match_use.ensures

pub returns-in_ok-list-in-Joined-clause-gives : goal.returns-in_ok-list-in-Joined-clause-gives
returns-in_ok-list-in-Joined-clause-gives c =
    let t = c.args.table.now in
    let ts = t.trees in
    let mid = c.join.new.table in
    let S = signature ts c.args.sig.now in
    let r = read_rule ts c.args.rule.now in
    let u = read_use ts c.args.given.now in
    let shape = ap (read_premises ts) c.in-Joined.is in
    let g = c.in_ok-list-in-Joined.ensures.grows.table.now in
    let list = tree_at mid.trees c.in_ok-list-in-Joined.list in
    let rule = (c.growing_law.ensures.rule c.args.rule.now t mid c.requires.rule g).rule in
    let given = (c.growing_law.ensures.given c.args.given.now t mid c.requires.live g).given in
    let is = sym (λ k. joined S c.in-Joined.with (map (tree_at ts) (c.as_slice-premises.ensures k))) ∙ c.in_ok-list-in-Joined.ensures.gives.is in
    subst (λ (o : Checked Assignment). GivesAssignment mid c.match_use-in-Joined.result c.match_use-in-Joined.new.subst o)
    ((λ k. match_use (rule k) (given k).assumed (list ∷ []) (given k).arguments) ∙ sym (matched-joined S r u _ c.in-Joined.with list shape is))
    c.match_use-in-Joined.ensures

pub returns-in_err-list-in-Joined-clause-grows : goal.returns-in_err-list-in-Joined-clause-grows
returns-in_err-list-in-Joined-clause-grows c = c.in_err-list-in-Joined.ensures.grows

pub returns-in-Each-clause-grows : goal.returns-in-Each-clause-grows
returns-in-Each-clause-grows c =
    let t = c.args.table.now in
    c.laws.ensures t t c.requires.below (grows_refl t)

pub match_use-requires-in-Joined-clause-rule : goal.match_use-requires-in-Joined-clause-rule
match_use-requires-in-Joined-clause-rule c =
    (c.growing_law.ensures.rule c.args.rule.now c.args.table.now c.join.new.table c.requires.rule c.in_ok-list-in-Joined.ensures.grows.table.now).below

pub match_use-requires-in-Joined-clause-live : goal.match_use-requires-in-Joined-clause-live
match_use-requires-in-Joined-clause-live c =
    (c.growing_law.ensures.given c.args.given.now c.args.table.now c.join.new.table c.requires.live c.in_ok-list-in-Joined.ensures.grows.table.now).below
