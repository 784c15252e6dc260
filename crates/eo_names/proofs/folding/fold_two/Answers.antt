use Rattle.std.proofs.Common.{◌≡◌, ◌≤◌, length, Ok, ap, sym, subst, ◌∙◌, arith}
use Rattle.std.proofs.lemmas.List.{length-map}
use Rattle.eo_base.proofs.Answering.{gives_fault}
use Rattle.eo_base.specs.Limits.{height_limit}
use Rattle.eo_term.specs.Growth.{trees_in, tree_in}
use Rattle.eo_term.specs.Terms.{tree_at}
use Rattle.eo_term.specs.Tree.{Con, is_tall}
use Rattle.eo_sig.specs.Reading.{read_attribute}
use Rattle.eo_names.specs.Contexts.{is_list}
use Rattle.eo_names.specs.Folding.{attribute_at}
use Rattle.eo_names.specs.Grouped.{grouped, if_low}
use Rattle.eo_names.specs.Scopes.{bound_in}
use Rattle.eo_names.specs.Worlds.{world}
use Rattle.eo_names.proofs.FoldSteps.{two_folded, low_term}
use Rattle.eo_names.proofs.FoldTall.{too_tall}
use Rattle.eo_names.proofs.Giving.{tall_told}
use Rattle.eo_names.proofs.JoinLemmas.{map_grown}
use Rattle.eo_names.proofs.folding.fold_two.Goals as goal

pub group-requires-clause-below : goal.group-requires-clause-below
group-requires-clause-below c =
    c.attribute_of.ensures.below _ (c.names_law.ensures.stays c.args.sig.now (bound_in c.args.scope.now) c.args.table.now c.constant.new.self c.requires.ready c.constant.ensures.grows).ready.below

pub returns-in_err-made-clause-gives : goal.returns-in_err-made-clause-gives
returns-in_err-made-clause-gives c = λ turns.
    let old = c.args.table.now in
    let now = c.constant.new.self in
    let k = c.args.k in
    let w = world old c.args.sig.now c.args.scope.now in
    let us = trees_in old c.args.args.now in
    let same = sym (c.names_law.ensures.stays c.args.sig.now (bound_in c.args.scope.now) old now c.requires.ready c.constant.ensures.grows).world in
    let attribute : attribute_at w.names.signature k ≡ read_attribute now.trees c.attribute_of.result = sym (c.attribute_of.ensures.value now.trees ∙ (λ i. attribute_at (sym same i).names.signature k)) in
    let args = sym (map_grown (length old.trees) old.trees now.trees c.constant.ensures.grows.now.tree c.args.args.now c.requires.args) in
    let own : Con k ≡ tree_in now c.in_ok-f.f = sym c.in_ok-f.ensures.makes.tree in
    let two : length us ≡ 2 = omega (arith, length-map c.args.args.now (tree_at old.trees), c.requires.two) in
    gives_fault _ _ _ _ _ _ c.from_residual-in_err-made.ensures.1
    (tall_told c.in_err-made.field-0.0 _ _
    (λ h. ap if_low (two_folded w.names.signature (is_list w.locals) k us two turns) ∙ too_tall (grouped (is_list w.locals) (Con k) (attribute_at w.names.signature k) us)
    ((λ i. is_tall (grouped (is_list (same i).locals) (own i) (attribute i) (args i))) ∙ h))
    c.in_err-made.ensures.gives)

pub returns-clause-gives : goal.returns-clause-gives
returns-clause-gives c = λ turns.
    let old = c.args.table.now in
    let now = c.constant.new.self in
    let new = c.group.new.table in
    let k = c.args.k in
    let w = world old c.args.sig.now c.args.scope.now in
    let us = trees_in old c.args.args.now in
    let same = sym (c.names_law.ensures.stays c.args.sig.now (bound_in c.args.scope.now) old now c.requires.ready c.constant.ensures.grows).world in
    let attribute : attribute_at w.names.signature k ≡ read_attribute now.trees c.attribute_of.result = sym (c.attribute_of.ensures.value now.trees ∙ (λ i. attribute_at (sym same i).names.signature k)) in
    let args = sym (map_grown (length old.trees) old.trees now.trees c.constant.ensures.grows.now.tree c.args.args.now c.requires.args) in
    let own : Con k ≡ tree_in now c.in_ok-f.f = sym c.in_ok-f.ensures.makes.tree in
    let two : length us ≡ 2 = omega (arith, length-map c.args.args.now (tree_at old.trees), c.requires.two) in
    let made : grouped (is_list w.locals) (Con k) (attribute_at w.names.signature k) us ≡ tree_in new c.in_ok-made.made =
    (λ i. grouped (is_list (same i).locals) (own i) (attribute i) (args i)) ∙ sym c.in_ok-made.ensures.gives.tree in
    record {
      live = c.in_ok-made.ensures.gives.live;
      is = ap if_low (two_folded w.names.signature (is_list w.locals) k us two turns ∙ ap Ok made) ∙ low_term (tree_in new c.in_ok-made.made) (subst (λ n. n ≤ height_limit) c.height.ensures.height c.height.ensures.low);
    }
