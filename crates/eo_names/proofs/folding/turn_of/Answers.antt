use Rattle.std.proofs.Common.{◌≡◌, length, ap, sym, ◌∙◌, arith}
use Rattle.std.proofs.lemmas.List.{length-map}
use Rattle.eo_base.proofs.Elements.{ids_more}
use Rattle.eo_term.proofs.Growing.{grows_on}
use Rattle.eo_term.specs.Growth.{trees_in}
use Rattle.eo_term.specs.Terms.{tree_at}
use Rattle.eo_sig.specs.Reading.{read_attribute}
use Rattle.eo_names.specs.Contexts.{is_list}
use Rattle.eo_names.specs.Folding.{least, attribute_at, by_attribute}
use Rattle.eo_names.specs.Grouped.{grouped, joined_items}
use Rattle.eo_names.specs.Turns.{is_tall_turn}
use Rattle.eo_names.specs.Scopes.{bound_in}
use Rattle.eo_names.specs.Worlds.{world, turns_in}
use Rattle.eo_names.proofs.FoldSteps.{too_few, not_too_few, turn_tall}
use Rattle.eo_names.proofs.Giving.{tall_told, turn_fault}
use Rattle.eo_names.proofs.JoinLemmas.{map_grown}
use Rattle.eo_names.proofs.folding.turn_of.Goals as goal

pub returns-then-args-least_count-clause-gives : goal.returns-then-args-least_count-clause-gives
returns-then-args-least_count-clause-gives c = λ turns.
    let old = c.args.table.now in
    let w = world old c.args.sig.now c.args.scope.now in
    let asked : c.least_count.result ≡ least (attribute_at w.names.signature c.args.k) = c.least_count.ensures.value old.trees ∙ ap least (c.attribute_of-attribute.ensures.value old.trees) in
    too_few w.names.signature (is_list w.locals) c.args.k (trees_in old c.args.args.now) turns (omega (arith, length-map c.args.args.now (tree_at old.trees), asked, c.if-args-least_count.true))

pub turn_by-requires-clause-below : goal.turn_by-requires-clause-below
turn_by-requires-clause-below c =
    c.attribute_of-attribute.ensures.below _ (c.names_law.ensures.stays c.args.sig.now (bound_in c.args.scope.now) c.args.table.now c.constant.new.self c.requires.ready c.constant.ensures.grows).ready.below

pub returns-in_err-turn_by-clause-gives : goal.returns-in_err-turn_by-clause-gives
returns-in_err-turn_by-clause-gives c =
    let old = c.args.table.now in
    let now = c.constant.new.self in
    let k = c.args.k in
    let w = world old c.args.sig.now c.args.scope.now in
    let us = trees_in old c.args.args.now in
    let same = sym (c.names_law.ensures.stays c.args.sig.now (bound_in c.args.scope.now) old now c.requires.ready c.constant.ensures.grows).world in
    let asked : c.least_count.result ≡ least (attribute_at w.names.signature k) = c.least_count.ensures.value old.trees ∙ ap least (c.attribute_of-attribute.ensures.value old.trees) in
    let attribute : attribute_at w.names.signature k ≡ read_attribute now.trees c.attribute_of-attribute.result = sym (c.attribute_of-attribute.ensures.value now.trees ∙ (λ i. attribute_at (sym same i).names.signature k)) in
    let args = sym (map_grown (length old.trees) old.trees now.trees c.constant.ensures.grows.now.tree c.args.args.now c.requires.args) in
    let own = sym c.in_ok-f.ensures.makes.tree in
    turn_fault _ _ _ _ _ _ c.from_residual-in_err-turn_by.ensures.1
    (λ turns. tall_told c.in_err-turn_by.field-0.0 _ _
    (λ h. turn_tall w.names.signature (is_list w.locals) k us turns (omega (arith, length-map c.args.args.now (tree_at old.trees), asked, c.if-args-least_count.false))
    ((λ i. is_tall_turn (grouped (is_list (same i).locals) (own i) (attribute i) (args i)) (joined_items (own i) (attribute i) (args i))) ∙ h))
    c.in_err-turn_by.ensures.gives)

pub returns-clause-gives : goal.returns-clause-gives
returns-clause-gives c =
    let old = c.args.table.now in
    let now = c.constant.new.self in
    let k = c.args.k in
    let w = world old c.args.sig.now c.args.scope.now in
    let us = trees_in old c.args.args.now in
    let same = sym (c.names_law.ensures.stays c.args.sig.now (bound_in c.args.scope.now) old now c.requires.ready c.constant.ensures.grows).world in
    let asked : c.least_count.result ≡ least (attribute_at w.names.signature k) = c.least_count.ensures.value old.trees ∙ ap least (c.attribute_of-attribute.ensures.value old.trees) in
    let attribute : attribute_at w.names.signature k ≡ read_attribute now.trees c.attribute_of-attribute.result = sym (c.attribute_of-attribute.ensures.value now.trees ∙ (λ i. attribute_at (sym same i).names.signature k)) in
    let args = sym (map_grown (length old.trees) old.trees now.trees c.constant.ensures.grows.now.tree c.args.args.now c.requires.args) in
    let own = sym c.in_ok-f.ensures.makes.tree in
    record {
      live = c.in_ok-turn_by.ensures.gives.live;
      is = λ turns.
          not_too_few w.names.signature (is_list w.locals) k us turns (omega (arith, length-map c.args.args.now (tree_at old.trees), asked, c.if-args-least_count.false))
          ∙ (λ i. by_attribute (turns_in w turns) (is_list (same i).locals) (own i) (attribute i) (args i)) ∙ c.in_ok-turn_by.ensures.gives.is (turns_in w turns);
    }

pub turn_by-requires-clause-names : goal.turn_by-requires-clause-names
turn_by-requires-clause-names c = (c.names_law.ensures.stays c.args.sig.now (bound_in c.args.scope.now) c.args.table.now c.constant.new.self c.requires.ready c.constant.ensures.grows).ready.names

pub turn_by-requires-clause-args : goal.turn_by-requires-clause-args
turn_by-requires-clause-args c = ids_more (length c.args.table.now.trees) (length c.constant.new.self.trees) c.constant.ensures.grows.now.more_trees c.args.args.now c.requires.args

pub returns-in_err-turn_by-clause-grows : goal.returns-in_err-turn_by-clause-grows
returns-in_err-turn_by-clause-grows c = grows_on _ _ _ c.constant.ensures.grows c.turn_by.ensures.grows

pub returns-clause-grows : goal.returns-clause-grows
returns-clause-grows c = grows_on _ _ _ c.constant.ensures.grows c.turn_by.ensures.grows
