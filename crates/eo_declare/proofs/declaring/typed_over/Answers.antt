use Rattle.std.proofs.Common.{◌≡◌, ℕ, ◌≤◌, length, map, subst, false, ap, sym, ◌∙◌, arith}
use Rattle.std.specs.Prelude.{Ok}
use Rattle.eo_term.proofs.Heights.{low_height}
use Rattle.eo_term.proofs.Growing.{grows_on}
use Rattle.eo_base.specs.Limits.{height_limit}
use Rattle.eo_base.proofs.Answering.{fails, gives_fault}
use Rattle.eo_sig.specs.Reading.{read_parameter, read_attribute}
use Rattle.eo_shape.specs.Reading as shapes
use Rattle.eo_term.specs.Growth.{tree_in}
use Rattle.eo_term.specs.Tree.{is_tall}
use Rattle.eo_declare.specs.Declarations.{bound_type}
use Rattle.eo_declare.specs.Declaring.{read_bound, typed_over}
use Rattle.eo_names.specs.Worlds.{World}
use Rattle.eo_elab.specs.Worlds.{context_in}
use Rattle.eo_declare.specs.Worlds.{attribute_in}
use Rattle.eo_declare.proofs.Giving.{refused_as}
use Rattle.eo_declare.proofs.BoundLemmas.{parameters-grown}
use Rattle.eo_declare.proofs.DeclaringLemmas.{over-no-type, over-tall, over-no-attribute, over-both}
use Rattle.eo_declare.proofs.declaring.typed_over.Goals as goal

pub returns-in_err-result-clause-gives : goal.returns-in_err-result-clause-gives
returns-in_err-result-clause-gives c =
    let t = c.args.table.now in
    fails _ _ _ _ _ _ _ c.from_residual.ensures.1 (over-no-type (context_in t c.args.sig.now) (read_bound t.trees c.args.bound.now) c.args.ty.now (shapes.read_attribute c.args.attribute.now)) c.in_err-result.ensures.gives

pub returns-in_err-whole-clause-gives : goal.returns-in_err-whole-clause-gives
returns-in_err-whole-clause-gives c =
    let t = c.args.table.now in
    let us = c.term.new.table in
    let x = context_in t c.args.sig.now in
    let b = read_bound t.trees c.args.bound.now in
    let shape = shapes.read_attribute c.args.attribute.now in
    let type = tree_in us c.in_ok-result.result in
    let params = ap (map (read_parameter us.trees)) c.as_slice.ensures ∙ parameters-grown (length t.trees) t.trees us.trees c.args.bound.now.params c.in_ok-result.ensures.grows.now.tree c.requires.bound.params in
    let same : bound_type 0 (map (read_parameter us.trees) c.as_slice.result.now) type ≡ bound_type 0 b.parameters type = ap (λ ps. bound_type 0 ps type) params in
    gives_fault _ _ _ _ _ _ c.from_residual-in_err-whole.ensures.1
    (refused_as ℕ c.in_err-whole.field-0.0 (typed_over x b c.args.ty.now shape) (λ tall. over-tall x b c.args.ty.now shape type c.in_ok-result.ensures.gives.is (ap is_tall (sym same) ∙ c.in_err-whole.ensures.tall tall)))

pub attribute_meant-requires : goal.attribute_meant-requires
attribute_meant-requires c =
    let all = grows_on c.args.table.now c.term.new.table c.bound_type.new.table c.in_ok-result.ensures.grows c.in_ok-whole.ensures.grows in
    record { ready = (c.names_law.ensures.stays c.args.sig.now c.args.bound.now.locals c.args.table.now c.bound_type.new.table c.requires.bound.ready all).ready }

pub returns-in_err-attribute-clause-gives : goal.returns-in_err-attribute-clause-gives
returns-in_err-attribute-clause-gives c =
    let t = c.args.table.now in
    let us = c.term.new.table in
    let vs = c.bound_type.new.table in
    let x = context_in t c.args.sig.now in
    let b = read_bound t.trees c.args.bound.now in
    let shape = shapes.read_attribute c.args.attribute.now in
    let type = tree_in us c.in_ok-result.result in
    let params = ap (map (read_parameter us.trees)) c.as_slice.ensures ∙ parameters-grown (length t.trees) t.trees us.trees c.args.bound.now.params c.in_ok-result.ensures.grows.now.tree c.requires.bound.params in
    let made : tree_in vs c.in_ok-whole.whole ≡ bound_type 0 b.parameters type = c.in_ok-whole.ensures.makes.tree ∙ ap (λ ps. bound_type 0 ps type) params in
    let short : is_tall (bound_type 0 b.parameters type) ≡ false = ap is_tall (sym made) ∙ low_height (tree_in vs c.in_ok-whole.whole) (subst (λ n. n ≤ height_limit) c.height.ensures.height c.height.ensures.low) in
    let same = (c.names_law.ensures.stays c.args.sig.now c.args.bound.now.locals t vs c.requires.bound.ready (grows_on t us vs c.in_ok-result.ensures.grows c.in_ok-whole.ensures.grows)).world in
    fails _ _ _ _ _ _ _ c.from_residual-in_err-attribute.ensures.1
    (λ f e. over-no-attribute x b c.args.ty.now shape type c.in_ok-result.ensures.gives.is f short (ap (λ (u : World). attribute_in u c.args.attribute.now) (sym same) ∙ e)) c.in_err-attribute.ensures.gives

pub returns-clause-gives : goal.returns-clause-gives
returns-clause-gives c =
    let t = c.args.table.now in
    let us = c.term.new.table in
    let vs = c.bound_type.new.table in
    let last = c.attribute_meant.new.table in
    let x = context_in t c.args.sig.now in
    let b = read_bound t.trees c.args.bound.now in
    let shape = shapes.read_attribute c.args.attribute.now in
    let type = tree_in us c.in_ok-result.result in
    let params = ap (map (read_parameter us.trees)) c.as_slice.ensures ∙ parameters-grown (length t.trees) t.trees us.trees c.args.bound.now.params c.in_ok-result.ensures.grows.now.tree c.requires.bound.params in
    let made : tree_in vs c.in_ok-whole.whole ≡ bound_type 0 b.parameters type = c.in_ok-whole.ensures.makes.tree ∙ ap (λ ps. bound_type 0 ps type) params in
    let short : is_tall (bound_type 0 b.parameters type) ≡ false = ap is_tall (sym made) ∙ low_height (tree_in vs c.in_ok-whole.whole) (subst (λ n. n ≤ height_limit) c.height.ensures.height c.height.ensures.low) in
    let same = (c.names_law.ensures.stays c.args.sig.now c.args.bound.now.locals t vs c.requires.bound.ready (grows_on t us vs c.in_ok-result.ensures.grows c.in_ok-whole.ensures.grows)).world in
    let kept = c.in_ok-attribute.ensures.grows.now.tree c.in_ok-whole.whole c.in_ok-whole.ensures.makes.live in
    record {
      live = record { type = omega (arith, c.in_ok-whole.ensures.makes.live, c.in_ok-attribute.ensures.grows.now.more_trees); attribute = c.in_ok-attribute.ensures.gives.live };
      is = over-both x b c.args.ty.now shape type c.in_ok-result.ensures.gives.is (read_attribute last.trees c.in_ok-attribute.attribute) short (ap (λ (u : World). attribute_in u c.args.attribute.now) (sym same) ∙ c.in_ok-attribute.ensures.gives.is)
          ∙ (λ i. Ok (sym (kept ∙ made) i, read_attribute last.trees c.in_ok-attribute.attribute));
    }

pub returns-in_err-whole-clause-grows : goal.returns-in_err-whole-clause-grows
returns-in_err-whole-clause-grows c = grows_on c.args.table.now c.term.new.table c.bound_type.new.table c.in_ok-result.ensures.grows c.in_err-whole.ensures.grows

pub returns-in_err-attribute-clause-grows : goal.returns-in_err-attribute-clause-grows
returns-in_err-attribute-clause-grows c =
    let all = grows_on c.args.table.now c.term.new.table c.bound_type.new.table c.in_ok-result.ensures.grows c.in_ok-whole.ensures.grows in
    grows_on c.args.table.now c.bound_type.new.table c.attribute_meant.new.table all c.in_err-attribute.ensures.grows

pub returns-clause-grows : goal.returns-clause-grows
returns-clause-grows c =
    let all = grows_on c.args.table.now c.term.new.table c.bound_type.new.table c.in_ok-result.ensures.grows c.in_ok-whole.ensures.grows in
    grows_on c.args.table.now c.bound_type.new.table c.attribute_meant.new.table all c.in_ok-attribute.ensures.grows
