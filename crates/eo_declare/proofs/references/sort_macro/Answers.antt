use Rattle.std.proofs.Common.{◌<◌, ◌≤◌, length, arith, ap, sym, ◌∙◌}
use Rattle.std.specs.Prelude.{Ok, true}
use Rattle.eo_base.specs.declared.FaultName.TheVariants.{Redeclared}
use Rattle.eo_base.specs.Limits.{parameters_limit}
use Rattle.eo_base.proofs.Answering.{fails}
use Rattle.eo_term.proofs.Growing.{grows_refl, grows_on}
use Rattle.eo_term.specs.Growth.{tree_in}
use Rattle.eo_declare.specs.Declarations.{defined_sort, is_free_or_reference}
use Rattle.eo_declare.specs.Declaring.{read_bound}
use Rattle.eo_elab.specs.Meaning.{meaning}
use Rattle.eo_elab.specs.Worlds.{context_in}
use Rattle.eo_declare.specs.Worlds.{reference_context}
use Rattle.eo_names.specs.declared.scope.FileKind.TheVariants as settings
use Rattle.eo_declare.proofs.BoundLemmas.{parameters-grown, parameters-more}
use Rattle.eo_declare.proofs.CheckedLemmas.{require-no}
use Rattle.eo_declare.proofs.ReferenceLemmas.{sort-many, sort-unbound, sort-no-type, sort-whole}
use Rattle.eo_declare.proofs.Giving.{same_context_at}
use Rattle.eo_declare.proofs.references.sort_macro.Goals as goal

pub returns-then-not-may_declare-clause-gives : goal.returns-then-not-may_declare-clause-gives
unfolding defined_sort
returns-then-not-may_declare-clause-gives c = require-no _ Redeclared _ (sym (c.may_declare.ensures c.args.table.now.trees) ∙ c.if-not-may_declare.true)

pub returns-then-len-gt-PARAMETERS-clause-gives : goal.returns-then-len-gt-PARAMETERS-clause-gives
returns-then-len-gt-PARAMETERS-clause-gives c =
    let t = c.args.table.now in
    let many : parameters_limit < length c.args.params.now = omega (arith, c.len.ensures, c.if-len-gt-PARAMETERS.true) in
    sort-many (reference_context t c.args.sig.now) c.args.name.now c.args.params.now c.args.ty.now (sym (c.may_declare.ensures t.trees) ∙ c.if-not-may_declare.false) many

pub returns-in_err-bound-clause-gives : goal.returns-in_err-bound-clause-gives
returns-in_err-bound-clause-gives c =
    let t = c.args.table.now in
    let few : length c.args.params.now ≤ parameters_limit = omega (arith, c.len.ensures, c.if-len-gt-PARAMETERS.false) in
    fails _ _ _ _ _ _ _ c.from_residual.ensures.1
    (sort-unbound (reference_context t c.args.sig.now) c.args.name.now c.args.params.now c.args.ty.now (sym (c.may_declare.ensures t.trees) ∙ c.if-not-may_declare.false) few) c.in_err-bound.ensures.gives

pub elaborate_in-requires : goal.elaborate_in-requires
elaborate_in-requires c =
    record { ready = record { below = (c.laws.ensures c.args.table.now c.bind_types.new.table c.requires c.in_ok-bound.ensures.grows).stays.below; names = c.in_ok-bound.ensures.gives.live.locals } }

pub returns-in_err-tree-clause-gives : goal.returns-in_err-tree-clause-gives
returns-in_err-tree-clause-gives c =
    let t = c.args.table.now in
    let us = c.bind_types.new.table in
    let x = reference_context t c.args.sig.now in
    let few : length c.args.params.now ≤ parameters_limit = omega (arith, c.len.ensures, c.if-len-gt-PARAMETERS.false) in
    let b = read_bound us.trees c.in_ok-bound.bound in
    let same = same_context_at settings.Reference c.args.sig.now t us c.laws.ensures c.requires c.in_ok-bound.ensures.grows in
    fails _ _ _ _ _ _ _ c.from_residual-in_err-tree.ensures.1
    (λ f e. sort-no-type x c.args.name.now c.args.params.now c.args.ty.now (sym (c.may_declare.ensures t.trees) ∙ c.if-not-may_declare.false) few b c.in_ok-bound.ensures.gives.is f (ap (λ y. meaning y b.locals c.args.ty.now) (sym same) ∙ e)) c.in_err-tree.ensures.gives

pub returns-clause-gives : goal.returns-clause-gives
returns-clause-gives c =
    let t = c.args.table.now in
    let us = c.bind_types.new.table in
    let vs = c.elaborate_in.new.table in
    let x = reference_context t c.args.sig.now in
    let few : length c.args.params.now ≤ parameters_limit = omega (arith, c.len.ensures, c.if-len-gt-PARAMETERS.false) in
    let bound = c.in_ok-bound.bound in
    let b = read_bound us.trees bound in
    let tree = tree_in vs c.in_ok-tree.tree in
    let same = same_context_at settings.Reference c.args.sig.now t us c.laws.ensures c.requires c.in_ok-bound.ensures.grows in
    let params = parameters-grown (length us.trees) us.trees vs.trees bound.params c.in_ok-tree.ensures.grows.now.tree c.in_ok-bound.ensures.gives.live.params in
    record {
      live = record { params = parameters-more (length us.trees) (length vs.trees) bound.params c.in_ok-tree.ensures.grows.now.more_trees c.in_ok-bound.ensures.gives.live.params; tree = c.in_ok-tree.ensures.gives.live; few = omega (arith, few, c.in_ok-bound.ensures.count) };
      is = sort-whole x c.args.name.now c.args.params.now c.args.ty.now (sym (c.may_declare.ensures t.trees) ∙ c.if-not-may_declare.false) few b c.in_ok-bound.ensures.gives.is tree (ap (λ y. meaning y b.locals c.args.ty.now) (sym same) ∙ c.in_ok-tree.ensures.gives.is)
          ∙ (λ i. Ok (record { name = sym c.in_ok-new.ensures i; parameters = sym params i; tree = tree; from_reference = true }));
    }

pub returns-clause-may : goal.returns-clause-may
returns-clause-may c =
    let t = c.args.table.now in
    ap (is_free_or_reference (context_in t c.args.sig.now)) c.in_ok-new.ensures ∙ sym (c.may_declare.ensures t.trees) ∙ c.if-not-may_declare.false

pub bind_types-requires : goal.bind_types-requires
bind_types-requires c = record { few = omega (arith, c.len.ensures, c.if-len-gt-PARAMETERS.false) }

pub returns-then-not-may_declare-clause-grows : goal.returns-then-not-may_declare-clause-grows
returns-then-not-may_declare-clause-grows c = c.laws.ensures c.args.table.now c.args.table.now c.requires (grows_refl c.args.table.now)

pub returns-then-len-gt-PARAMETERS-clause-grows : goal.returns-then-len-gt-PARAMETERS-clause-grows
returns-then-len-gt-PARAMETERS-clause-grows c = c.laws.ensures c.args.table.now c.args.table.now c.requires (grows_refl c.args.table.now)

pub returns-in_err-bound-clause-grows : goal.returns-in_err-bound-clause-grows
returns-in_err-bound-clause-grows c = c.laws.ensures c.args.table.now c.bind_types.new.table c.requires c.in_err-bound.ensures.grows

pub returns-in_err-tree-clause-grows : goal.returns-in_err-tree-clause-grows
returns-in_err-tree-clause-grows c =
    c.laws.ensures c.args.table.now c.elaborate_in.new.table c.requires (grows_on c.args.table.now c.bind_types.new.table c.elaborate_in.new.table c.in_ok-bound.ensures.grows c.in_err-tree.ensures.grows)

pub returns-in_err-new-clause-grows : goal.returns-in_err-new-clause-grows
returns-in_err-new-clause-grows c =
    c.laws.ensures c.args.table.now c.elaborate_in.new.table c.requires (grows_on c.args.table.now c.bind_types.new.table c.elaborate_in.new.table c.in_ok-bound.ensures.grows c.in_ok-tree.ensures.grows)

pub returns-clause-grows : goal.returns-clause-grows
returns-clause-grows c =
    c.laws.ensures c.args.table.now c.elaborate_in.new.table c.requires (grows_on c.args.table.now c.bind_types.new.table c.elaborate_in.new.table c.in_ok-bound.ensures.grows c.in_ok-tree.ensures.grows)
