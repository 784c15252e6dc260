use Rattle.std.proofs.Common.{length, ap, sym, ◌∙◌}
use Rattle.std.specs.Prelude.{Ok, true}
use Rattle.eo_base.proofs.Answering.{fails}
use Rattle.eo_term.proofs.Growing.{grows_on}
use Rattle.eo_term.specs.Growth.{tree_in}
use Rattle.eo_declare.specs.Declaring.{read_bound}
use Rattle.eo_elab.specs.Worlds.{meaning_in, in_file_kind}
use Rattle.eo_declare.specs.Worlds.{reference_context}
use Rattle.eo_names.specs.Contexts.{InReference}
use Rattle.eo_names.specs.Worlds.{World}
use Rattle.eo_declare.proofs.BoundLemmas.{parameters-grown, parameters-more}
use Rattle.eo_declare.proofs.ReferenceLemmas.{macro-no-type, macro-no-body, macro-whole}
use Rattle.eo_declare.proofs.references.typed_macro.Goals as goal

pub returns-in_err-elaborate_in-clause-gives : goal.returns-in_err-elaborate_in-clause-gives
returns-in_err-elaborate_in-clause-gives c =
    let t = c.args.table.now in
    fails _ _ _ _ _ _ _ c.from_residual.ensures.1 (macro-no-type (reference_context t c.args.sig.now) c.args.name.now c.args.output.now c.args.body.now (read_bound t.trees c.args.bound)) c.in_err-elaborate_in.ensures.gives

pub elaborate_in-requires-2 : goal.elaborate_in-requires-2
elaborate_in-requires-2 c = record { ready = (c.names_law.ensures.stays c.args.sig.now c.args.bound.locals c.args.table.now c.elaborate_in.new.table c.requires.bound.ready c.in_ok-elaborate_in.ensures.grows).ready }

pub returns-in_err-tree-clause-gives : goal.returns-in_err-tree-clause-gives
returns-in_err-tree-clause-gives c =
    let t = c.args.table.now in
    let us = c.elaborate_in.new.table in
    let k = c.args.sig.now in
    let same = ap (in_file_kind InReference) (c.names_law.ensures.stays k c.args.bound.locals t us c.requires.bound.ready c.in_ok-elaborate_in.ensures.grows).world in
    fails _ _ _ _ _ _ _ c.from_residual-in_err-tree.ensures.1
    (λ f e. macro-no-body (reference_context t k) c.args.name.now c.args.output.now c.args.body.now (read_bound t.trees c.args.bound) _ c.in_ok-elaborate_in.ensures.gives.is f (ap (λ (u : World). meaning_in u c.args.body.now) (sym same) ∙ e)) c.in_err-tree.ensures.gives

pub returns-clause-gives : goal.returns-clause-gives
returns-clause-gives c =
    let t = c.args.table.now in
    let us = c.elaborate_in.new.table in
    let vs = c.elaborate_in-2.new.table in
    let k = c.args.sig.now in
    let ps = c.args.bound.params in
    let same = ap (in_file_kind InReference) (c.names_law.ensures.stays k c.args.bound.locals t us c.requires.bound.ready c.in_ok-elaborate_in.ensures.grows).world in
    let grows = c.in_ok-tree.ensures.grows.since t c.in_ok-elaborate_in.ensures.grows.now in
    let params = parameters-grown (length t.trees) t.trees vs.trees ps grows.tree c.requires.bound.params in
    record {
      live = record { params = parameters-more (length t.trees) (length vs.trees) ps grows.more_trees c.requires.bound.params; tree = c.in_ok-tree.ensures.gives.live; few = c.requires.few };
      is = macro-whole (reference_context t k) c.args.name.now c.args.output.now c.args.body.now (read_bound t.trees c.args.bound) _ c.in_ok-elaborate_in.ensures.gives.is (tree_in vs c.in_ok-tree.tree) (ap (λ (u : World). meaning_in u c.args.body.now) (sym same) ∙ c.in_ok-tree.ensures.gives.is)
          ∙ (λ i. Ok (record { name = sym c.in_ok-new.ensures i; parameters = sym params i; tree = tree_in vs c.in_ok-tree.tree; from_reference = true }));
    }

pub returns-in_err-tree-clause-grows : goal.returns-in_err-tree-clause-grows
returns-in_err-tree-clause-grows c =
    let all = grows_on c.args.table.now c.elaborate_in.new.table c.elaborate_in-2.new.table c.in_ok-elaborate_in.ensures.grows c.in_err-tree.ensures.grows in
    c.laws.ensures c.args.table.now c.elaborate_in-2.new.table c.requires.bound.ready.below all

pub returns-in_err-new-clause-grows : goal.returns-in_err-new-clause-grows
returns-in_err-new-clause-grows c =
    let all = grows_on c.args.table.now c.elaborate_in.new.table c.elaborate_in-2.new.table c.in_ok-elaborate_in.ensures.grows c.in_ok-tree.ensures.grows in
    c.laws.ensures c.args.table.now c.elaborate_in-2.new.table c.requires.bound.ready.below all

pub returns-clause-grows : goal.returns-clause-grows
returns-clause-grows c =
    let all = grows_on c.args.table.now c.elaborate_in.new.table c.elaborate_in-2.new.table c.in_ok-elaborate_in.ensures.grows c.in_ok-tree.ensures.grows in
    c.laws.ensures c.args.table.now c.elaborate_in-2.new.table c.requires.bound.ready.below all

pub elaborate_in-requires : goal.elaborate_in-requires
elaborate_in-requires c = record { ready = c.requires.bound.ready }

pub returns-in_err-elaborate_in-clause-grows : goal.returns-in_err-elaborate_in-clause-grows
returns-in_err-elaborate_in-clause-grows c = c.laws.ensures c.args.table.now c.elaborate_in.new.table c.requires.bound.ready.below c.in_err-elaborate_in.ensures.grows

pub returns-clause-name : goal.returns-clause-name
returns-clause-name c = c.in_ok-new.ensures
