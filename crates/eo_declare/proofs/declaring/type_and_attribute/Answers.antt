use Rattle.std.proofs.Common.{◌≡◌, [], ap, sym, ◌∙◌, arith}
use Rattle.std.specs.Prelude.{Ok}
use Rattle.eo_base.proofs.Answering.{fails}
use Rattle.eo_term.proofs.Growing.{grows_on}
use Rattle.eo_shape.specs.Reading as shapes
use Rattle.eo_term.specs.Growth.{tree_in}
use Rattle.eo_sig.specs.Reading.{read_attribute}
use Rattle.eo_names.specs.Scopes.{read_file_kind}
use Rattle.eo_names.specs.Worlds.{World}
use Rattle.eo_elab.specs.Worlds.{context_at, world_in, in_file_kind, meaning_in}
use Rattle.eo_declare.specs.Worlds.{attribute_in}
use Rattle.eo_declare.proofs.DeclaringLemmas.{typed-no-type, typed-no-attribute, typed-both}
use Rattle.eo_declare.proofs.Giving.{none_ready}
use Rattle.eo_declare.proofs.declaring.type_and_attribute.Goals as goal

pub elaborate_in-requires : goal.elaborate_in-requires
elaborate_in-requires c = record { ready = none_ready c.args.sig.now _ _ c.new-none.ensures c.requires }

pub attribute_meant-requires : goal.attribute_meant-requires
attribute_meant-requires c = record { ready = (c.names_law.ensures.stays c.args.sig.now _ c.args.table.now c.elaborate_in.new.table (none_ready c.args.sig.now _ _ c.new-none.ensures c.requires) c.in_ok-ty.ensures.grows).ready }

pub returns-in_err-ty-clause-gives : goal.returns-in_err-ty-clause-gives
returns-in_err-ty-clause-gives c =
    let x = context_at c.args.table.now c.args.sig.now c.args.file_kind in
    let ready = none_ready c.args.sig.now _ _ c.new-none.ensures c.requires in
    let alone : world_in c.args.table.now c.args.sig.now c.new-none.result c.args.file_kind ≡ record { names = x; locals = [] } = ap (λ ls. world_in c.args.table.now c.args.sig.now ls c.args.file_kind) c.new-none.ensures in
    fails _ _ _ _ _ _ _ c.from_residual.ensures.1
    (λ f e. typed-no-type x [] c.args.ty.now (shapes.read_attribute c.args.attribute.now) f (ap (λ (u : World). meaning_in u c.args.ty.now) (sym alone) ∙ e)) c.in_err-ty.ensures.gives

pub returns-in_err-attribute-clause-gives : goal.returns-in_err-attribute-clause-gives
returns-in_err-attribute-clause-gives c =
    let k = c.args.sig.now in
    let x = context_at c.args.table.now k c.args.file_kind in
    let ready = none_ready k _ _ c.new-none.ensures c.requires in
    let alone : world_in c.args.table.now k c.new-none.result c.args.file_kind ≡ record { names = x; locals = [] } = ap (λ ls. world_in c.args.table.now k ls c.args.file_kind) c.new-none.ensures in
    let same = ap (in_file_kind (read_file_kind c.args.file_kind)) (c.names_law.ensures.stays k c.new-none.result c.args.table.now c.elaborate_in.new.table ready c.in_ok-ty.ensures.grows).world in
    fails _ _ _ _ _ _ _ c.from_residual-in_err-attribute.ensures.1
    (λ f e. typed-no-attribute x [] c.args.ty.now (shapes.read_attribute c.args.attribute.now) (tree_in c.elaborate_in.new.table c.in_ok-ty.ty) f (ap (λ (u : World). meaning_in u c.args.ty.now) (sym alone) ∙ c.in_ok-ty.ensures.gives.is)
    (ap (λ (u : World). attribute_in u c.args.attribute.now) (sym (same ∙ alone)) ∙ e)) c.in_err-attribute.ensures.gives

pub returns-clause-gives : goal.returns-clause-gives
returns-clause-gives c =
    let k = c.args.sig.now in
    let x = context_at c.args.table.now k c.args.file_kind in
    let ready = none_ready k _ _ c.new-none.ensures c.requires in
    let alone : world_in c.args.table.now k c.new-none.result c.args.file_kind ≡ record { names = x; locals = [] } = ap (λ ls. world_in c.args.table.now k ls c.args.file_kind) c.new-none.ensures in
    let same = ap (in_file_kind (read_file_kind c.args.file_kind)) (c.names_law.ensures.stays k c.new-none.result c.args.table.now c.elaborate_in.new.table ready c.in_ok-ty.ensures.grows).world in
    let last = c.attribute_meant.new.table in
    let type = c.in_ok-attribute.ensures.grows.now.tree c.in_ok-ty.ty c.in_ok-ty.ensures.gives.live in
    record {
      live = record { type = omega (arith, c.in_ok-ty.ensures.gives.live, c.in_ok-attribute.ensures.grows.now.more_trees); attribute = c.in_ok-attribute.ensures.gives.live };
      is = typed-both x [] c.args.ty.now (shapes.read_attribute c.args.attribute.now) (tree_in last c.in_ok-ty.ty) (read_attribute last.trees c.in_ok-attribute.attribute)
          (ap (λ (u : World). meaning_in u c.args.ty.now) (sym alone) ∙ c.in_ok-ty.ensures.gives.is ∙ (λ i. Ok (sym type i)))
          (ap (λ (u : World). attribute_in u c.args.attribute.now) (sym (same ∙ alone)) ∙ c.in_ok-attribute.ensures.gives.is);
    }

pub returns-in_err-attribute-clause-grows : goal.returns-in_err-attribute-clause-grows
returns-in_err-attribute-clause-grows c = grows_on c.args.table.now c.elaborate_in.new.table c.attribute_meant.new.table c.in_ok-ty.ensures.grows c.in_err-attribute.ensures.grows

pub returns-clause-grows : goal.returns-clause-grows
returns-clause-grows c = grows_on c.args.table.now c.elaborate_in.new.table c.attribute_meant.new.table c.in_ok-ty.ensures.grows c.in_ok-attribute.ensures.grows
