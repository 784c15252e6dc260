use Rattle.std.proofs.Common.{◌≡◌, ◌<◌, ◌∙◌, ap, sym, subst, [], map, length, All}
use Rattle.std.specs.Prelude.{Ok}
use Rattle.std.proofs.lemmas.List.Elements.{All-nil}
use Rattle.eo_sig.specs.declared.records.Param.{Param}
use Rattle.eo_sig.specs.Reading.{read_attribute, read_constant, read_parameter}
use Rattle.eo_sig.specs.Signature.{constant_may_hold}
use Rattle.eo_term.specs.Growth.{tree_in}
use Rattle.eo_declare.specs.Declarations.{constant}
use Rattle.eo_elab.specs.Worlds.{context_at}
use Rattle.eo_declare.proofs.ConstantLemmas.{plain-held, plain-refused}
use Rattle.eo_declare.proofs.constants.plain_constant.Goals as goal

pub returns-then-not-may_hold-clause-gives : goal.returns-then-not-may_hold-clause-gives
returns-then-not-may_hold-clause-gives c = λ old k.
    let t = c.args.table.now in
    let same : read_constant t.trees (record { name = c.in_ok-new.field-0; params = c.new-2.result; ty = c.args.ty; attribute = c.args.attribute; from_reference = c.is_reference.result }) ≡ constant (context_at old k c.args.file_kind) c.args.name.now [] (tree_in t c.args.ty) (read_attribute t.trees c.args.attribute) =
    (λ i. record { name = c.in_ok-new.ensures i; parameters = map (read_parameter t.trees) (c.new-2.ensures i); type = tree_in t c.args.ty; attribute = read_attribute t.trees c.args.attribute; from_reference = c.is_reference.ensures i }) in
    plain-refused (context_at old k c.args.file_kind) c.args.name.now (tree_in t c.args.ty) (read_attribute t.trees c.args.attribute) (ap constant_may_hold (sym same) ∙ sym c.may_hold.ensures ∙ c.if-not-may_hold.true)

pub returns-clause-gives : goal.returns-clause-gives
returns-clause-gives c = λ old k.
    let t = c.args.table.now in
    let same : read_constant t.trees (record { name = c.in_ok-new.field-0; params = c.new-2.result; ty = c.args.ty; attribute = c.args.attribute; from_reference = c.is_reference.result }) ≡ constant (context_at old k c.args.file_kind) c.args.name.now [] (tree_in t c.args.ty) (read_attribute t.trees c.args.attribute) =
    (λ i. record { name = c.in_ok-new.ensures i; parameters = map (read_parameter t.trees) (c.new-2.ensures i); type = tree_in t c.args.ty; attribute = read_attribute t.trees c.args.attribute; from_reference = c.is_reference.ensures i }) in
    record {
      live = record { params = subst (All (λ (p : Param). p.ty < length t.trees)) (sym c.new-2.ensures) (All-nil (λ (p : Param). p.ty < length t.trees)); type = c.requires.ty; attribute = c.requires.below };
      is = plain-held (context_at old k c.args.file_kind) c.args.name.now (tree_in t c.args.ty) (read_attribute t.trees c.args.attribute) (ap constant_may_hold (sym same) ∙ sym c.may_hold.ensures ∙ c.if-not-may_hold.false) ∙ ap Ok (sym same);
    }
