use Rattle.std.proofs.Common.{◌≡◌, ◌<◌, [], length, sym, subst, ◌∙◌}
use Rattle.std.proofs.lemmas.List.Elements.{All-nil}
use Rattle.eo_base.proofs.Answering.{fails}
use Rattle.eo_sig.specs.Reading.{signature, macros}
use Rattle.eo_names.specs.Contexts.{InAssert}
use Rattle.eo_names.specs.declared.locals.LocalName.{LocalName}
use Rattle.eo_names.specs.Names.{Binding, BindingsBelow, AreBelow, read_locals}
use Rattle.eo_elab.specs.Meaning.{means}
use Rattle.eo_elab.specs.Worlds.{named_terms_in}
use Rattle.eo_ref.specs.Reference.{names_in}
use Rattle.eo_ref.proofs.asserting.read_assertion.Goals as goal

pub reference_term-requires : goal.reference_term-requires
reference_term-requires c =
    let n = length c.args.table.now.trees in
    record {
      ready = record { below = c.requires.ready; names = subst (AreBelow n) (sym c.new-none.ensures) (All-nil (λ (l : LocalName). l.id < n)) };
      names = subst (BindingsBelow n) (sym c.new-names.ensures) (All-nil (λ (b : Binding). b.1 < n));
    }

pub returns-in_err-id-clause-gives : goal.returns-in_err-id-clause-gives
returns-in_err-id-clause-gives c =
    let t = c.args.table.now in
    let k = c.args.sig.now in
    let s = c.args.formula.now in
    let x = names_in (signature t.trees k) (macros t.trees k) InAssert in
    let alone : means x [] s [] ≡ means x (read_locals t.trees c.new-none.result) s (named_terms_in t c.new-names.result) = (λ i. means x (read_locals t.trees (sym c.new-none.ensures i)) s (named_terms_in t (sym c.new-names.ensures i))) in
    fails _ _ _ _ _ _ _ c.from_residual.ensures.1 (λ f e. alone ∙ e) c.in_err-id.ensures.gives

pub returns-clause-gives : goal.returns-clause-gives
returns-clause-gives c =
    let t = c.args.table.now in
    let k = c.args.sig.now in
    let s = c.args.formula.now in
    let x = names_in (signature t.trees k) (macros t.trees k) InAssert in
    let alone : means x [] s [] ≡ means x (read_locals t.trees c.new-none.result) s (named_terms_in t c.new-names.result) = (λ i. means x (read_locals t.trees (sym c.new-none.ensures i)) s (named_terms_in t (sym c.new-names.ensures i))) in
    record {
      live = record { formula = c.in_ok-id.ensures.gives.live; names = c.in_ok-id.ensures.names.below };
      is = alone ∙ c.in_ok-id.ensures.gives.is;
    }
