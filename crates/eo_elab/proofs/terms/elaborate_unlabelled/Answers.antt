use Rattle.std.proofs.Common.{length, ap, sym, subst, ◌<◌}
use Rattle.std.proofs.lemmas.List.Elements.{All-nil}
use Rattle.eo_names.specs.Names.{Binding, BindingsBelow, read_locals}
use Rattle.eo_elab.specs.Meaning.{means, meaning, without_named_terms}
use Rattle.eo_elab.specs.Worlds.{context_at, named_terms_in}
use Rattle.eo_elab.proofs.Giving.{unlabelled}
use Rattle.eo_elab.proofs.terms.elaborate_unlabelled.Goals as goal

pub elaborate_with-requires-clause-named_terms : goal.elaborate_with-requires-clause-named_terms
elaborate_with-requires-clause-named_terms c = subst (BindingsBelow (length c.args.table.now.trees)) (sym c.new-named_terms.ensures) (All-nil (λ (b : Binding). b.1 < length c.args.table.now.trees))

pub returns-clause-gives : goal.returns-clause-gives
unfolding meaning
returns-clause-gives c =
    let t = c.args.table.now in
    unlabelled c.elaborate_with.new.table c.elaborate_with.new.named_terms c.elaborate_with.result _ _
    (ap (λ bs. without_named_terms (means (context_at t c.args.sig.now c.args.file_kind) (read_locals t.trees c.args.locals.now) c.args.s.now (named_terms_in t bs))) (sym c.new-named_terms.ensures)) c.elaborate_with.ensures.gives
