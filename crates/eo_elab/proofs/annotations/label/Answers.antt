use Rattle.std.proofs.Common.{ap, sym, subst, ◌∙◌, map}
use Rattle.eo_names.specs.Contexts.{InAssert}
use Rattle.eo_names.specs.Scopes.{read_file_kind}
use Rattle.eo_elab.specs.Gives.{GivesNamedTerms}
use Rattle.eo_elab.specs.Worlds.{named_term_over, named_term_by}
use Rattle.eo_elab.proofs.annotations.label.Goals as goal

pub returns-in_ok-names-in-Assert-clause-gives : goal.returns-in_ok-names-in-Assert-clause-gives
returns-in_ok-names-in-Assert-clause-gives c = λ t.
    let sig = c.args.sig.now in
    let before = c.args.named_terms.now in
    subst (GivesNamedTerms t c.add_names.new.named_terms c.args.id c.add_names.result)
    (ap (named_term_over t sig InAssert before c.args.id) (ap (map (λ n. n.now)) c.deref.ensures.value ∙ c.in_ok-names-in-Assert.ensures)
    ∙ ap (λ s. named_term_by t sig (read_file_kind s) before c.args.id c.args.attributes.now) (sym c.in-Assert.is)) (c.add_names.ensures.gives t InAssert)
