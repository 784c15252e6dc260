use Rattle.std.proofs.Common.{map, ap, ◌∙◌}
use Rattle.eo_names.specs.Names.{Binding}
use Rattle.eo_session.proofs.Reclaiming.{terms_names, terms_put}
use Rattle.eo_session.proofs.asserting.set_terms.Goals as goal

pub returns-clause-names : goal.returns-clause-names
returns-clause-names c = ap (map (λ (b : Binding). b.0)) c.set_all.ensures ∙ terms_names c.args.names.now c.args.ids.now

pub returns-clause-terms : goal.returns-clause-terms
returns-clause-terms c = ap (map (λ (b : Binding). b.1)) c.set_all.ensures ∙ terms_put c.args.names.now c.args.ids.now c.requires
