use Rattle.std.proofs.Common.{ap, ◌∙◌}
use Rattle.eo_proof.specs.Scopes.{first_false}
use Rattle.eo_session.specs.Stepping.{Standing}
use Rattle.eo_session.proofs.session.Session.refutation.Goals as goal

pub refutation-requires : goal.refutation-requires
refutation-requires c = c.self.invariant (ap (λ (s : Standing). s.ended) c.self.view_is ∙ c.requires)

pub returns : goal.returns
returns c = c.refutation.ensures ∙ ap (λ (s : Standing). first_false s.state.scopes) c.self.view_is
