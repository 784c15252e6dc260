use Rattle.std.proofs.Common.{ap, ◌∙◌}
use Rattle.eo_session.specs.Roots.{live_count}
use Rattle.eo_session.specs.Stepping.{Standing}
use Rattle.eo_session.proofs.session.Session.live.Goals as goal

pub live-requires : goal.live-requires
live-requires c = c.self.invariant (ap (λ (s : Standing). s.ended) c.self.view_is ∙ c.requires)

pub returns : goal.returns
returns c = c.live.ensures ∙ ap (λ (s : Standing). live_count s.state) c.self.view_is
