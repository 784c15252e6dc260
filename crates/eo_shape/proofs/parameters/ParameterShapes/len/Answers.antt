use Rattle.std.proofs.Common.{◌∙◌, ◌≡◌, ap, length, rules}
use Rattle.eo_shape.proofs.Places.{parameters-length}
use Rattle.eo_shape.proofs.parameters.ParameterShapes.len.Goals as goal

pub returns : goal.returns
returns c = let long : c.len.result ≡ length c.self.inside.items = search rules in long ∙ parameters-length c.self.inside.items c.self.invariant ∙ ap length c.self.view_is
