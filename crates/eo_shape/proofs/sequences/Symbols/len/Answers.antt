use Rattle.std.proofs.Common.{◌∙◌, ◌≡◌, ap, length, rules}
use Rattle.eo_shape.proofs.Places.{symbols-length}
use Rattle.eo_shape.proofs.sequences.Symbols.len.Goals as goal

pub returns : goal.returns
returns c = let long : c.len.result ≡ length c.self.inside.items = search rules in long ∙ symbols-length c.self.inside.items c.self.invariant ∙ ap length c.self.view_is
