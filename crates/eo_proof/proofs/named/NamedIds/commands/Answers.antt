use Rattle.std.proofs.Common.{◌∙◌, ap, map}
use Rattle.eo_proof.specs.Kept.{NamedId}
use Rattle.eo_proof.proofs.Found.{commands-are}
use Rattle.eo_proof.proofs.named.NamedIds.commands.Goals as goal

pub returns : goal.returns
returns c =
    c.as_slice.ensures.value ∙ commands-are c.self.inside.names c.self.inside.ids.items c.self.inside.commands.items c.self.invariant.0 c.self.invariant.1
    ∙ ap (map (λ (e : NamedId). e.1.1)) c.self.view_is
