use Rattle.std.proofs.Common.{◌∙◌, ap, sym, length}
use Rattle.std.specs.List.{zip}
use Rattle.eo_proof.proofs.Found.{named-count, made-count}
use Rattle.eo_proof.proofs.named.NamedIds.len.Goals as goal

pub returns : goal.returns
returns c =
    let names = c.self.inside.names in
    let ids = c.self.inside.ids.items in
    let commands = c.self.inside.commands.items in
    c.len.ensures ∙ sym (named-count names (zip ids commands) (made-count names ids commands c.self.invariant.0 c.self.invariant.1)) ∙ ap length c.self.view_is
