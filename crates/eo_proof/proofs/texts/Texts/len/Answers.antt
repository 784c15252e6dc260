use Rattle.std.proofs.Common.{◌∙◌, ap, sym, length}
use Rattle.eo_proof.proofs.Ends.{count}
use Rattle.eo_proof.proofs.texts.Texts.len.Goals as goal

pub returns : goal.returns
returns c =
    ap length c.as_slice.ensures.value
    ∙ sym (count 0 c.self.inside.bytes.items c.self.inside.ends.items) ∙ ap length c.self.view_is
