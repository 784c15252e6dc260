use Rattle.std.proofs.Common.{sym, ap, ◌∙◌, ◌≡◌, length, reverse, rules}
use Rattle.std.proofs.lemmas.List.{length-reverse}
use Rattle.eo_sexp.specs.Built.{Built}
use Rattle.eo_sexp.proofs.Building.{count-open}
use Rattle.eo_sexp.proofs.buffer.Buffer.depth.Goals as goal

pub returns : goal.returns
returns c =
    let long : c.len.result ≡ length c.self.inside.lists.items = search rules in
    long ∙ sym (length-reverse c.self.inside.lists.items) ∙ sym (count-open c.self.inside.parts.bytes.items c.self.inside.parts.nodes.items (reverse c.self.inside.lists.items))
    ∙ ap (λ (b : Built). length b.open_lists) c.self.view_is
