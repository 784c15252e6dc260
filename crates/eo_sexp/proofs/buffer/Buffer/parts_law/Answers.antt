use Rattle.std.proofs.Common.{◌≡◌, ◌∙◌, ap, subst, [], reverse}
use Rattle.eo_sexp.specs.Nodes.{first_of}
use Rattle.eo_sexp.specs.Parts.{IsPart}
use Rattle.eo_sexp.specs.Built.{Built}
use Rattle.eo_sexp.specs.Buffers.{open_lists}
use Rattle.eo_sexp.proofs.PartsOf.{built-part}
use Rattle.eo_sexp.proofs.buffer.Buffer.parts_law.Goals as goal

pub returns : goal.returns
returns c =
    let none : open_lists c.self.inside.parts.bytes.items c.self.inside.parts.nodes.items (reverse c.self.inside.lists.items) ≡ [] = ap (λ (b : Built). b.open_lists) c.self.view_is ∙ c.requires in
    subst (λ (b : Built). IsPart b.bytes (first_of b.done)) c.self.view_is
    (built-part c.self.inside.parts.bytes.items c.self.inside.parts.nodes.items (reverse c.self.inside.lists.items) c.self.invariant.open_lists none)
