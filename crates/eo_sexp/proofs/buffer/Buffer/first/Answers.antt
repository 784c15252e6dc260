use Rattle.std.proofs.Common.{◌≡◌, ◌<◌, ◌∙◌, ap, sym, subst, [], length, reverse}
use Rattle.eo_sexp.specs.Nodes.{first_of}
use Rattle.eo_sexp.specs.Built.{Built}
use Rattle.eo_sexp.specs.Buffers.{open_lists, outside}
use Rattle.eo_sexp.proofs.Building.{whole-first}
use Rattle.eo_sexp.proofs.buffer.Buffer.first.Goals as goal

pub first-requires : goal.first-requires
first-requires c =
    let none : open_lists c.self.inside.parts.bytes.items c.self.inside.parts.nodes.items (reverse c.self.inside.lists.items) ≡ [] = ap (λ (b : Built). b.open_lists) c.self.view_is ∙ c.requires.whole in
    let some : 0 < length (outside c.self.inside.parts.bytes.items c.self.inside.parts.nodes.items (reverse c.self.inside.lists.items)) = subst (λ (b : Built). 0 < length b.done) (sym c.self.view_is) c.requires.some in
    let all = whole-first c.self.inside.parts.bytes.items c.self.inside.parts.nodes.items (reverse c.self.inside.lists.items) c.self.invariant.open_lists none some in
    record { few = c.self.invariant.short; some = all.0.0; linked = all.0.1 }

pub returns : goal.returns
returns c =
    let none : open_lists c.self.inside.parts.bytes.items c.self.inside.parts.nodes.items (reverse c.self.inside.lists.items) ≡ [] = ap (λ (b : Built). b.open_lists) c.self.view_is ∙ c.requires.whole in
    let some : 0 < length (outside c.self.inside.parts.bytes.items c.self.inside.parts.nodes.items (reverse c.self.inside.lists.items)) = subst (λ (b : Built). 0 < length b.done) (sym c.self.view_is) c.requires.some in
    let all = whole-first c.self.inside.parts.bytes.items c.self.inside.parts.nodes.items (reverse c.self.inside.lists.items) c.self.invariant.open_lists none some in
    c.first.ensures ∙ all.1 ∙ ap (λ (b : Built). first_of b.done) c.self.view_is
