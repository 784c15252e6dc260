use Rattle.std.proofs.Common.{◌≡◌, ap, sym, subst, ◌∙◌, ℕ, List, [], ◌∷◌, ◌++◌, length, length-append, reverse, arith, rules}
use Rattle.eo_sexp.specs.declared.lent.Node.{Node}
use Rattle.eo_sexp.specs.declared.lent.Node.TheVariants as node
use Rattle.eo_sexp.specs.declared.buffer.Open.{Open}
use Rattle.eo_sexp.specs.Built.{Built}
use Rattle.eo_sexp.specs.Buffers.{AreOpen}
use Rattle.eo_sexp.proofs.Building.{list-opened-open, node-parts}
use Rattle.eo_sexp.proofs.ChildCounts.{pushed}
use Rattle.eo_sexp.proofs.buffer.Buffer.open_list.Goals as goal

pub invariant_of-self-in_default : goal.invariant_of-self-in_default
invariant_of-self-in_default c =
    let bytes = c.self.inside.parts.bytes.items in
    let ns = c.self.inside.parts.nodes.items in
    let os = reverse c.self.inside.lists.items in
    let n : Node = node.List c.new.result 0 c.args.at c.args.at in
    let parts = node-parts bytes ns os c.args.self.now c.self.invariant.open_lists c.self.view_is in
    let count : c.len-node.result ≡ length ns = search rules in
    let room : length c.args.self.now.bytes ≡ length bytes = ap (λ (b : Built). length b.bytes) (sym c.self.view_is) in
    let list : Open = record { at = c.args.at; node = length ns; children = 0 } in
    let lists : reverse c.push.new.self.items ≡ list ∷ os =
    pushed c.self.inside.lists.items c.push.new.self.items list (c.in_ok-push.ensures.items ∙ ap (λ (k : ℕ). c.self.inside.lists.items ++ record { at = c.args.at; node = k; children = 0 } ∷ []) count) in
    record {
      open_lists = subst (AreOpen bytes c.push-2.new.self.items) (sym lists)
          (subst (λ (ms : List Node). AreOpen bytes ms (list ∷ os)) (sym c.in_default.ensures.items) (list-opened-open bytes ns n os c.args.at c.self.invariant.open_lists));
      room = omega (arith, c.self.invariant.room, c.in_default.ensures.capacity);
      short = omega (arith, parts, c.requires.own, c.requires.short, ap length c.in_default.ensures.items, length-append ns (n ∷ []));
      few = omega (arith, parts, room, c.requires.own, c.requires.within, ap length c.in_default.ensures.items, length-append ns (n ∷ []));
    }
