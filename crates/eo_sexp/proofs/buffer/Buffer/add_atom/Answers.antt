use Rattle.std.proofs.Common.{◌≡◌, refl, ap, sym, subst, ◌∙◌, List, [], ◌∷◌, length, length-append, reverse, rules, arith}
use Rattle.eo_sexp.specs.Sexp.{Atom}
use Rattle.eo_sexp.specs.declared.lent.Node.{Node}
use Rattle.eo_sexp.specs.declared.lent.Node.TheVariants as node
use Rattle.eo_sexp.specs.declared.buffer.Open.{Open}
use Rattle.eo_sexp.specs.Nodes.{token_text, HasText}
use Rattle.eo_sexp.specs.Built.{Built, with_child}
use Rattle.eo_sexp.specs.Buffers.{built, AreOpen, counted}
use Rattle.eo_sexp.specs.Token.{kind_meant}
use Rattle.eo_sexp.proofs.Building.{added, added-open, count-children, node-parts, text-begins}
use Rattle.eo_sexp.proofs.buffer.Buffer.add_atom.Goals as goal

pub count_child-requires-clause-counted : goal.count_child-requires-clause-counted
count_child-requires-clause-counted c = λ o os e.
    let few = count-children c.self.inside.parts.bytes.items c.self.inside.parts.nodes.items o os (subst (AreOpen c.self.inside.parts.bytes.items c.self.inside.parts.nodes.items) e c.self.invariant.open_lists) in
    let long : c.len.result ≡ length c.push.new.self.items = search rules in
    omega (arith, few, long, ap length c.in_ok-push.ensures.items, length-append c.self.inside.parts.nodes.items (node.Atom c.args.kind c.args.delimited c.args.from c.args.to ∷ []))

pub count_child-requires-clause-few : goal.count_child-requires-clause-few
count_child-requires-clause-few c =
    let long : c.len.result ≡ length c.push.new.self.items = search rules in
    let parts = node-parts c.self.inside.parts.bytes.items c.self.inside.parts.nodes.items (reverse c.self.inside.lists.items) c.args.self.now c.self.invariant.open_lists c.self.view_is in
    let begins = text-begins c.args.self.now.bytes c.args.delimited c.args.from c.args.to c.requires.text in
    omega (arith, long, parts, begins.0, c.requires.own, c.requires.short, ap length c.in_ok-push.ensures.items, length-append c.self.inside.parts.nodes.items (node.Atom c.args.kind c.args.delimited c.args.from c.args.to ∷ []))

pub invariant_of-self-2 : goal.invariant_of-self-2
invariant_of-self-2 c =
    let parts = node-parts c.self.inside.parts.bytes.items c.self.inside.parts.nodes.items (reverse c.self.inside.lists.items) c.args.self.now c.self.invariant.open_lists c.self.view_is in
    let bytes = c.self.inside.parts.bytes.items in
    let text : HasText bytes c.args.delimited c.args.from c.args.to = subst (λ (b : Built). HasText b.bytes c.args.delimited c.args.from c.args.to) (sym c.self.view_is) c.requires.text in
    let n : Node = node.Atom c.args.kind c.args.delimited c.args.from c.args.to in
    let all = added-open bytes c.self.inside.parts.nodes.items (n ∷ []) (reverse c.self.inside.lists.items)
    (Atom (kind_meant c.args.kind) (token_text bytes c.args.delimited c.args.from c.args.to) (record { from = c.args.from; to = c.args.to })) c.self.invariant.open_lists ((text, c.requires.delimits), tt) refl in
    record {
      open_lists = subst (AreOpen bytes c.push.new.self.items) (sym c.count_child.ensures)
          (subst (λ (ns : List Node). AreOpen bytes ns (counted (reverse c.self.inside.lists.items))) (sym c.in_ok-push.ensures.items) all);
      room = omega (arith, c.self.invariant.room, c.in_ok-push.ensures.capacity);
      short = omega (arith, parts, c.requires.own, c.requires.short, (text-begins bytes c.args.delimited c.args.from c.args.to text).0, ap length c.in_ok-push.ensures.items, length-append c.self.inside.parts.nodes.items (n ∷ []));
      few = omega (arith, parts, c.requires.own, (text-begins bytes c.args.delimited c.args.from c.args.to text).1, ap length c.in_ok-push.ensures.items, length-append c.self.inside.parts.nodes.items (n ∷ []));
    }

pub returns : goal.returns
returns c =
    let bytes = c.self.inside.parts.bytes.items in
    let n : Node = node.Atom c.args.kind c.args.delimited c.args.from c.args.to in
    ap (λ (os : List Open). built bytes c.push.new.self.items os) c.count_child.ensures
    ∙ ap (λ (ns : List Node). built bytes ns (counted (reverse c.self.inside.lists.items))) c.in_ok-push.ensures.items
    ∙ added bytes c.self.inside.parts.nodes.items (n ∷ []) (reverse c.self.inside.lists.items)
    (Atom (kind_meant c.args.kind) (token_text bytes c.args.delimited c.args.from c.args.to) (record { from = c.args.from; to = c.args.to })) c.self.invariant.open_lists refl
    ∙ ap (λ (b : Built). with_child b (Atom (kind_meant c.args.kind) (token_text b.bytes c.args.delimited c.args.from c.args.to) (record { from = c.args.from; to = c.args.to }))) c.self.view_is
