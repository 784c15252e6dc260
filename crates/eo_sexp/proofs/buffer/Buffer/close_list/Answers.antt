use Rattle.std.proofs.Common.{◌≡◌, ◌-◌, ap, sym, subst, ◌∙◌, List, ◌++◌, length, length-set, reverse, set, rules, arith}
use Rattle.std.specs.Prelude.{option_to_list}
use Rattle.std.proofs.lemmas.List.{length-take}
use Rattle.eo_sexp.specs.declared.lent.Node.TheVariants as node
use Rattle.eo_sexp.specs.declared.buffer.Open.{Open}
use Rattle.eo_sexp.specs.Built.{Built, closed}
use Rattle.eo_sexp.specs.Buffers.{built, AreOpen}
use Rattle.eo_sexp.proofs.Building.{list-closed, list-closed-open, count-children, node-parts}
use Rattle.eo_sexp.proofs.ChildCounts.{pushed}
use Rattle.eo_sexp.proofs.buffer.Buffer.close_list.Goals as goal

pub count_child-requires-clause-counted : goal.count_child-requires-clause-counted
count_child-requires-clause-counted c = λ o os e.
    let last = pushed c.pop.new.self.items c.self.inside.lists.items c.unwrap-at.result (c.pop.ensures.items ∙ ap (λ r. c.pop.new.self.items ++ option_to_list r) c.unwrap-at.ensures) in
    let are = subst (AreOpen c.self.inside.parts.bytes.items c.self.inside.parts.nodes.items) last c.self.invariant.open_lists in
    let few = count-children c.self.inside.parts.bytes.items _ o os (subst (AreOpen c.self.inside.parts.bytes.items _) e are.1) in
    let long : c.len-2.result ≡ length c.self.inside.parts.nodes.items = search rules in
    omega (arith, few, long, length-take c.unwrap-at.result.node c.self.inside.parts.nodes.items)

pub new-requires : goal.new-requires
new-requires c =
    let bytes = c.self.inside.parts.bytes.items in
    let ns = c.self.inside.parts.nodes.items in
    let last = pushed c.pop.new.self.items c.self.inside.lists.items c.unwrap-at.result (c.pop.ensures.items ∙ ap (λ r. c.pop.new.self.items ++ option_to_list r) c.unwrap-at.ensures) in
    let few = count-children bytes ns c.unwrap-at.result (reverse c.pop.new.self.items) (subst (AreOpen bytes ns) last c.self.invariant.open_lists) in
    let parts = node-parts bytes ns (reverse c.self.inside.lists.items) c.args.self.now c.self.invariant.open_lists c.self.view_is in
    omega (arith, few, parts, c.requires.own, c.requires.short)

pub invariant_of-self : goal.invariant_of-self
invariant_of-self c =
    let last = pushed c.pop.new.self.items c.self.inside.lists.items c.unwrap-at.result (c.pop.ensures.items ∙ ap (λ r. c.pop.new.self.items ++ option_to_list r) c.unwrap-at.ensures) in
    let are = subst (AreOpen c.self.inside.parts.bytes.items c.self.inside.parts.nodes.items) last c.self.invariant.open_lists in
    let long : c.len.result ≡ length c.self.inside.parts.nodes.items = search rules in
    let size : c.len.result - c.unwrap-at.result.node - 1 ≡ length c.self.inside.parts.nodes.items - c.unwrap-at.result.node - 1 = omega (arith, long) in
    let all = list-closed-open c.self.inside.parts.bytes.items c.self.inside.parts.nodes.items c.unwrap-at.result (reverse c.pop.new.self.items) c.new.result (c.len.result - c.unwrap-at.result.node - 1) c.args.to are c.new.ensures size in
    record {
      open_lists = subst (AreOpen c.self.inside.parts.bytes.items (set c.self.inside.parts.nodes.items c.unwrap-at.result.node (node.List c.new.result (c.len.result - c.unwrap-at.result.node - 1) c.unwrap-at.result.at c.args.to)))
          (sym c.count_child.ensures) all;
      room = c.self.invariant.room;
      short = omega (arith, c.self.invariant.short, length-set c.self.inside.parts.nodes.items c.unwrap-at.result.node (node.List c.new.result (c.len.result - c.unwrap-at.result.node - 1) c.unwrap-at.result.at c.args.to));
      few = omega (arith, c.self.invariant.few, length-set c.self.inside.parts.nodes.items c.unwrap-at.result.node (node.List c.new.result (c.len.result - c.unwrap-at.result.node - 1) c.unwrap-at.result.at c.args.to));
    }

pub returns : goal.returns
returns c =
    let last = pushed c.pop.new.self.items c.self.inside.lists.items c.unwrap-at.result (c.pop.ensures.items ∙ ap (λ r. c.pop.new.self.items ++ option_to_list r) c.unwrap-at.ensures) in
    let are = subst (AreOpen c.self.inside.parts.bytes.items c.self.inside.parts.nodes.items) last c.self.invariant.open_lists in
    let long : c.len.result ≡ length c.self.inside.parts.nodes.items = search rules in
    let size : c.len.result - c.unwrap-at.result.node - 1 ≡ length c.self.inside.parts.nodes.items - c.unwrap-at.result.node - 1 = omega (arith, long) in
    let all = list-closed c.self.inside.parts.bytes.items c.self.inside.parts.nodes.items c.unwrap-at.result (reverse c.pop.new.self.items) c.new.result (c.len.result - c.unwrap-at.result.node - 1) c.args.to are c.new.ensures size in
    ap (λ (os : List Open). built c.self.inside.parts.bytes.items (set c.self.inside.parts.nodes.items c.unwrap-at.result.node (node.List c.new.result (c.len.result - c.unwrap-at.result.node - 1) c.unwrap-at.result.at c.args.to)) os) c.count_child.ensures
    ∙ all
    ∙ ap (λ (os : List Open). closed (built c.self.inside.parts.bytes.items c.self.inside.parts.nodes.items os) c.args.to) (sym last)
    ∙ ap (λ (b : Built). closed b c.args.to) c.self.view_is
