use Rattle.std.proofs.Common.{◌≡◌, ◌∙◌, ap, sym, subst, List, [], ◌∷◌, ◌++◌, length, reverse, arith}
use Rattle.eo_sexp.specs.Sexp.{Atom}
use Rattle.eo_sexp.specs.declared.lent.Node.{Node}
use Rattle.eo_sexp.specs.declared.lent.Node.TheVariants as node
use Rattle.eo_sexp.specs.Nodes.{token_text, HasText}
use Rattle.eo_sexp.specs.Built.{Built, with_child}
use Rattle.eo_sexp.specs.Buffers.{open_lists, outside, built, AreOpen}
use Rattle.eo_sexp.specs.Token.{kind_meant}
use Rattle.eo_sexp.proofs.Building.{alone-open, alone-built}
use Rattle.eo_sexp.proofs.buffer.Buffer.be_atom.Goals as goal

pub invariant_of-self : goal.invariant_of-self
invariant_of-self c =
    let bytes = c.self.inside.parts.bytes.items in
    let os = reverse c.self.inside.lists.items in
    let n : Node = node.Atom c.args.kind c.args.delimited c.args.from c.args.to in
    let none : open_lists bytes c.self.inside.parts.nodes.items os ≡ [] = ap (λ (b : Built). b.open_lists) c.self.view_is ∙ c.requires.outside in
    let text : HasText bytes c.args.delimited c.args.from c.args.to = subst (λ (b : Built). HasText b.bytes c.args.delimited c.args.from c.args.to) (sym c.self.view_is) c.requires.text in
    let all : c.push_reserved.new.self.items ≡ n ∷ [] = c.push_reserved.ensures.items ∙ ap (λ (ns : List Node). ns ++ n ∷ []) c.clear.ensures.items in
    record {
      open_lists = subst (λ (ns : List Node). AreOpen bytes ns os) (sym all) (alone-open bytes c.self.inside.parts.nodes.items os c.args.kind c.args.delimited c.args.from c.args.to none text c.requires.delimits);
      room = omega (arith, c.self.invariant.room, c.push_reserved.ensures.capacity, c.clear.ensures.capacity);
      short = omega (arith, ap length all);
      few = omega (arith, ap length all);
    }

pub returns : goal.returns
returns c =
    let bytes = c.self.inside.parts.bytes.items in
    let os = reverse c.self.inside.lists.items in
    let n : Node = node.Atom c.args.kind c.args.delimited c.args.from c.args.to in
    let none : open_lists bytes c.self.inside.parts.nodes.items os ≡ [] = ap (λ (b : Built). b.open_lists) c.self.view_is ∙ c.requires.outside in
    let nothing : outside bytes c.self.inside.parts.nodes.items os ≡ [] = ap (λ (b : Built). b.done) c.self.view_is ∙ c.requires.none in
    let all : c.push_reserved.new.self.items ≡ n ∷ [] = c.push_reserved.ensures.items ∙ ap (λ (ns : List Node). ns ++ n ∷ []) c.clear.ensures.items in
    ap (λ (ns : List Node). built bytes ns os) all
    ∙ alone-built bytes c.self.inside.parts.nodes.items os c.args.kind c.args.delimited c.args.from c.args.to none nothing
    ∙ ap (λ (b : Built). with_child b (Atom (kind_meant c.args.kind) (token_text b.bytes c.args.delimited c.args.from c.args.to) (record { from = c.args.from; to = c.args.to }))) c.self.view_is
