use Rattle.std.proofs.Common.{arith, length, length-append, ◌∙◌, ap, sym, subst, List, ℕ, ◌++◌, reverse, take}
use Rattle.eo_sexp.specs.Built.{Built}
use Rattle.eo_sexp.specs.Buffers.{built, AreOpen}
use Rattle.eo_sexp.proofs.Building.{built-bytes, open-bytes}
use Rattle.eo_sexp.proofs.buffer.Buffer.extend.Goals as goal

pub invariant_of-self-2 : goal.invariant_of-self-2
invariant_of-self-2 c = record {
  open_lists = subst (λ (bytes : List ℕ). AreOpen bytes c.self.inside.parts.nodes.items (reverse c.self.inside.lists.items)) (sym c.in_ok-append.ensures.appends)
      (open-bytes c.self.inside.parts.bytes.items (take c.args.n c.args.more.now) c.self.inside.parts.nodes.items (reverse c.self.inside.lists.items) c.self.invariant.open_lists);
  room = c.self.invariant.room;
  short = c.self.invariant.short;
  few = omega (arith, c.self.invariant.few, ap length c.in_ok-append.ensures.appends, length-append c.self.inside.parts.bytes.items (take c.args.n c.args.more.now));
}

pub returns : goal.returns
returns c =
    ap (λ (bytes : List ℕ). built bytes c.self.inside.parts.nodes.items (reverse c.self.inside.lists.items)) c.in_ok-append.ensures.appends
    ∙ built-bytes c.self.inside.parts.bytes.items (take c.args.n c.args.more.now) c.self.inside.parts.nodes.items (reverse c.self.inside.lists.items) c.self.invariant.open_lists
    ∙ ap (λ (b : Built). record b { bytes = b.bytes ++ take c.args.n c.args.more.now }) c.self.view_is
