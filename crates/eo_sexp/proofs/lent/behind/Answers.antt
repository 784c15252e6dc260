use Rattle.std.proofs.Common.{◌+◌, drop, drop-drop, subst}
use Rattle.eo_sexp.specs.Nodes.{AreLinked}
use Rattle.eo_sexp.proofs.Parts.{linked_behind}
use Rattle.eo_sexp.proofs.lent.behind.Goals as goal

pub returns-in-List-clause-linked : goal.returns-in-List-clause-linked
returns-in-List-clause-linked c =
    let ns = c.args.parts.now.nodes.items in
    let linked = rw c.node_at.ensures at c.requires.linked in
    subst (AreLinked c.args.parts.now.bytes.items) (drop-drop c.in-List.inside (c.args.at + 1) ns)
    (linked_behind c.args.parts.now.bytes.items (drop (c.args.at + 1) ns) c.in-List.inside linked.1)
