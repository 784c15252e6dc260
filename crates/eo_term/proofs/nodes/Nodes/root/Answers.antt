use Rattle.std.proofs.Common.{[], sym, ap, ◌∙◌}
use Rattle.eo_term.specs.declared.node.Node.{Node}
use Rattle.eo_term.specs.Keys.{Root, root_of, literals_of, lists_of}
use Rattle.eo_term.proofs.nodes.Nodes.root.Goals as goal

abbrev alone : Node → Root
alone d = record { node = d; args = [] }

pub returns-in-Literal : goal.returns-in-Literal
returns-in-Literal c = ap (root_of (literals_of c.args.self.now) (lists_of c.args.self.now)) c.in-Literal.is ∙ ap alone (sym c.literal.ensures)
