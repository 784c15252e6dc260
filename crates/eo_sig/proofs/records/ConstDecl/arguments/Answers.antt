use Rattle.std.proofs.Common.{sym, ◌∙◌}
use Rattle.eo_term.specs.Terms.{tree_at}
use Rattle.eo_sig.proofs.Arguments.{arity_arguments}
use Rattle.eo_sig.proofs.records.ConstDecl.arguments.Goals as goal

pub returns : goal.returns
returns c = c.arity.ensures ∙ sym (arity_arguments (tree_at c.args.table.now.trees c.args.self.now.ty))
