use Rattle.eo_term.proofs.Equality.{tree_decides, tree_list_decides}
use Rattle.eo_term.proofs.laws.equality_law.Goals as goal

pub returns-clause-trees : goal.returns-clause-trees
returns-clause-trees c = tree_decides

pub returns-clause-lists : goal.returns-clause-lists
returns-clause-lists c = tree_list_decides
