use Rattle.eo_term.specs.Growth.{tree_in}
use Rattle.eo_term.specs.Tree.{App}
use Rattle.eo_term.proofs.Building.{builds_interned}
use Rattle.eo_lists.proofs.build.apply.Goals as goal

pub returns-clause-gives : goal.returns-clause-gives
returns-clause-gives c =
    let t = c.args.table.now in
    builds_interned t c.intern.new.self c.intern.result (App (tree_in t c.args.fun) (tree_in t c.args.arg)) c.intern.ensures.interned c.intern.ensures.tall
