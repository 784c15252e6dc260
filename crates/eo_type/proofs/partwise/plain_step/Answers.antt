use Rattle.std.proofs.Common.{◌+◌, sym, ap, subst}
use Rattle.eo_term.specs.Growth.{tree_in}
use Rattle.eo_term.specs.Tree.{App}
use Rattle.eo_sig.specs.Reading.{signature}
use Rattle.eo_type.specs.Known.{type_at}
use Rattle.eo_type.specs.Outcomes.{Gives}
use Rattle.eo_type.specs.Types.{type_of}
use Rattle.eo_type.proofs.partwise.plain_step.Goals as goal

pub returns-in-Some : goal.returns-in-Some
returns-in-Some c =
    let k = c.args.sig.now in
    let t = c.args.table.now in
    let S = signature t.trees k in
    let given : Gives t c.in-Some.found (type_of S (App (tree_in t c.args.fun) (tree_in t c.args.arg))) = c.in-Some.ensures in
    c.type_step.ensures k t t c.args.known.now (c.args.id + 1) (type_at k t c.args.id) (subst (Gives t c.in-Some.found) (sym (ap (type_of S) c.requires.tree)) given)
