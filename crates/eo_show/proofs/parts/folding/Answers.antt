use Rattle.std.proofs.Common.{sym, true}
use Rattle.eo_sig.specs.Reading.{signature, read_constant}
use Rattle.eo_term.specs.Terms.{tree_at}
use Rattle.eo_show.proofs.FormOf.{fold_not, fold_by}
use Rattle.eo_show.proofs.parts.folding.Goals as goal

pub returns-then-not-takes_before : goal.returns-then-not-takes_before
returns-then-not-takes_before c =
    let ts = c.args.table.now.trees in
    sym (fold_not (signature ts c.args.sig.now) (tree_at ts c.args.head) c.in-Con.constant c.args.count c.in-Con.ensures.tree (sym (c.if-not-takes_before.ensures.tells ts)))

pub returns-then-joins_plainly : goal.returns-then-joins_plainly
returns-then-joins_plainly c =
    let ts = c.args.table.now.trees in
    sym (fold_by (signature ts c.args.sig.now) (tree_at ts c.args.head) c.in-Con.constant c.args.count (read_constant ts c.constant.result.now) true c.in-Con.ensures.tree (sym (c.if-not-takes_before.ensures.tells ts)) (c.constant.ensures.value ts) (c.if-joins_plainly.ensures ts))
