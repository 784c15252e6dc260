use Rattle.std.proofs.Common.{sym, ◌∙◌, arith, true, false}
use Rattle.eo_sig.specs.Reading.{signature}
use Rattle.eo_term.specs.Terms.{tree_at}
use Rattle.eo_show.proofs.FormOf.{short_by}
use Rattle.eo_show.proofs.parts.short_list.Goals as goal

pub returns-then-takes_before : goal.returns-then-takes_before
returns-then-takes_before c =
    let ts = c.args.table.now.trees in
    let l = c.in_ok-link.link in
    sym (short_by (signature ts c.args.sig.now) (tree_at ts c.args.id) c.run-run.result l.constant (tree_at ts l.item) (tree_at ts l.rest) true (c.run-run.ensures ∙ c.requires.tells.run) (omega (arith, c.if-run-lt1.false)) (omega (arith, c.if-run-ge-MANY_ITEMS.false)) c.in_ok-link.ensures.0 (sym (c.if-takes_before.ensures.tells ts)))

pub returns-else-takes_before : goal.returns-else-takes_before
returns-else-takes_before c =
    let ts = c.args.table.now.trees in
    let l = c.in_ok-link.link in
    sym (short_by (signature ts c.args.sig.now) (tree_at ts c.args.id) c.run-run.result l.constant (tree_at ts l.item) (tree_at ts l.rest) false (c.run-run.ensures ∙ c.requires.tells.run) (omega (arith, c.if-run-lt1.false)) (omega (arith, c.if-run-ge-MANY_ITEMS.false)) c.in_ok-link.ensures.0 (sym (c.if-takes_before.ensures.tells ts)))
