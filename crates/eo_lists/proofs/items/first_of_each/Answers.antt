use Rattle.std.proofs.Common.{◌+◌, drop, nat_eq, sym, ap, ◌∙◌, arith}
use Rattle.std.proofs.lemmas.List.{at_drop_more, at_drop_all}
use Rattle.indexmap.specs.IndexSet.{insert_all, insert_key}
use Rattle.eo_lists.proofs.Firsts.{insert_all_is}
use Rattle.eo_lists.proofs.items.first_of_each.Goals as goal

pub returns : goal.returns
returns c =
    let items = c.args.items.now in
    sym (at_drop_all (insert_all nat_eq c.loop-item.found.keys) items c.loop-item.item-index (omega arith)) ∙ c.loop-item.invariant ∙ insert_all_is items

pub loop-item-preserved : goal.loop-item-preserved
loop-item-preserved c =
    let items = c.args.items.now in
    let i = c.loop-item.item-index in
    ap (λ ks. insert_all nat_eq ks (drop (i + 1) items)) (c.in_ok-insert.ensures.keys ∙ ap (insert_key nat_eq c.loop-item.found.keys) c.item-item.is)
    ∙ sym (at_drop_more (insert_all nat_eq c.loop-item.found.keys) items i c.item-item.result (omega arith)) ∙ c.loop-item.invariant
