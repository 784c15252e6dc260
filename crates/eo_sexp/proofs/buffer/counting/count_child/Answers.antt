use Rattle.std.proofs.Common.{◌≡◌, length, rules}
use Rattle.eo_sexp.proofs.ChildCounts.{counted_last}
use Rattle.eo_sexp.proofs.buffer.counting.count_child.Goals as goal

pub returns-then-n-gt0 : goal.returns-then-n-gt0
returns-then-n-gt0 c =
    let long : c.len-n.result ≡ length c.args.lists.now.items = search rules in
    counted_last c.args.lists.now.items c.index_mut.result.now c.len-n.result long c.if-n-gt0.true c.index_mut.ensures.value
