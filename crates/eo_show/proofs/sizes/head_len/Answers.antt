use Rattle.std.proofs.Common.{rules}
use Rattle.eo_show.proofs.sizes.head_len.Goals as goal

pub returns : goal.returns
returns c = λ ts. let head = c.in_ok-print_head.ensures ts in search (rules, head)
