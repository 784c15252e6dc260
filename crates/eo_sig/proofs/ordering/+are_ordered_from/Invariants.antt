use Rattle.std.proofs.Common.{length}
use Rattle.eo_sig.proofs.ordering.+are_ordered_from.Given as goal

abbrev pub decreases-are_ordered_from : goal.decreases-are_ordered_from
decreases-are_ordered_from l = length l.params.now
