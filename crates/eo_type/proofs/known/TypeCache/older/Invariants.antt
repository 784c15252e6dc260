use Rattle.std.proofs.Common.{◌≤◌, length}
use Rattle.eo_type.proofs.known.TypeCache.older.Given as goal

abbrev pub invariant-loop-count : goal.invariant-loop-count
invariant-loop-count l = l.count ≤ length l.self-inside.greatest.items

abbrev pub decreases-loop-count : goal.decreases-loop-count
decreases-loop-count l = l.count
