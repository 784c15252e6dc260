use Rattle.std.proofs.Common.{ℕ, ◌<◌, ◌≤◌, length, get_or}
use Rattle.eo_term.specs.Keys.{ages_of}
use Rattle.eo_term.proofs.nodes.older.Given as goal

abbrev pub invariant-loop-count : goal.invariant-loop-count
invariant-loop-count g l = record {
  within : l.count ≤ length l.numbers.entries;
  newer : (i : ℕ) → l.count ≤ i → i < length (ages_of l.numbers.entries) → l.terms ≤ get_or (ages_of l.numbers.entries) i 0;
}

abbrev pub decreases-loop-count : goal.decreases-loop-count
decreases-loop-count g l = l.count
