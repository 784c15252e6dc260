use Rattle.std.proofs.Common.{◌≡◌, ◌≤◌, ℕ, Some, length, slice_get}
use Rattle.eo_proof.specs.Places.{Entry}
use Rattle.eo_proof.proofs.places.Places.cut.Given as goal

abbrev pub invariant-loop-kept : goal.invariant-loop-kept
invariant-loop-kept l =
    (l.kept ≤ length l.self.others.entries)
    × ((i : ℕ) (e : Entry) → l.kept ≤ i → slice_get l.self.others.entries i ≡ Some e → l.n ≤ e.1)

abbrev pub decreases-loop-kept : goal.decreases-loop-kept
decreases-loop-kept l = l.kept
