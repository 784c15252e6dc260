use Rattle.std.proofs.Common.{◌≡◌, ◌+◌, ℕ, nat_eq, drop}
use Rattle.eo_lists.specs.Lists.{times}
use Rattle.eo_lists.specs.Parts.{counted}
use Rattle.eo_lists.proofs.counts.count.Given as goal

-- what was counted and what is left are the whole
abbrev pub invariant-loop-item : goal.invariant-loop-item
invariant-loop-item l = (k : ℕ) → counted l.counts k + times nat_eq k (drop l.item-index l.items) ≡ times nat_eq k l.items
