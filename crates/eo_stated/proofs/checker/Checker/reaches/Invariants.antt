use Rattle.std.proofs.Common.{◌≡◌, ◌≤◌, length}
use Rattle.eo_cert.specs.Stated.{reaches}
use Rattle.eo_stated.specs.Checking.{stated_of, context_of}
use Rattle.eo_stated.proofs.checker.Checker.reaches.Given as goal

abbrev pub invariant-loop-at : goal.invariant-loop-at
invariant-loop-at l = record {
  within : l.at ≤ length l.self.contexts.items;
  same : reaches l.context (context_of (stated_of l.self).contexts l.context) l.other ≡ reaches l.at (context_of (stated_of l.self).contexts l.at) l.other;
}

abbrev pub decreases-loop-at : goal.decreases-loop-at
decreases-loop-at l = l.at
