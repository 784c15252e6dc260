use Rattle.std.proofs.Common.{length, All}
use Rattle.eo_sig.specs.Reading.{CaseBelow}
use Rattle.test_rule.proofs.tests.world.cases_of.Given as goal

-- the terms of the cases so far are there
abbrev pub invariant-loop-row : goal.invariant-loop-row
invariant-loop-row l = All (CaseBelow (length l.table.trees)) l.cases
