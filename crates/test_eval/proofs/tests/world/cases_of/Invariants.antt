use Rattle.std.proofs.Common.{length, All}
use Rattle.eo_sig.specs.Reading.{CaseBelow}
use Rattle.test_eval.proofs.tests.world.cases_of.Given as goal

-- the terms of the cases so far are there
abbrev pub invariant-loop-case : goal.invariant-loop-case
invariant-loop-case l = All (CaseBelow (length l.table.trees)) l.cases
