use Rattle.eo_sig.specs.declared.records.Param.{Param}
use Rattle.std.proofs.Common.{◌<◌, length, All}
use Rattle.test_rule.proofs.tests.world.params.Given as goal

-- the types so far are there
abbrev pub invariant-loop-ty : goal.invariant-loop-ty
invariant-loop-ty l = All (λ (p : Param). p.ty < length l.table.trees) l.list
