use Rattle.std.proofs.Common.{◌≡◌, ℕ, length, drop}
use Rattle.eo_eval.specs.Ready.{Gathering, outcome_of_parts}
use Rattle.eo_eval.proofs.machine.Machine.collect_from.Given as goal

-- the values of the parts before this one are collected
abbrev pub invariant-loop-i : goal.invariant-loop-i
invariant-loop-i l = record {
  gathering : Gathering l.fn.sig l.fn.table l.fn.types l.self l.fn.id l.fn.base l.fn.deepest;
  told : (left : ℕ) → outcome_of_parts l.fn.sig l.fn.table l.self l.fn.id l.fn.base left ≡ outcome_of_parts l.fn.sig l.fn.table l.fn.self l.fn.id l.fn.base left;
  at : l.i ≡ length (drop l.fn.base l.self.stack.values.items);
  table : l.table ≡ l.fn.table;
  parts : l.parts ≡ l.fn.parts;
}
