-- The value with which an evaluation ends, or the fault where it ends with none.
use Rattle.std.specs.Prelude.{Ok, Err}
use Rattle.eo_base.specs.declared.FaultName.TheVariants as fault
use Rattle.eo_base.specs.Checks.{Checked}
use Rattle.eo_term.specs.Tree.{Tree}
use Rattle.eo_stack.specs.Evaluation.{Outcome, Value, Stuck, Deep, Calls, Range, Tall}

abbrev pub value_or_fault : Outcome Tree → Checked Tree
value_or_fault (Value v) = Ok v
value_or_fault Stuck = Err fault.Stuck
value_or_fault Deep = Err fault.EvalDepth
value_or_fault Calls = Err fault.EvalCalls
value_or_fault Range = Err fault.NumberRange
value_or_fault Tall = Err fault.TermHeight
