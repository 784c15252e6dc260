use Rattle.std.proofs.Common.{◌≡◌, []}
use Rattle.eo_base.specs.Limits.{calls_limit, open_calls_limit}
use Rattle.eo_term.specs.Growth.{tree_in}
use Rattle.eo_sig.specs.Reading.{signature}
use Rattle.eo_sig.specs.Growth.{GrowsUnder}
use Rattle.eo_type.specs.Known.{Keeps}
use Rattle.eo_stack.specs.Evaluation.{eval}
use Rattle.eo_eval.specs.Ready.{Ready, outcome_from}
use Rattle.eo_eval.proofs.machine.Machine.evaluate.Given as goal

-- what is held, finished by the definition, is the whole
abbrev pub invariant-loop : goal.invariant-loop
invariant-loop l = record {
  told : outcome_from l.sig l.table l.self l.now ≡ eval (signature l.fn.table.trees l.fn.sig) calls_limit open_calls_limit (tree_in l.fn.table l.fn.id) [];
  ready : Ready l.sig l.table l.types l.self l.now;
  same : l.sig ≡ l.fn.sig;
  kept : Keeps l.fn.types l.types;
  grows : GrowsUnder l.fn.sig l.fn.table l.table;
}
