use Rattle.std.proofs.Common.{inl, inr, arith}
use Rattle.eo_sexp.proofs.LimitFacts.{command_is}
use Rattle.std.proofs.lemmas.Result.{on_ok_weaker}
use Rattle.eo_sexp.proofs.incremental.Machine.lengthen.Goals as goal

pub returns-then-at-ge-COMMAND : goal.returns-then-at-ge-COMMAND
returns-then-at-ge-COMMAND c = inr (omega (arith, command_is), c.fail.ensures)

pub returns : goal.returns
returns c = on_ok_weaker c.keep.result (λ k. inl (omega (arith, command_is), k)) c.keep.ensures
