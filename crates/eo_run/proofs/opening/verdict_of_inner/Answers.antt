use Rattle.std.proofs.Common.{ap, sym}
use Rattle.std.specs.Prelude.{Result, Option}
use Rattle.eo_sexp.specs.Spot.{Spot}
use Rattle.eo_run.specs.Opening.{opened_at}
use Rattle.eo_run.specs.declared.Verdict.{Verdict}
use Rattle.eo_run.proofs.opening.verdict_of_inner.Goals as goal

pub returns-in-Err : goal.returns-in-Err
returns-in-Err c = ap (λ (e : Result (Option Spot) Verdict). opened_at e c.args.source.now c.args.at) (sym c.in-Err.is)
