use Rattle.std.proofs.Common.{subst, List, ℕ}
use Rattle.std.specs.Prelude.{IfOk}
use Rattle.eo_session.specs.State.{first_state}
use Rattle.eo_run.specs.Progress.{Begins, begun}
use Rattle.eo_run.proofs.checking.first_run.Goals as goal

pub returns : goal.returns
returns c =
    subst (λ (ps : List (List ℕ)). IfOk c.new_run.result (λ r. Begins r (begun (first_state c.args.job.now.closed) ps))) c.in_ok-first_included.ensures
    c.new_run.ensures
