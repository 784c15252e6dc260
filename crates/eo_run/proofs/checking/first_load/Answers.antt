use Rattle.std.proofs.Common.{subst, false, List, ℕ}
use Rattle.std.specs.Prelude.{IfOk}
use Rattle.eo_session.specs.State.{first_state}
use Rattle.eo_run.specs.Progress.{Begins, begun}
use Rattle.eo_run.proofs.checking.first_load.Goals as goal

pub returns : goal.returns
returns c = subst (λ (ps : List (List ℕ)). IfOk c.new_run.result (λ r. Begins r (begun (first_state false) ps))) c.in_ok-first_of.ensures c.new_run.ensures
