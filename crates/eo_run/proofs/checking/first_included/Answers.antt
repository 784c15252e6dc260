use Rattle.std.proofs.Common.{ap, ◌∙◌, Some, List, ℕ}
use Rattle.eo_run.specs.Run.{with_folded}
use Rattle.eo_run.proofs.Benches.{done}
use Rattle.eo_run.proofs.checking.first_included.Goals as goal

pub returns : goal.returns
returns c =
    let job = c.args.job.now in
    c.in_ok-included.ensures.other ∙ done _ c.add_first.result _ c.in_ok-included.ensures.called c.add_first.ensures
    ∙ ap (λ (paths : List (List ℕ)). with_folded (with_folded paths job.include) (Some job.proof)) c.new-first.ensures
