use Rattle.std.proofs.Common.{ap, ◌∙◌, Some, List, [], ℕ}
use Rattle.eo_run.specs.Run.{with_folded}
use Rattle.eo_run.proofs.Benches.{done}
use Rattle.eo_run.proofs.checking.first_of.Goals as goal

pub returns : goal.returns
returns c =
    c.in_ok-included.ensures.other ∙ done _ c.add_folded.result _ c.in_ok-included.ensures.called c.add_folded.ensures
    ∙ ap (λ (paths : List (List ℕ)). with_folded paths (Some c.as_bytes.result.now)) c.new-first.ensures
    ∙ ap (λ (name : List ℕ). with_folded [] (Some name)) c.as_bytes.ensures.value
