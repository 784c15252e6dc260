use Rattle.std.proofs.Common.{ap, ◌∙◌}
use Rattle.eo_io.specs.Stored.{Stored}
use Rattle.eo_run.proofs.Benches.{done}
use Rattle.eo_run.proofs.benching.files_of.Goals as goal

pub returns-clause-told : goal.returns-clause-told
returns-clause-told c =
    ap (λ (s : Stored). s.told) c.in_ok-files.ensures.other ∙ done _ c.add_files.result _ c.in_ok-files.ensures.called c.add_files.ensures.told

pub returns-clause-none_open : goal.returns-clause-none_open
returns-clause-none_open c =
    ap (λ (s : Stored). s.unread) c.in_ok-files.ensures.other ∙ done _ c.add_files.result _ c.in_ok-files.ensures.called c.add_files.ensures.unread
    ∙ ap (λ (s : Stored). s.unread) c.in_ok-first.ensures
