use Rattle.std.proofs.Common.{◌∙◌}
use Rattle.eo_sem.proofs.Others.{place_after}
use Rattle.eo_sem.proofs.watching.WatchObserver.accepted.Goals as goal
use Rattle.eo_session.specs.Noting.{read_note}

pub returns-clause-sees : goal.returns-clause-sees
returns-clause-sees c l h =
    c.first_other-self.ensures c.args.table.now ∙ place_after l (read_note c.args.table.now c.args.bytes.now c.args.note.now) c.args.self.now.other h
