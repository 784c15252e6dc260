use Rattle.std.proofs.Common.{◌∙◌}
use Rattle.eo_run.proofs.Benches.{three_added}
use Rattle.eo_run.proofs.benching.add_files.Goals as goal

pub returns-clause-told : goal.returns-clause-told
returns-clause-told c = three_added c.args.n _ _ _ _ c.requires.none c.in_ok-add.ensures.told c.in_ok-add_reference.ensures.told c.in_ok-add_proof.ensures.told

pub returns-clause-unread : goal.returns-clause-unread
returns-clause-unread c = c.in_ok-add_proof.ensures.unread ∙ c.in_ok-add_reference.ensures.unread ∙ c.in_ok-add.ensures.unread
