use Rattle.std.proofs.Common.{◌∙◌, ap, drop}
use Rattle.eo_io.proofs.StoreLemmas.{closes_first}
use Rattle.eo_io.proofs.honest_library.HonestLibraryLibrary.close.Goals as goal

pub returns-clause-closes : goal.returns-clause-closes
returns-clause-closes c =
    closes_first c.args.self.now.unread _ c.requires.is_open (ap (λ s. s.unread) c.close.ensures ∙ ap (λ s. drop 1 s.unread) c.self.view_is)
