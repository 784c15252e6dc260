use Rattle.std.proofs.Common.{◌∙◌, ap, drop}
use Rattle.eo_io.proofs.StoreLemmas.{closes_first}
use Rattle.eo_io.proofs.memory_library.MemoryLibraryLibrary.close.Goals as goal

pub returns-clause-closes : goal.returns-clause-closes
returns-clause-closes c =
    closes_first c.args.self.now.stored.unread _ c.requires.is_open (ap (λ s. s.unread) c.close.ensures ∙ ap (λ s. drop 1 s.stored.unread) c.self.view_is)
