use Rattle.eo_term.specs.Keys.{entries_of}
use Rattle.eo_term.proofs.KeptTexts.{AreMarkedTo}
use Rattle.eo_term.proofs.carry.texts.needed_texts.Given as goal

abbrev pub invariant-loop-j : goal.invariant-loop-j
invariant-loop-j l = AreMarkedTo (entries_of l.nodes) l.start l.terms l.first l.end l.j l.needed.items
