use Rattle.eo_names.proofs.symbols.head_meant.Goals as goal

pub returns-clause-live : goal.returns-clause-live
returns-clause-live c = λ n h. c.entry_meant.ensures.live n h.below
