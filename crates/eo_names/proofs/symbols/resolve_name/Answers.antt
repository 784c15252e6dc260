use Rattle.eo_names.proofs.symbols.resolve_name.Goals as goal

pub returns-clause-live : goal.returns-clause-live
returns-clause-live c = λ n h. c.entry_meant.ensures.live n h.below
