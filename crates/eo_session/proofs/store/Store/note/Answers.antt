use Rattle.eo_session.proofs.store.Store.note.Goals as goal

pub returns-clause-reads : goal.returns-clause-reads
returns-clause-reads c =
    let h = c.args.self.now in
    (λ bytes i. record {
      bytes = bytes;
      place = c.args.place;
      number = h.commands;
      from_reference = c.is_reference-from_reference.ensures i;
      depth = c.depth-depth.ensures h.table.trees i;
      act = c.in_ok-act.ensures.reads i;
    })
