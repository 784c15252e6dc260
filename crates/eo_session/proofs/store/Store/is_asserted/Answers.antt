use Rattle.std.proofs.Common.{sym, ◌∙◌}
use Rattle.eo_session.proofs.Holding.{asserted_id}
use Rattle.eo_session.proofs.store.Store.is_asserted.Goals as goal

pub returns : goal.returns
returns c =
    let h = c.args.self.now in
    c.asserts.ensures ∙ sym (asserted_id h.table.trees c.laws.ensures.equals h.assertions c.args.formula c.requires.live c.requires.whole.store.assertions)
