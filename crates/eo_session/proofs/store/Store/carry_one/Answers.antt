use Rattle.std.proofs.Common.{◌<◌, ℕ, [], length}
use Rattle.std.proofs.lemmas.List.Elements.{All-nil, All-cons}
use Rattle.eo_session.proofs.store.Store.carry_one.Goals as goal

pub carry-requires-clause-live : goal.carry-requires-clause-live
carry-requires-clause-live c =
    let n = length c.args.self.now.table.trees in
    All-cons (λ (i : ℕ). i < n) c.args.id [] c.requires.live (All-nil (λ (i : ℕ). i < n))
