use Rattle.std.proofs.Common.{subst}
use Rattle.eo_term.specs.Keys.{Root}
use Rattle.eo_term.specs.Held.{IsEntry}
use Rattle.eo_term.proofs.table.Table.root.Goals as goal

pub returns : goal.returns
returns c =
    let r : Root = record { node = c.get-node.result.0; args = c.get-node.result.1.now } in
    let s = c.get-node.result.2 in
    let at = c.self.invariant.1.entries c.place.result (r, s) c.get-node.ensures in
    let e =
    subst (λ i. IsEntry c.args.self.now.trees c.args.self.now.texts i r s) c.place.ensures
    (subst (λ v. IsEntry v.trees v.texts c.place.result r s) c.self.view_is at) in
    record { over = e.over; tree = e.tree }
