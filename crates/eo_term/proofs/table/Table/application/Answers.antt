use Rattle.std.proofs.Common.{map, subst}
use Rattle.eo_term.specs.Keys.{HasPartsAt}
use Rattle.eo_term.proofs.Applications.{TellParts, parts_told}
use Rattle.eo_term.proofs.table.Table.application.Goals as goal

pub returns : goal.returns
returns c =
    let at = subst (λ i. HasPartsAt c.self.inside.nodes i c.application.result) c.place.ensures c.application.ensures in
    let told = subst (λ v. TellParts v c.args.id c.application.result) c.self.view_is (parts_told c.self.inside.nodes (map (λ w. w.items) c.self.inside.texts.keys) c.args.id c.application.result c.self.invariant.1 at) in
    record { tree = told.tree; older = told.older; other = told.other }
