use Rattle.std.proofs.Common.{◌∙◌, sym, ap}
use Rattle.std.specs.List.{list_any}
use Rattle.eo_term.specs.Growth.{tree_in}
use Rattle.eo_term.specs.Tree.{tree_eq}
use Rattle.eo_stated.proofs.Asserted.{among}
use Rattle.eo_stated.proofs.checker.Checker.is_asserted.Goals as goal

pub returns : goal.returns
returns c =
    let old = c.args.self.now in
    c.asserts.ensures
    ∙ (sym (among old.table.trees c.laws.ensures.equals old.assertions c.args.id c.requires.live c.requires.held.assertions)
    ∙ ap (list_any (tree_eq (tree_in old.table c.args.id))) c.requires.held.asserted)
