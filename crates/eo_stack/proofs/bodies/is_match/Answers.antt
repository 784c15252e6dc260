use Rattle.std.proofs.Common.{◌≡◌, Some, None, subst}
use Rattle.std.specs.Prelude.{IfOk, IsTrue, IsFalse}
use Rattle.eo_term.specs.Growth.{trees_in}
use Rattle.eo_pattern.specs.Matching.{Assignment, matching}
use Rattle.eo_pattern.specs.Slots.{held}
use Rattle.eo_stack.proofs.bodies.is_match.Goals as goal

pub returns-clause-yes : goal.returns-clause-yes
returns-clause-yes c =
    let t = c.args.table.now in
    let found = held t.trees c.match_with_room.new.subst in
    subst (λ (σ : Assignment). IfOk c.match_with_room.result (λ b. IsTrue b → matching σ (trees_in t c.args.patterns.now) (trees_in t c.args.args.now) ≡ Some found))
    (c.clear.ensures.held t.trees) c.match_with_room.ensures.yes

pub returns-clause-no : goal.returns-clause-no
returns-clause-no c =
    let t = c.args.table.now in
    subst (λ (σ : Assignment). IfOk c.match_with_room.result (λ b. IsFalse b → matching σ (trees_in t c.args.patterns.now) (trees_in t c.args.args.now) ≡ None))
    (c.clear.ensures.held t.trees) c.match_with_room.ensures.no
