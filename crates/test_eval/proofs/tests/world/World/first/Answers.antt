use Rattle.std.proofs.Common.{◌≡◌, ◌∙◌, List, length, sym, ap, subst, take}
use Rattle.std.proofs.lemmas.Result.{IfOk-at_ok}
use Rattle.eo_term.specs.Tree.{Tree}
use Rattle.eo_term.specs.Terms.{Terms, first_trees}
use Rattle.eo_sig.specs.Reading.{Kept, IsBelow}
use Rattle.test_eval.proofs.tests.world.World.first.Goals as goal

as_many : (ts us : List Tree) (k : Kept) → us ≡ ts → IsBelow (length ts) k → IsBelow (length us) k
as_many ts us k e h = subst (λ (xs : List Tree). IsBelow (length xs) k) (sym e) h

pub invariant_of-result : goal.invariant_of-result
invariant_of-result c =
    let trees : c.in_ok-sig.table.trees ≡ first_trees = ap (λ (t : Terms). t.trees) c.in_ok-sig.ensures.other ∙ c.in_ok-table.ensures.trees in
    let below = IfOk-at_ok _ c.in_ok-sig.ensures.called c.new-2.ensures.below in
    let usable = IfOk-at_ok _ c.in_ok-sig.ensures.called c.new-2.ensures.usable in
    (as_many first_trees _ _ trees below, usable _ (ap (take 4) trees))
