use Rattle.std.proofs.Common.{length, ap, arith}
use Rattle.std.proofs.lemmas.Result.{IfOk-at_ok}
use Rattle.eo_term.specs.Terms.{Terms}
use Rattle.test_lists.proofs.tests.world.World.first.Goals as goal

pub invariant_of-result : goal.invariant_of-result
invariant_of-result c =
    let as_many = ap (λ (t : Terms). length t.trees) c.in_ok-sig.ensures.other in
    let below = IfOk-at_ok _ c.in_ok-sig.ensures.called c.first_signature.ensures in
    λ n l. below n (omega (arith, l, c.in_ok-table.ensures, as_many))
