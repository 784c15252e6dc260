use Rattle.std.proofs.lemmas.Result.{IfOk-weaker}
use Rattle.test_show.proofs.tests.world.first_signature.Goals as goal

pub returns : goal.returns
returns c = IfOk-weaker c.new.result _ _ (λ s below n l. c.growth_law.ensures.below 4 n s l below) c.new.ensures.below
