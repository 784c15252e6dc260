use Rattle.std.proofs.Common.{length, sym}
use Rattle.std.proofs.Math.Path.{transport}
use Rattle.eo_session.specs.Effects.{trees_of}
use Rattle.eo_session.specs.Store.{HoldsOnly}
use Rattle.eo_sig.specs.Reading.{constants_of}
use Rattle.eo_session.proofs.store.Store.commit.Goals as goal

pub put-requires-clause-only : goal.put-requires-clause-only
put-requires-clause-only c =
    let told = c.in_ok-effect.ensures in
    transport (λ i. HoldsOnly (trees_of (length (constants_of (sym told.leaves.signature i))) (sym told.read i)) c.carry_effect.new.self) told.leaves.only
