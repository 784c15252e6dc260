-- A signature stays what it was where the table grows.
use Rattle.std.proofs.Common.{length}
use Rattle.eo_sig.specs.Growth.{GrowsUnder}
use Rattle.eo_sig.specs.Reading.{Kept, IsBelow}
use Rattle.eo_sig.proofs.Same.{stays_grown}
use Rattle.eo_term.specs.Growth.{Grows}
use Rattle.eo_term.specs.Terms.{Terms}

pub grows_under : (k : Kept) (old new : Terms) → IsBelow (length old.trees) k → Grows old new → GrowsUnder k old new
grows_under k old new h g = record { table = g; stays = stays_grown k old new h g.now }
