-- A table that has not changed.
use Rattle.std.specs.Prelude.{ℕ, List}
use Rattle.eo_term.specs.Terms.{Terms}
use Rattle.eo_term.proofs.Growing.{grows_refl}
use Rattle.eo_sig.specs.Growth.{GrowsUnder}
use Rattle.eo_sig.specs.Reading.{Kept}
use Rattle.eo_sig.proofs.Growing.{grows_under}
use Rattle.eo_type.specs.Known.{Fit, Extends}
use Rattle.eo_type.proofs.Keeping.{fits_same}

-- it has grown from itself
pub grows_same : {k : Kept} {t : Terms} {typed : List (ℕ × ℕ)} → Fit k t typed → GrowsUnder k t t
grows_same {k} {t} fit = grows_under k t t fit.below (grows_refl t)

-- and so is what a call leaves that changes nothing
pub extends_same : {k : Kept} {t : Terms} {typed : List (ℕ × ℕ)} → Fit k t typed → Extends k t typed t typed
extends_same fit = record { fits = fits_same fit; grows = grows_same fit }
