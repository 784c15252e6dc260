-- A table that has grown has grown from whatever it had grown from.
use Rattle.eo_term.specs.Terms.{Terms, Since}
use Rattle.eo_term.specs.Growth.{Grows}
use Rattle.eo_term.proofs.Grown.{since_refl, since_trans}

pub grows_from : (old new : Terms) → Since old new → Grows old new
grows_from old new g = record { now = g; since = λ t h. since_trans t old new h g }

pub grows_refl : (t : Terms) → Grows t t
grows_refl t = record { now = since_refl t; since = λ s h. h }

pub grows_on : (a b c : Terms) → Grows a b → Grows b c → Grows a c
grows_on a b c g h = record { now = h.since a g.now; since = λ t s. h.since t (g.since t s) }
