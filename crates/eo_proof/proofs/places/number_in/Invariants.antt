use Rattle.std.proofs.Common.{◌≡◌, drop}
use Rattle.eo_proof.specs.Places.{number_from, number_in}
use Rattle.eo_proof.proofs.places.number_in.Given as goal

abbrev pub invariant-loop-b : goal.invariant-loop-b
invariant-loop-b l = number_from l.number (drop l.b-index l.fn.name) ≡ number_in l.fn.name
