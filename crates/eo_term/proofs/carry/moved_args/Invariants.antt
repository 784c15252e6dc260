use Rattle.std.proofs.Common.{◌≡◌, map, take}
use Rattle.eo_term.specs.Carry.{term_place}
use Rattle.eo_term.proofs.carry.moved_args.Given as goal

abbrev pub invariant-loop-id : goal.invariant-loop-id
invariant-loop-id l = l.moved.items ≡ map (term_place l.places) (take l.id-index l.args)
