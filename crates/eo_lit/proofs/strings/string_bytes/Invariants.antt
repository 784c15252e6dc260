use Rattle.std.proofs.Common.{◌≡◌, ◌++◌, length, false}
use Rattle.eo_lit.specs.Literals.{without_doubles}
use Rattle.eo_lit.proofs.strings.string_bytes.Given as goal

abbrev pub invariant-loop-first : goal.invariant-loop-first
invariant-loop-first l = l.bytes.items ++ without_doubles false l.rest ≡ without_doubles false l.body

abbrev pub decreases-loop-first : goal.decreases-loop-first
decreases-loop-first l = length l.rest
