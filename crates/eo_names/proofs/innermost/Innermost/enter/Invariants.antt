use Rattle.std.proofs.Common.{◌++◌, ◌≤◌, List, drop, length, map}
use Rattle.eo_names.specs.declared.locals.LocalName.{LocalName}
use Rattle.eo_names.specs.Names.{binding_local}
use Rattle.eo_names.specs.Innermost.{IsIndex}
use Rattle.eo_names.proofs.innermost.Innermost.enter.Given as goal

-- the last names mean their terms
abbrev pub invariant-loop-left : goal.invariant-loop-left
invariant-loop-left l = record {
  within : l.left ≤ length l.names;
  index : (ls : List LocalName) → IsIndex ls l.fn.self → IsIndex (map binding_local (drop l.left l.names) ++ ls) l.self;
}

abbrev pub decreases-loop-left : goal.decreases-loop-left
decreases-loop-left l = l.left
