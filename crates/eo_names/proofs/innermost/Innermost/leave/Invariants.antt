use Rattle.std.proofs.Common.{◌++◌, List, drop, map}
use Rattle.eo_names.specs.declared.locals.LocalName.{LocalName}
use Rattle.eo_names.specs.Names.{binding_local}
use Rattle.eo_names.specs.Innermost.{IsIndex}
use Rattle.eo_names.proofs.innermost.Innermost.leave.Given as goal

-- the names that are left mean their terms
abbrev pub invariant-loop-i : goal.invariant-loop-i
invariant-loop-i l = record { index : (ls : List LocalName) → IsIndex (map binding_local (drop l.from l.names) ++ ls) l.fn.self → IsIndex (map binding_local (drop l.i l.names) ++ ls) l.self }
