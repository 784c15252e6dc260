use Rattle.std.proofs.Common.{◌≡◌, List, drop}
use Rattle.eo_term.specs.Tree.{Tree}
use Rattle.eo_names.specs.Contexts.{local_named}
use Rattle.eo_names.specs.Names.{read_locals}
use Rattle.eo_names.proofs.locals.Locals.find.Given as goal

abbrev pub invariant-loop-local : goal.invariant-loop-local
invariant-loop-local l =
    (ts : List Tree) → local_named (read_locals ts (drop l.local-index l.local-items)) l.name ≡ local_named (read_locals ts l.local-items) l.name
