use Rattle.std.proofs.Common.{length}
use Rattle.eo_term.specs.Growth.{Grows}
use Rattle.eo_elab.specs.Waiting.{inside, IsReadOn}
use Rattle.eo_elab.proofs.walk.arguments.read_atoms.Given as goal

-- what is left, after what is read by then, makes what all make
abbrev pub invariant-loop-s : goal.invariant-loop-s
invariant-loop-s l = record {
  read : IsReadOn (inside l.fn.table l.sig l.scope l.blocks) l.fn.table l.table l.fn.ids l.ids l.terms l.left;
  grows : Grows l.fn.table l.table;
}

abbrev pub decreases-loop-s : goal.decreases-loop-s
decreases-loop-s l = length l.left
