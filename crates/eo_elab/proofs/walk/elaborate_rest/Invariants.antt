use Rattle.std.proofs.Common.{◌≡◌, ◌+◌, ◌++◌, length}
use Rattle.std.specs.Prelude.{reverse}
use Rattle.eo_term.specs.Growth.{Grows}
use Rattle.eo_names.specs.Names.{bound_by}
use Rattle.eo_names.specs.Ready.{IsReady}
use Rattle.eo_names.specs.Scopes.{bound_in}
use Rattle.eo_elab.specs.Gives.{NamesGrow}
use Rattle.eo_elab.specs.Waiting.{finished, reads, FramesBelow, NowBelow, weights, weight_now}
use Rattle.eo_elab.proofs.walk.elaborate_rest.Given as goal

-- what waits, given what is read next, makes what was to be made
abbrev pub invariant-loop-now : goal.invariant-loop-now
invariant-loop-now l = record {
  whole : finished l.sig l.scope l.fn.table l.fn.blocks (reverse l.fn.waits.items) (reads l.sig l.scope l.fn.table l.fn.blocks l.fn.named_terms l.fn.first) ≡ finished l.sig l.scope l.table l.blocks (reverse l.waits.items) (reads l.sig l.scope l.table l.blocks l.named_terms l.now);
  below : FramesBelow (length l.table.trees) (reverse l.waits.items);
  ready : IsReady (length l.table.trees) l.sig (bound_by l.blocks ++ bound_in l.scope);
  given : NowBelow (length l.table.trees) l.now;
  grows : Grows l.fn.table l.table;
  named_terms : NamesGrow l.table l.fn.named_terms l.named_terms;
}

abbrev pub decreases-loop-now : goal.decreases-loop-now
decreases-loop-now l = weights (reverse l.waits.items) + weight_now l.now
