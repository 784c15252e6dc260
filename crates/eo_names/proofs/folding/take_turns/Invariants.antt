use Rattle.std.proofs.Common.{◌≡◌, ◌+◌, ◌*◌, length}
use Rattle.eo_term.specs.Growth.{Grows}
use Rattle.eo_names.specs.Grouped.{if_low}
use Rattle.eo_names.specs.Ready.{IsReady}
use Rattle.eo_names.specs.Turns.{after, TurnBelow, joins}
use Rattle.eo_names.specs.Scopes.{bound_in}
use Rattle.eo_names.specs.Worlds.{world, turns_in}
use Rattle.eo_names.proofs.folding.take_turns.Given as goal

-- what becomes of the first in all turns becomes of this one in those that are left
abbrev pub invariant-loop-turn : goal.invariant-loop-turn
invariant-loop-turn l = record {
  is : if_low (after (turns_in (world l.fn.table l.sig l.scope) l.fn.turns) l.fn.table.trees l.fn.first) ≡ if_low (after (turns_in (world l.table l.sig l.scope) l.left) l.table.trees l.turn);
  live : TurnBelow (length l.table.trees) l.turn;
  ready : IsReady (length l.table.trees) l.sig (bound_in l.scope);
  grows : Grows l.fn.table l.table;
}

abbrev pub decreases-loop-turn : goal.decreases-loop-turn
decreases-loop-turn l = 2 * l.left + joins l.turn
