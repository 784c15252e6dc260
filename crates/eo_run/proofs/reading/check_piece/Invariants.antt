use Rattle.std.specs.Prelude.{List}
use Rattle.std.proofs.Common.{◌≡◌, ◌+◌, ◌-◌, ◌≤◌, [], length, drop, false}
use Rattle.eo_base.specs.Limits.{limits}
use Rattle.eo_sexp.specs.Collecting.{IsLive, here_of}
use Rattle.eo_sexp.specs.Cutting.{IsWaiting}
use Rattle.eo_session.specs.Notes as notes
use Rattle.eo_session.specs.Numbered.{origin_of, number_of}
use Rattle.eo_run.specs.Reading.{LeadsOn, behind, count_of}
use Rattle.eo_run.specs.Watching.{IsShown}
use Rattle.eo_run.proofs.reading.check_piece.Given as goal

abbrev pub invariant-commands : goal.invariant-commands
invariant-commands g l = record {
  passes : List notes.Seen;
  shown : IsShown g.O.Observer.tells l.initial.observer l.observer (number_of l.from) passes;
  leads : LeadsOn (origin_of l.from) l.initial.session.state (behind l.initial.collector l.piece) passes l.session.state (behind l.collector l.rest);
  live : IsLive l.collector;
  waiting : IsWaiting limits l.collector;
  here : (here_of l.collector).offset + length l.rest ≤ (here_of l.initial.collector).offset + length l.piece;
  tail : drop (length l.piece - length l.rest) l.piece ≡ l.rest;
  size : length l.rest ≤ length l.piece;
  fewer : count_of (behind l.collector l.rest false []) ≤ count_of (behind l.initial.collector l.piece false []);
  going : l.session.ended ≡ false;
}

abbrev pub decreases-commands : goal.decreases-commands
decreases-commands g l = count_of (behind l.collector l.rest false [])
