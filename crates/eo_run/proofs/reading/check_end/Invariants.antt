use Rattle.std.specs.Prelude.{List}
use Rattle.std.proofs.Common.{◌≡◌, ◌≤◌, [], true, false}
use Rattle.eo_base.specs.Limits.{limits}
use Rattle.eo_sexp.specs.Collecting.{IsLive}
use Rattle.eo_sexp.specs.Cutting.{IsWaiting}
use Rattle.eo_session.specs.Notes as notes
use Rattle.eo_session.specs.Numbered.{origin_of, number_of}
use Rattle.eo_run.specs.Reading.{LeadsOn, at_end, count_of}
use Rattle.eo_run.specs.Watching.{IsShown}
use Rattle.eo_run.proofs.reading.check_end.Given as goal

abbrev pub invariant-atoms : goal.invariant-atoms
invariant-atoms g l = record {
  passes : List notes.Seen;
  shown : IsShown g.O.Observer.tells l.initial.observer l.observer (number_of l.from) passes;
  leads : LeadsOn (origin_of l.from) l.initial.session.state (at_end l.initial.collector) passes l.session.state (at_end l.collector);
  live : IsLive l.collector;
  waiting : IsWaiting limits l.collector;
  fewer : count_of (at_end l.collector true []) ≤ count_of (at_end l.initial.collector true []);
  going : l.session.ended ≡ false;
}

abbrev pub decreases-atoms : goal.decreases-atoms
decreases-atoms g l = count_of (at_end l.collector true [])
