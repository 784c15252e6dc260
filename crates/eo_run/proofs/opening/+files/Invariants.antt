use Rattle.std.proofs.Common.{◌≡◌, ◌≤◌, ◌+◌, ◌*◌, [], length, true, false}
use Rattle.eo_base.specs.Limits.{limits}
use Rattle.eo_io.specs.Paths.{Extends}
use Rattle.eo_sexp.specs.Collecting.{IsLive, here_of}
use Rattle.eo_sexp.specs.Cutting.{IsWaiting}
use Rattle.eo_run.specs.Opening.{IsReady, IsRead, GoesOn, Told}
use Rattle.eo_run.specs.Progress.{point}
use Rattle.eo_run.specs.Reading.{LibraryStays, behind, at_end, count_of}
use Rattle.eo_run.proofs.opening.+files.Given as goal

-- by how many files may be open inside; a function that only passes it on is above those that it calls

abbrev pub decreases-check_file : goal.decreases-check_file
decreases-check_file g l = 8 * l.source.now.opens + 7

abbrev pub decreases-check_open : goal.decreases-check_open
decreases-check_open g l = 8 * l.source.now.opens + 6

abbrev pub decreases-check_pieces : goal.decreases-check_pieces
decreases-check_pieces g l = 8 * l.source.now.opens + 5

abbrev pub decreases-take_piece : goal.decreases-take_piece
decreases-take_piece g l = 8 * l.source.now.opens + 4

abbrev pub decreases-check_rest : goal.decreases-check_rest
decreases-check_rest g l = 8 * l.source.now.opens + 4

abbrev pub decreases-open_next : goal.decreases-open_next
decreases-open_next g l = 8 * l.source.now.opens + 3

abbrev pub decreases-include : goal.decreases-include
decreases-include g l = 8 * l.source.now.opens + 2

abbrev pub decreases-refer : goal.decreases-refer
decreases-refer g l = 8 * l.source.now.opens + 2

-- the pieces of a file

abbrev pub invariant-check_pieces-pieces : goal.invariant-check_pieces-pieces
invariant-check_pieces-pieces g l = record {
  read : IsRead g.O.Observer.tells (g.L.Library.told l.fn.files) l.source (point l.fn.run l.fn.observer l.fn.paths) (point l.run l.observer l.paths) l.collector l.left (g.L.Library.open_files l.fn.files) (g.L.Library.open_files l.files);
  ready : IsReady (length (g.L.Library.open_files l.files)) l.source l.run l.paths;
  table : Extends l.fn.paths l.paths;
  same : g.L.Library.told l.files ≡ g.L.Library.told l.fn.files;
  later : g.L.Library.faults l.fn.files ≤ g.L.Library.faults l.files;
}

abbrev pub decreases-check_pieces-pieces : goal.decreases-check_pieces-pieces
decreases-check_pieces-pieces g l = l.left

-- the commands of a piece

abbrev pub invariant-take_piece-commands : goal.invariant-take_piece-commands
invariant-take_piece-commands g l = record {
  leads : Told (g.L.Library.told l.fn.files) (λ files. GoesOn g.O.Observer.tells files l.source (point l.fn.run l.fn.observer l.fn.paths) (point l.run l.observer l.paths) (behind l.fn.collector l.piece) (behind l.collector l.rest));
  live : IsLive l.collector;
  waiting : IsWaiting limits l.collector;
  here : (here_of l.collector).offset + length l.rest ≤ (here_of l.fn.collector).offset + length l.piece;
  ready : IsReady (length (g.L.Library.open_files l.files)) l.source l.run l.paths;
  table : Extends l.fn.paths l.paths;
  stays : LibraryStays g.L.Library.told g.L.Library.open_files g.L.Library.faults l.fn.files l.files;
}

abbrev pub decreases-take_piece-commands : goal.decreases-take_piece-commands
decreases-take_piece-commands g l = count_of (behind l.collector l.rest false [])

-- those of the end

abbrev pub invariant-check_rest-atoms : goal.invariant-check_rest-atoms
invariant-check_rest-atoms g l = record {
  leads : Told (g.L.Library.told l.fn.files) (λ files. GoesOn g.O.Observer.tells files l.source (point l.fn.run l.fn.observer l.fn.paths) (point l.run l.observer l.paths) (at_end l.fn.collector) (at_end l.collector));
  live : IsLive l.collector;
  waiting : IsWaiting limits l.collector;
  ready : IsReady (length (g.L.Library.open_files l.files)) l.source l.run l.paths;
  table : Extends l.fn.paths l.paths;
  stays : LibraryStays g.L.Library.told g.L.Library.open_files g.L.Library.faults l.fn.files l.files;
}

abbrev pub decreases-check_rest-atoms : goal.decreases-check_rest-atoms
decreases-check_rest-atoms g l = count_of (at_end l.collector true [])
