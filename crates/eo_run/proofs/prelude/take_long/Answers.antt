use Rattle.std.proofs.Common.{Bool, false, sym, subst, take, length-take, arith}
use Rattle.std.specs.Prelude.{Result, Ok, Err}
use Rattle.std.proofs.lemmas.List.{length-take-le}
use Rattle.eo_base.specs.declared.FaultName.TheVariants.{FileLong}
use Rattle.eo_io.specs.Library.{Files}
use Rattle.eo_sexp.specs.Collecting.{Collecting, here_of}
use Rattle.eo_sexp.specs.Spot.{Spot}
use Rattle.eo_session.specs.Numbered.{number_of}
use Rattle.eo_run.specs.Answer.{Denotes}
use Rattle.eo_run.specs.Judging.{RunsPart}
use Rattle.eo_run.specs.Opening.{IsNumbered, IsStop, IsTaken, TakesPiece, run_bytes, place_in}
use Rattle.eo_run.specs.Progress.{point}
use Rattle.eo_run.specs.Run.{refusal_at}
use Rattle.eo_run.specs.declared.Verdict.{Verdict}
use Rattle.eo_base.proofs.Answering.{at_exit}
use Rattle.eo_run.proofs.Numbers.{denotes-here, placed-in}
use Rattle.eo_run.proofs.Preludes.{new-live, new-waiting, new-room, long-stops, long-leaves, long-ends}
use Rattle.eo_run.proofs.Watched.{numbered-later}
use Rattle.eo_run.proofs.prelude.take_long.Goals as goal

pub slice_bounds-counted-end : goal.slice_bounds-counted-end
slice_bounds-counted-end g c = sym (length-take-le 1099511627776 c.args.bytes.now (omega (arith, c.requires.long)))

pub take_piece-requires-clause-live : goal.take_piece-requires-clause-live
take_piece-requires-clause-live g c = new-live c.args.source.now.wrapped c.args.collector.now c.requires.collector

pub take_piece-requires-clause-waiting : goal.take_piece-requires-clause-waiting
take_piece-requires-clause-waiting g c = new-waiting c.args.source.now.wrapped c.args.collector.now c.requires.collector c.answers_law.ensures

pub take_piece-requires-clause-room : goal.take_piece-requires-clause-room
take_piece-requires-clause-room g c =
    let bytes = c.args.bytes.now in
    new-room c.args.source.now.wrapped c.args.collector.now c.requires.collector (take 1099511627776 bytes) (omega (arith, length-take 1099511627776 bytes))

pub returns-in_err-take_piece-clause-runs : goal.returns-in_err-take_piece-clause-runs
returns-in_err-take_piece-clause-runs g c =
    let s = c.args.source.now in
    let bytes = c.args.bytes.now in
    let told = g.L.Library.told c.args.files.now in
    let old = point c.args.run.now c.args.observer.now c.args.paths.now in
    let new = point c.take_piece.new.run c.take_piece.new.observer c.take_piece.new.paths in
    let x = c.in_err-take_piece.field-0.0 in
    at_exit (λ (r : Result (Unit {0}) Verdict). RunsPart g.O.Observer.tells told (λ (f : Files). run_bytes f s bytes) r old new) c.from_residual.result x c.from_residual.ensures.1
    (long-stops g.O.Observer.tells c.pieces_law.ensures c.answers_law.ensures told s bytes c.requires.long old new x
    (subst (λ (k : Collecting). TakesPiece g.O.Observer.tells told s (Err x) old new k c.take_piece.new.collector (take 1099511627776 bytes)) c.requires.collector c.in_err-take_piece.ensures.takes))

pub returns-then-branch-clause-runs : goal.returns-then-branch-clause-runs
returns-then-branch-clause-runs g c =
    let s = c.args.source.now in
    let bytes = c.args.bytes.now in
    let told = g.L.Library.told c.args.files.now in
    let old = point c.args.run.now c.args.observer.now c.args.paths.now in
    let new = point c.take_piece.new.run c.take_piece.new.observer c.take_piece.new.paths in
    let paths = c.take_piece.new.paths in
    let d = c.take_piece.new.collector in
    let p = take 1099511627776 bytes in
    let at = c.here.result in
    let takes = subst (λ (b : Bool). TakesPiece g.O.Observer.tells told s (Ok b) old new c.args.collector.now d p) c.if-branch.true c.in_ok-take_piece.ensures.takes in
    let taken = subst (λ (k : Collecting). IsTaken g.O.Observer.tells told s old new k d p) c.requires.collector takes in
    let here : IsNumbered paths s = numbered-later c.args.paths.now paths (number_of s.from) s.path.now c.in_ok-take_piece.ensures.keeps.table c.requires.ready.numbered in
    let place : Denotes paths (record { name = FileLong; place = place_in s at }) (refusal_at s.path.now (here_of d) FileLong) =
    subst (λ (q : Spot). Denotes paths (record { name = FileLong; place = place_in s at }) (refusal_at s.path.now q FileLong)) (c.here.ensures taken.live) (denotes-here paths s FileLong at here) in
    subst (λ (v : Verdict). RunsPart g.O.Observer.tells told (λ (f : Files). run_bytes f s bytes) (Err v) old new) (sym c.refusal_at.ensures)
    (long-ends g.O.Observer.tells c.pieces_law.ensures c.answers_law.ensures told s bytes c.requires.long old new d (record { name = FileLong; place = place_in s at }) taken place)

pub returns-then-branch-clause-keeps : goal.returns-then-branch-clause-keeps
returns-then-branch-clause-keeps g c =
    let s = c.args.source.now in
    let paths = c.take_piece.new.paths in
    let later = c.in_ok-take_piece.ensures.keeps.table in
    record {
      going = tt;
      kind = subst (IsStop paths) (sym c.refusal_at.ensures) (placed-in paths s (numbered-later c.args.paths.now paths (number_of s.from) s.path.now later c.requires.ready.numbered));
      table = later;
    }

pub returns-clause-runs : goal.returns-clause-runs
returns-clause-runs g c =
    let s = c.args.source.now in
    let bytes = c.args.bytes.now in
    let told = g.L.Library.told c.args.files.now in
    let old = point c.args.run.now c.args.observer.now c.args.paths.now in
    let new = point c.take_piece.new.run c.take_piece.new.observer c.take_piece.new.paths in
    let d = c.take_piece.new.collector in
    let p = take 1099511627776 bytes in
    long-leaves g.O.Observer.tells c.pieces_law.ensures c.answers_law.ensures told s bytes c.requires.long old new
    (subst (λ (k : Collecting). TakesPiece g.O.Observer.tells told s (Ok false) old new k d p) c.requires.collector
    (subst (λ (b : Bool). TakesPiece g.O.Observer.tells told s (Ok b) old new c.args.collector.now d p) c.if-branch.false c.in_ok-take_piece.ensures.takes))
