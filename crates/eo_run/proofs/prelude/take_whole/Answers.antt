use Rattle.std.proofs.Common.{Bool, true, false, ap, subst, length, arith}
use Rattle.std.specs.Prelude.{Result, Ok, Err}
use Rattle.eo_io.specs.Library.{Files}
use Rattle.eo_sexp.specs.Collecting.{Collecting}
use Rattle.eo_session.specs.Numbered.{number_of}
use Rattle.eo_run.specs.Judging.{RunsPart}
use Rattle.eo_run.specs.Opening.{Keeps, IsTaken, TakesPiece, run_bytes}
use Rattle.eo_run.specs.Progress.{point}
use Rattle.eo_run.specs.declared.Verdict.{Verdict}
use Rattle.eo_base.proofs.Answering.{at_exit}
use Rattle.eo_run.proofs.Preludes.{new-live, new-waiting, new-room, whole-stops, whole-leaves, whole-ends, whole-refused}
use Rattle.eo_run.proofs.Taking.{ends-later, extends-trans}
use Rattle.eo_run.proofs.Watched.{numbered-later}
use Rattle.eo_run.proofs.prelude.take_whole.Goals as goal

pub take_piece-requires-clause-live : goal.take_piece-requires-clause-live
take_piece-requires-clause-live g c = new-live c.args.source.now.wrapped c.args.collector.now c.requires.collector

pub take_piece-requires-clause-waiting : goal.take_piece-requires-clause-waiting
take_piece-requires-clause-waiting g c = new-waiting c.args.source.now.wrapped c.args.collector.now c.requires.collector c.answers_law.ensures

pub take_piece-requires-clause-room : goal.take_piece-requires-clause-room
take_piece-requires-clause-room g c = new-room c.args.source.now.wrapped c.args.collector.now c.requires.collector c.args.bytes.now c.requires.short

pub returns-in_err-take_piece-clause-runs : goal.returns-in_err-take_piece-clause-runs
returns-in_err-take_piece-clause-runs g c =
    let s = c.args.source.now in
    let bytes = c.args.bytes.now in
    let told = g.L.Library.told c.args.files.now in
    let old = point c.args.run.now c.args.observer.now c.args.paths.now in
    let new = point c.take_piece.new.run c.take_piece.new.observer c.take_piece.new.paths in
    let x = c.in_err-take_piece.field-0.0 in
    at_exit (λ (r : Result (Unit {0}) Verdict). RunsPart g.O.Observer.tells told (λ (f : Files). run_bytes f s bytes) r old new) c.from_residual.result x c.from_residual.ensures.1
    (whole-stops g.O.Observer.tells c.pieces_law.ensures c.answers_law.ensures told s bytes c.requires.short old new x
    (subst (λ (k : Collecting). TakesPiece g.O.Observer.tells told s (Err x) old new k c.take_piece.new.collector bytes) c.requires.collector c.in_err-take_piece.ensures.takes))

pub returns-then-not-branch-clause-runs : goal.returns-then-not-branch-clause-runs
returns-then-not-branch-clause-runs g c =
    let s = c.args.source.now in
    let bytes = c.args.bytes.now in
    let told = g.L.Library.told c.args.files.now in
    let old = point c.args.run.now c.args.observer.now c.args.paths.now in
    let new = point c.take_piece.new.run c.take_piece.new.observer c.take_piece.new.paths in
    let d = c.take_piece.new.collector in
    whole-leaves g.O.Observer.tells c.pieces_law.ensures c.answers_law.ensures told s bytes c.requires.short old new
    (subst (λ (k : Collecting). TakesPiece g.O.Observer.tells told s (Ok false) old new k d bytes) c.requires.collector
    (subst (λ (b : Bool). TakesPiece g.O.Observer.tells told s (Ok b) old new c.args.collector.now d bytes) c.if-not-branch.true c.in_ok-take_piece.ensures.takes))

pub check_rest-requires-clause-ready : goal.check_rest-requires-clause-ready
check_rest-requires-clause-ready g c =
    let s = c.args.source.now in
    let took = c.in_ok-take_piece.ensures in
    record {
      room = omega (arith, ap length took.stays.closed, c.requires.ready.room);
      going = took.keeps.going;
      numbered = numbered-later c.args.paths.now c.take_piece.new.paths (number_of s.from) s.path.now took.keeps.table c.requires.ready.numbered;
    }

pub check_rest-requires-clause-live : goal.check_rest-requires-clause-live
check_rest-requires-clause-live g c =
    let s = c.args.source.now in
    let told = g.L.Library.told c.args.files.now in
    let old = point c.args.run.now c.args.observer.now c.args.paths.now in
    let mid = point c.take_piece.new.run c.take_piece.new.observer c.take_piece.new.paths in
    let taken : IsTaken g.O.Observer.tells told s old mid c.args.collector.now c.take_piece.new.collector c.args.bytes.now =
    subst (λ (b : Bool). TakesPiece g.O.Observer.tells told s (Ok b) old mid c.args.collector.now c.take_piece.new.collector c.args.bytes.now) c.if-not-branch.false c.in_ok-take_piece.ensures.takes in
    taken.live

pub check_rest-requires-clause-waiting : goal.check_rest-requires-clause-waiting
check_rest-requires-clause-waiting g c =
    let s = c.args.source.now in
    let told = g.L.Library.told c.args.files.now in
    let old = point c.args.run.now c.args.observer.now c.args.paths.now in
    let mid = point c.take_piece.new.run c.take_piece.new.observer c.take_piece.new.paths in
    let taken : IsTaken g.O.Observer.tells told s old mid c.args.collector.now c.take_piece.new.collector c.args.bytes.now =
    subst (λ (b : Bool). TakesPiece g.O.Observer.tells told s (Ok b) old mid c.args.collector.now c.take_piece.new.collector c.args.bytes.now) c.if-not-branch.false c.in_ok-take_piece.ensures.takes in
    taken.waiting

pub returns-in_err-check_rest-clause-runs : goal.returns-in_err-check_rest-clause-runs
returns-in_err-check_rest-clause-runs g c =
    let s = c.args.source.now in
    let bytes = c.args.bytes.now in
    let told = g.L.Library.told c.args.files.now in
    let old = point c.args.run.now c.args.observer.now c.args.paths.now in
    let mid = point c.take_piece.new.run c.take_piece.new.observer c.take_piece.new.paths in
    let new = point c.check_rest.new.run c.check_rest.new.observer c.check_rest.new.paths in
    let d = c.take_piece.new.collector in
    let x = c.in_err-check_rest.field-0.0 in
    let taken =
    subst (λ (k : Collecting). TakesPiece g.O.Observer.tells told s (Ok true) old mid k d bytes) c.requires.collector
    (subst (λ (b : Bool). TakesPiece g.O.Observer.tells told s (Ok b) old mid c.args.collector.now d bytes) c.if-not-branch.false c.in_ok-take_piece.ensures.takes) in
    at_exit (λ (r : Result (Unit {0}) Verdict). RunsPart g.O.Observer.tells told (λ (f : Files). run_bytes f s bytes) r old new) c.from_residual-in_err-check_rest.result x c.from_residual-in_err-check_rest.ensures.1
    (whole-refused g.O.Observer.tells c.pieces_law.ensures c.answers_law.ensures told s bytes c.requires.short old mid new d taken x
    (ends-later g.O.Observer.tells told (g.L.Library.told c.take_piece.new.files) c.in_ok-take_piece.ensures.stays.same s (Err x) mid new d c.in_err-check_rest.ensures.takes))

pub returns-in_err-check_rest-clause-keeps : goal.returns-in_err-check_rest-clause-keeps
returns-in_err-check_rest-clause-keeps g c =
    let keeps = c.in_err-check_rest.ensures.keeps in
    at_exit (λ (r : Result (Unit {0}) Verdict). Keeps r c.check_rest.new.run c.args.paths.now c.check_rest.new.paths) c.from_residual-in_err-check_rest.result c.in_err-check_rest.field-0.0 c.from_residual-in_err-check_rest.ensures.1 record {
      going = tt;
      kind = keeps.kind;
      table = extends-trans c.args.paths.now c.take_piece.new.paths c.check_rest.new.paths c.in_ok-take_piece.ensures.keeps.table keeps.table;
    }

pub returns-clause-runs : goal.returns-clause-runs
returns-clause-runs g c =
    let s = c.args.source.now in
    let bytes = c.args.bytes.now in
    let told = g.L.Library.told c.args.files.now in
    let old = point c.args.run.now c.args.observer.now c.args.paths.now in
    let mid = point c.take_piece.new.run c.take_piece.new.observer c.take_piece.new.paths in
    let new = point c.check_rest.new.run c.check_rest.new.observer c.check_rest.new.paths in
    let d = c.take_piece.new.collector in
    let at = c.in_ok-check_rest.field-0 in
    let taken =
    subst (λ (k : Collecting). TakesPiece g.O.Observer.tells told s (Ok true) old mid k d bytes) c.requires.collector
    (subst (λ (b : Bool). TakesPiece g.O.Observer.tells told s (Ok b) old mid c.args.collector.now d bytes) c.if-not-branch.false c.in_ok-take_piece.ensures.takes) in
    whole-ends g.O.Observer.tells c.pieces_law.ensures c.answers_law.ensures told s bytes c.requires.short old mid new d taken at
    (ends-later g.O.Observer.tells told (g.L.Library.told c.take_piece.new.files) c.in_ok-take_piece.ensures.stays.same s (Ok at) mid new d c.in_ok-check_rest.ensures.takes)

pub returns-clause-keeps : goal.returns-clause-keeps
returns-clause-keeps g c =
    let keeps = c.in_ok-check_rest.ensures.keeps in
    record {
      going = keeps.going;
      kind = tt;
      table = extends-trans c.args.paths.now c.take_piece.new.paths c.check_rest.new.paths c.in_ok-take_piece.ensures.keeps.table keeps.table;
    }
