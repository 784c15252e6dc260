-- What is returned for the pieces of a file.
use Rattle.std.proofs.Common.{◌-◌, List, [], take, refl, Bool, sym, subst, ◌∙◌, arith, length-take, append-nil}
use Rattle.std.specs.Prelude.{Result, Ok, Err}
use Rattle.eo_base.specs.declared.FaultName.TheVariants.{FileLong}
use Rattle.eo_io.specs.Library.{Rest}
use Rattle.eo_sexp.specs.Spot.{Spot}
use Rattle.eo_sexp.specs.Collecting.{here_of}
use Rattle.eo_run.specs.Answer.{Denotes}
use Rattle.eo_session.specs.Numbered.{number_of}
use Rattle.eo_run.specs.Progress.{point}
use Rattle.eo_run.specs.Reading.{StaysOpen}
use Rattle.eo_run.specs.Run.{refusal_at}
use Rattle.eo_run.specs.Opening.{Keeps, IsNumbered, IsStop, IsRead, IsTaken, TakesPiece, RunsOpen, place_in}
use Rattle.eo_run.specs.declared.Verdict.{Verdict}
use Rattle.eo_base.proofs.Answering.{at_exit}
use Rattle.eo_run.proofs.Taking.{taken-later, left-later, takes-later, ends-later, extends-trans, reads-trans, stays-length}
use Rattle.eo_run.proofs.Watched.{numbered-later}
use Rattle.eo_run.proofs.Numbers.{denotes-here, placed-in}
use Rattle.eo_run.proofs.Pieces.{reads-nothing, reads-piece, has_room, front-is, piece-is, stops-open, left-open, long-open, ends-open, stays-read}
use Rattle.eo_run.proofs.opening.+files.Goals as goal

pub check_pieces-pieces-init : goal.check_pieces-pieces-init
check_pieces-pieces-init g t c =
    let p = point c.args.run.now c.args.observer.now c.args.paths.now in
    record {
      read = reads-nothing g.O.Observer.tells c.answers_law.ensures (g.L.Library.told c.args.files.now) c.args.source.now p c.args.collector.now 1099511627776 (g.L.Library.open_files c.args.files.now) c.requires.open refl c.requires.collector;
      ready = c.requires.ready;
      table = ([], sym (append-nil c.args.paths.now));
      same = refl;
      later = omega arith;
    }

pub check_pieces-returns-then-n-eq0-clause-runs : goal.check_pieces-returns-then-n-eq0-clause-runs
check_pieces-returns-then-n-eq0-clause-runs g t c =
    let s = c.args.source.now in
    let i = c.pieces.invariant in
    let told = g.L.Library.told c.args.files.now in
    let st = point c.pieces.run c.pieces.observer c.pieces.paths in
    let last = point c.check_rest.new.run c.check_rest.new.observer c.check_rest.new.paths in
    let paths = c.check_rest.new.paths in
    ends-open g.O.Observer.tells c.pieces_law.ensures c.answers_law.ensures told s (point c.args.run.now c.args.observer.now c.args.paths.now) st last c.pieces.collector c.pieces.left c.in-Bytes.n c.read.new.buf (g.L.Library.open_files c.args.files.now) (g.L.Library.open_files c.pieces.files) (g.L.Library.open_files c.read.new.self)
    i.read c.in-Bytes.ensures.reads c.if-n-eq0.true c.check_rest.result
    (ends-later g.O.Observer.tells told (g.L.Library.told c.read.new.self) (c.in-Bytes.ensures.same ∙ i.same) s c.check_rest.result st last c.pieces.collector c.check_rest.ensures.takes)

pub check_pieces-returns-then-n-eq0-clause-keeps : goal.check_pieces-returns-then-n-eq0-clause-keeps
check_pieces-returns-then-n-eq0-clause-keeps g t c =
    let keeps = c.check_rest.ensures.keeps in
    record {
      going = keeps.going;
      kind = keeps.kind;
      table = extends-trans c.args.paths.now c.pieces.paths c.check_rest.new.paths c.pieces.invariant.table keeps.table;
    }

pub check_pieces-take_piece-requires : goal.check_pieces-take_piece-requires
check_pieces-take_piece-requires g t c κs within =
    let s = c.args.source.now in
    let i = c.pieces.invariant in
    let before = g.L.Library.open_files c.args.files.now in
    let mid = g.L.Library.open_files c.pieces.files in
    let after = g.L.Library.open_files c.read.new.self in
    let same = stays-length before after (stays-read c.in-Bytes.n c.read.new.buf before mid after i.read.bytes i.read.passes c.in-Bytes.ensures.reads) in
    let room = has_room g.O.Observer.tells (g.L.Library.told c.args.files.now) s (point c.args.run.now c.args.observer.now c.args.paths.now) (point c.pieces.run c.pieces.observer c.pieces.paths) c.pieces.collector c.pieces.left before mid (take c.pieces.left c.read.new.buf) i.read (omega (arith, length-take c.pieces.left c.read.new.buf)) in
    (omega arith, (within.0, (within.1, (record { room = omega (arith, same, c.requires.ready.room); going = i.ready.going; numbered = i.ready.numbered }, (i.read.taken.live, (i.read.taken.waiting, room))))))

pub check_pieces-returns-in_err-take_piece-clause-runs : goal.check_pieces-returns-in_err-take_piece-clause-runs
check_pieces-returns-in_err-take_piece-clause-runs g t c =
    let s = c.args.source.now in
    let i = c.pieces.invariant in
    let told = g.L.Library.told c.args.files.now in
    let old = point c.args.run.now c.args.observer.now c.args.paths.now in
    let st = point c.pieces.run c.pieces.observer c.pieces.paths in
    let last = point c.take_piece.new.run c.take_piece.new.observer c.take_piece.new.paths in
    let paths = c.take_piece.new.paths in
    let d = c.take_piece.new.collector in
    let left = c.pieces.left in
    let n = c.in-Bytes.n in
    let p = take left c.read.new.buf in
    let x = c.in_err-take_piece.field-0.0 in
    let before = g.L.Library.open_files c.args.files.now in
    let mid = g.L.Library.open_files c.pieces.files in
    let after = g.L.Library.open_files c.read.new.self in
    at_exit (λ (r : Result Spot Verdict). RunsOpen g.O.Observer.tells told s r old last before) c.from_residual.result x c.from_residual.ensures.1
    (stops-open g.O.Observer.tells c.pieces_law.ensures told s old st last c.pieces.collector left left p before mid i.read (λ rest others e. front-is left n c.read.new.buf mid after rest others c.in-Bytes.ensures.reads (omega (arith, c.if-n-left.true)) e) (omega arith) x
    (takes-later g.O.Observer.tells told (g.L.Library.told c.read.new.self) (c.in-Bytes.ensures.same ∙ i.same) s (Err x) st last c.pieces.collector d p c.in_err-take_piece.ensures.takes))

pub check_pieces-returns-in_err-take_piece-clause-keeps : goal.check_pieces-returns-in_err-take_piece-clause-keeps
check_pieces-returns-in_err-take_piece-clause-keeps g t c =
    let e = c.in_err-take_piece in
    at_exit (λ (r : Result Spot Verdict). Keeps r c.take_piece.new.run c.args.paths.now c.take_piece.new.paths) c.from_residual.result e.field-0.0 c.from_residual.ensures.1 record {
      going = tt;
      kind = e.ensures.keeps.kind;
      table = extends-trans c.args.paths.now c.pieces.paths c.take_piece.new.paths c.pieces.invariant.table e.ensures.keeps.table;
    }

pub check_pieces-returns-in_err-take_piece-clause-reads : goal.check_pieces-returns-in_err-take_piece-clause-reads
check_pieces-returns-in_err-take_piece-clause-reads g t c =
    let i = c.pieces.invariant in
    let before = g.L.Library.open_files c.args.files.now in
    let after = g.L.Library.open_files c.read.new.self in
    reads-trans g.L.Library.told g.L.Library.open_files g.L.Library.faults c.args.files.now c.read.new.self c.take_piece.new.files (c.in-Bytes.ensures.same ∙ i.same)
    (stays-read c.in-Bytes.n c.read.new.buf before (g.L.Library.open_files c.pieces.files) after i.read.bytes i.read.passes c.in-Bytes.ensures.reads) (omega (arith, c.in-Bytes.ensures.later, i.later)) c.in_err-take_piece.ensures.stays

pub check_pieces-returns-then-branch-clause-runs : goal.check_pieces-returns-then-branch-clause-runs
check_pieces-returns-then-branch-clause-runs g t c =
    let s = c.args.source.now in
    let i = c.pieces.invariant in
    let told = g.L.Library.told c.args.files.now in
    let old = point c.args.run.now c.args.observer.now c.args.paths.now in
    let st = point c.pieces.run c.pieces.observer c.pieces.paths in
    let last = point c.take_piece.new.run c.take_piece.new.observer c.take_piece.new.paths in
    let paths = c.take_piece.new.paths in
    let d = c.take_piece.new.collector in
    let left = c.pieces.left in
    let p = take left c.read.new.buf in
    let at = c.here.result in
    let before = g.L.Library.open_files c.args.files.now in
    let taken : IsTaken g.O.Observer.tells told s st last c.pieces.collector d p = taken-later g.O.Observer.tells told (g.L.Library.told c.read.new.self) (c.in-Bytes.ensures.same ∙ i.same) s st last c.pieces.collector d p (subst (λ (b : Bool). TakesPiece g.O.Observer.tells (g.L.Library.told c.read.new.self) s (Ok b) st last c.pieces.collector d p) c.if-branch.true c.in_ok-take_piece.ensures.takes) in
    let here : IsNumbered paths s = numbered-later c.pieces.paths paths (number_of s.from) s.path.now c.in_ok-take_piece.ensures.keeps.table i.ready.numbered in
    let place : Denotes paths (record { name = FileLong; place = place_in s at }) (refusal_at s.path.now (here_of d) FileLong) =
    subst (λ (q : Spot). Denotes paths (record { name = FileLong; place = place_in s at }) (refusal_at s.path.now q FileLong)) (c.here.ensures taken.live) (denotes-here paths s FileLong at here) in
    subst (λ (v : Verdict). RunsOpen g.O.Observer.tells told s (Err v) old last before) (sym c.refusal_at.ensures)
    (long-open g.O.Observer.tells c.pieces_law.ensures told s old st last c.pieces.collector d left c.in-Bytes.n c.read.new.buf p before (g.L.Library.open_files c.pieces.files) (g.L.Library.open_files c.read.new.self) (record { name = FileLong; place = place_in s at }) i.read c.in-Bytes.ensures.reads c.if-n-left.true refl taken place)

pub check_pieces-returns-then-branch-clause-keeps : goal.check_pieces-returns-then-branch-clause-keeps
check_pieces-returns-then-branch-clause-keeps g t c =
    let s = c.args.source.now in
    let i = c.pieces.invariant in
    let paths = c.take_piece.new.paths in
    let later = c.in_ok-take_piece.ensures.keeps.table in
    record {
      going = tt;
      kind = subst (IsStop paths) (sym c.refusal_at.ensures) (placed-in paths s (numbered-later c.pieces.paths paths (number_of s.from) s.path.now later i.ready.numbered));
      table = extends-trans c.args.paths.now c.pieces.paths paths i.table later;
    }

pub check_pieces-returns-then-branch-clause-reads : goal.check_pieces-returns-then-branch-clause-reads
check_pieces-returns-then-branch-clause-reads g t c =
    let i = c.pieces.invariant in
    let before = g.L.Library.open_files c.args.files.now in
    let after = g.L.Library.open_files c.read.new.self in
    reads-trans g.L.Library.told g.L.Library.open_files g.L.Library.faults c.args.files.now c.read.new.self c.take_piece.new.files (c.in-Bytes.ensures.same ∙ i.same)
    (stays-read c.in-Bytes.n c.read.new.buf before (g.L.Library.open_files c.pieces.files) after i.read.bytes i.read.passes c.in-Bytes.ensures.reads) (omega (arith, c.in-Bytes.ensures.later, i.later)) c.in_ok-take_piece.ensures.stays

pub check_pieces-returns-then-n-left-clause-runs : goal.check_pieces-returns-then-n-left-clause-runs
check_pieces-returns-then-n-left-clause-runs g t c =
    let s = c.args.source.now in
    let i = c.pieces.invariant in
    let told = g.L.Library.told c.args.files.now in
    let old = point c.args.run.now c.args.observer.now c.args.paths.now in
    let st = point c.pieces.run c.pieces.observer c.pieces.paths in
    let last = point c.take_piece.new.run c.take_piece.new.observer c.take_piece.new.paths in
    let paths = c.take_piece.new.paths in
    let d = c.take_piece.new.collector in
    let left = c.pieces.left in
    let n = c.in-Bytes.n in
    let p = take left c.read.new.buf in
    let mid = g.L.Library.open_files c.pieces.files in
    let after = g.L.Library.open_files c.read.new.self in
    left-open g.O.Observer.tells c.pieces_law.ensures told s old st last c.pieces.collector left left p (g.L.Library.open_files c.args.files.now) mid i.read (λ rest others e. front-is left n c.read.new.buf mid after rest others c.in-Bytes.ensures.reads (omega (arith, c.if-n-left.true)) e) (omega arith)
    (left-later g.O.Observer.tells told (g.L.Library.told c.read.new.self) (c.in-Bytes.ensures.same ∙ i.same) s st last c.pieces.collector p
    (subst (λ (b : Bool). TakesPiece g.O.Observer.tells (g.L.Library.told c.read.new.self) s (Ok b) st last c.pieces.collector d p) c.if-branch.false c.in_ok-take_piece.ensures.takes)) c.here-then-n-left.result

pub check_pieces-returns-then-n-left-clause-keeps : goal.check_pieces-returns-then-n-left-clause-keeps
check_pieces-returns-then-n-left-clause-keeps g t c =
    let keeps = c.in_ok-take_piece.ensures.keeps in
    record {
      going = keeps.going;
      kind = tt;
      table = extends-trans c.args.paths.now c.pieces.paths c.take_piece.new.paths c.pieces.invariant.table keeps.table;
    }

pub check_pieces-returns-then-n-left-clause-reads : goal.check_pieces-returns-then-n-left-clause-reads
check_pieces-returns-then-n-left-clause-reads g t c =
    let i = c.pieces.invariant in
    let before = g.L.Library.open_files c.args.files.now in
    let after = g.L.Library.open_files c.read.new.self in
    reads-trans g.L.Library.told g.L.Library.open_files g.L.Library.faults c.args.files.now c.read.new.self c.take_piece.new.files (c.in-Bytes.ensures.same ∙ i.same)
    (stays-read c.in-Bytes.n c.read.new.buf before (g.L.Library.open_files c.pieces.files) after i.read.bytes i.read.passes c.in-Bytes.ensures.reads) (omega (arith, c.in-Bytes.ensures.later, i.later)) c.in_ok-take_piece.ensures.stays

pub check_pieces-take_piece-requires-in-pieces : goal.check_pieces-take_piece-requires-in-pieces
check_pieces-take_piece-requires-in-pieces g t c κs within =
    let s = c.args.source.now in
    let i = c.pieces.invariant in
    let before = g.L.Library.open_files c.args.files.now in
    let mid = g.L.Library.open_files c.pieces.files in
    let after = g.L.Library.open_files c.read.new.self in
    let same = stays-length before after (stays-read c.in-Bytes.n c.read.new.buf before mid after i.read.bytes i.read.passes c.in-Bytes.ensures.reads) in
    let room = has_room g.O.Observer.tells (g.L.Library.told c.args.files.now) s (point c.args.run.now c.args.observer.now c.args.paths.now) (point c.pieces.run c.pieces.observer c.pieces.paths) c.pieces.collector c.pieces.left before mid (take c.in-Bytes.n c.read.new.buf) i.read (omega (arith, length-take c.in-Bytes.n c.read.new.buf, c.if-n-left.false)) in
    (omega arith, (within.0, (within.1, (record { room = omega (arith, same, c.requires.ready.room); going = i.ready.going; numbered = i.ready.numbered }, (i.read.taken.live, (i.read.taken.waiting, room))))))

pub check_pieces-returns-in_err-take_piece-2-clause-runs : goal.check_pieces-returns-in_err-take_piece-2-clause-runs
check_pieces-returns-in_err-take_piece-2-clause-runs g t c =
    let s = c.args.source.now in
    let i = c.pieces.invariant in
    let told = g.L.Library.told c.args.files.now in
    let old = point c.args.run.now c.args.observer.now c.args.paths.now in
    let st = point c.pieces.run c.pieces.observer c.pieces.paths in
    let last = point c.take_piece-in-pieces.new.run c.take_piece-in-pieces.new.observer c.take_piece-in-pieces.new.paths in
    let paths = c.take_piece-in-pieces.new.paths in
    let d = c.take_piece-in-pieces.new.collector in
    let n = c.in-Bytes.n in
    let p = take n c.read.new.buf in
    let x = c.in_err-take_piece-2.field-0.0 in
    let before = g.L.Library.open_files c.args.files.now in
    let mid = g.L.Library.open_files c.pieces.files in
    let after = g.L.Library.open_files c.read.new.self in
    at_exit (λ (r : Result Spot Verdict). RunsOpen g.O.Observer.tells told s r old last before) c.from_residual-in_err-take_piece-2.result x c.from_residual-in_err-take_piece-2.ensures.1
    (stops-open g.O.Observer.tells c.pieces_law.ensures told s old st last c.pieces.collector c.pieces.left n p before mid i.read (λ rest others e. piece-is n c.read.new.buf mid after rest others c.in-Bytes.ensures.reads e) (omega (arith, c.if-n-left.false)) x
    (takes-later g.O.Observer.tells told (g.L.Library.told c.read.new.self) (c.in-Bytes.ensures.same ∙ i.same) s (Err x) st last c.pieces.collector d p c.in_err-take_piece-2.ensures.takes))

pub check_pieces-returns-in_err-take_piece-2-clause-keeps : goal.check_pieces-returns-in_err-take_piece-2-clause-keeps
check_pieces-returns-in_err-take_piece-2-clause-keeps g t c =
    let e = c.in_err-take_piece-2 in
    at_exit (λ (r : Result Spot Verdict). Keeps r c.take_piece-in-pieces.new.run c.args.paths.now c.take_piece-in-pieces.new.paths) c.from_residual-in_err-take_piece-2.result e.field-0.0 c.from_residual-in_err-take_piece-2.ensures.1 record {
      going = tt;
      kind = e.ensures.keeps.kind;
      table = extends-trans c.args.paths.now c.pieces.paths c.take_piece-in-pieces.new.paths c.pieces.invariant.table e.ensures.keeps.table;
    }

pub check_pieces-returns-in_err-take_piece-2-clause-reads : goal.check_pieces-returns-in_err-take_piece-2-clause-reads
check_pieces-returns-in_err-take_piece-2-clause-reads g t c =
    let i = c.pieces.invariant in
    let before = g.L.Library.open_files c.args.files.now in
    let after = g.L.Library.open_files c.read.new.self in
    reads-trans g.L.Library.told g.L.Library.open_files g.L.Library.faults c.args.files.now c.read.new.self c.take_piece-in-pieces.new.files (c.in-Bytes.ensures.same ∙ i.same)
    (stays-read c.in-Bytes.n c.read.new.buf before (g.L.Library.open_files c.pieces.files) after i.read.bytes i.read.passes c.in-Bytes.ensures.reads) (omega (arith, c.in-Bytes.ensures.later, i.later)) c.in_err-take_piece-2.ensures.stays

pub check_pieces-returns-then-not-branch-clause-runs : goal.check_pieces-returns-then-not-branch-clause-runs
check_pieces-returns-then-not-branch-clause-runs g t c =
    let s = c.args.source.now in
    let i = c.pieces.invariant in
    let told = g.L.Library.told c.args.files.now in
    let old = point c.args.run.now c.args.observer.now c.args.paths.now in
    let st = point c.pieces.run c.pieces.observer c.pieces.paths in
    let last = point c.take_piece-in-pieces.new.run c.take_piece-in-pieces.new.observer c.take_piece-in-pieces.new.paths in
    let paths = c.take_piece-in-pieces.new.paths in
    let d = c.take_piece-in-pieces.new.collector in
    let left = c.pieces.left in
    let n = c.in-Bytes.n in
    let p = take n c.read.new.buf in
    let mid = g.L.Library.open_files c.pieces.files in
    let after = g.L.Library.open_files c.read.new.self in
    left-open g.O.Observer.tells c.pieces_law.ensures told s old st last c.pieces.collector left n p (g.L.Library.open_files c.args.files.now) mid i.read (λ rest others e. piece-is n c.read.new.buf mid after rest others c.in-Bytes.ensures.reads e) (omega (arith, c.if-n-left.false))
    (left-later g.O.Observer.tells told (g.L.Library.told c.read.new.self) (c.in-Bytes.ensures.same ∙ i.same) s st last c.pieces.collector p
    (subst (λ (b : Bool). TakesPiece g.O.Observer.tells (g.L.Library.told c.read.new.self) s (Ok b) st last c.pieces.collector d p) c.if-not-branch.true c.in_ok-take_piece-2.ensures.takes)) c.here-then-not-branch.result

pub check_pieces-returns-then-not-branch-clause-keeps : goal.check_pieces-returns-then-not-branch-clause-keeps
check_pieces-returns-then-not-branch-clause-keeps g t c =
    let keeps = c.in_ok-take_piece-2.ensures.keeps in
    record {
      going = keeps.going;
      kind = tt;
      table = extends-trans c.args.paths.now c.pieces.paths c.take_piece-in-pieces.new.paths c.pieces.invariant.table keeps.table;
    }

pub check_pieces-returns-then-not-branch-clause-reads : goal.check_pieces-returns-then-not-branch-clause-reads
check_pieces-returns-then-not-branch-clause-reads g t c =
    let i = c.pieces.invariant in
    let before = g.L.Library.open_files c.args.files.now in
    let after = g.L.Library.open_files c.read.new.self in
    reads-trans g.L.Library.told g.L.Library.open_files g.L.Library.faults c.args.files.now c.read.new.self c.take_piece-in-pieces.new.files (c.in-Bytes.ensures.same ∙ i.same)
    (stays-read c.in-Bytes.n c.read.new.buf before (g.L.Library.open_files c.pieces.files) after i.read.bytes i.read.passes c.in-Bytes.ensures.reads) (omega (arith, c.in-Bytes.ensures.later, i.later)) c.in_ok-take_piece-2.ensures.stays

pub check_pieces-pieces-preserved : goal.check_pieces-pieces-preserved
check_pieces-pieces-preserved g t c =
    let s = c.args.source.now in
    let i = c.pieces.invariant in
    let told = g.L.Library.told c.args.files.now in
    let old = point c.args.run.now c.args.observer.now c.args.paths.now in
    let st = point c.pieces.run c.pieces.observer c.pieces.paths in
    let last = point c.take_piece-in-pieces.new.run c.take_piece-in-pieces.new.observer c.take_piece-in-pieces.new.paths in
    let paths = c.take_piece-in-pieces.new.paths in
    let d = c.take_piece-in-pieces.new.collector in
    let n = c.in-Bytes.n in
    let p = take n c.read.new.buf in
    let before = g.L.Library.open_files c.args.files.now in
    let mid = g.L.Library.open_files c.pieces.files in
    let after = g.L.Library.open_files c.read.new.self in
    let now_open = g.L.Library.open_files c.take_piece-in-pieces.new.files in
    let took = c.in_ok-take_piece-2.ensures in
    let same_files = c.in-Bytes.ensures.same ∙ i.same in
    let taken : IsTaken g.O.Observer.tells told s st last c.pieces.collector d p = taken-later g.O.Observer.tells told (g.L.Library.told c.read.new.self) same_files s st last c.pieces.collector d p (subst (λ (b : Bool). TakesPiece g.O.Observer.tells (g.L.Library.told c.read.new.self) s (Ok b) st last c.pieces.collector d p) c.if-not-branch.false took.takes) in
    let read : IsRead g.O.Observer.tells told s old last d (c.pieces.left - n) before after = reads-piece g.O.Observer.tells told s old st last c.pieces.collector d c.pieces.left n c.read.new.buf p before mid after i.read c.in-Bytes.ensures.reads refl (omega (arith, c.if-n-left.false)) taken in
    let stays : StaysOpen before now_open = subst (StaysOpen before) (sym took.stays.closed) (stays-read n c.read.new.buf before mid after i.read.bytes i.read.passes c.in-Bytes.ensures.reads) in
    let same = stays-length before now_open stays in
    record {
      read = subst (λ (fs : List Rest). IsRead g.O.Observer.tells told s old last d (c.pieces.left - n) before fs) (sym took.stays.closed) read;
      ready = record {
        room = omega (arith, same, c.requires.ready.room);
        going = took.keeps.going;
        numbered = numbered-later c.pieces.paths paths (number_of s.from) s.path.now took.keeps.table i.ready.numbered;
      };
      table = extends-trans c.args.paths.now c.pieces.paths paths i.table took.keeps.table;
      same = took.stays.same ∙ same_files;
      later = omega (arith, took.stays.later, c.in-Bytes.ensures.later, i.later);
    }
