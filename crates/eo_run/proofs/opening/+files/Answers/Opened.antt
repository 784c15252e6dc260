-- What is returned for a file.
use Rattle.std.proofs.Common.{sym, subst, ◌∙◌, arith}
use Rattle.std.specs.Prelude.{Result, Option}
use Rattle.eo_sexp.specs.Spot.{Spot}
use Rattle.eo_run.specs.Answer.{FileHasCause}
use Rattle.eo_run.specs.Progress.{point}
use Rattle.eo_run.specs.Opening.{Keeps, RunsFile}
use Rattle.eo_run.specs.declared.Verdict.{Verdict}
use Rattle.eo_run.proofs.Taking.{open-later, found-cause, found-keeps}
use Rattle.eo_run.proofs.Numbers.{closes-open, ready-runs}
use Rattle.eo_run.proofs.opening.+files.Goals as goal

pub check_file-returns-in-Ready-clause-runs : goal.check_file-returns-in-Ready-clause-runs
check_file-returns-in-Ready-clause-runs g t c =
    let s = c.args.source.now in
    let told = g.L.Library.told c.args.files.now in
    let old = point c.args.run.now c.args.observer.now c.args.paths.now in
    let end = c.check_open-end in
    let new = point end.new.run end.new.observer end.new.paths in
    let paths = end.new.paths in
    let mid = g.L.Library.open_files c.open.new.self in
    subst (λ (r : Result (Option Spot) Verdict). RunsFile g.O.Observer.tells told s r old new) (sym c.close_file.ensures.is)
    (ready-runs g.O.Observer.tells told s end.result old new (g.L.Library.open_files c.args.files.now) mid c.in-Ready.ensures.opens
    (open-later g.O.Observer.tells told (g.L.Library.told c.open.new.self) c.in-Ready.ensures.same s end.result old new mid end.ensures.runs))

pub check_file-returns-in-Ready-clause-cause : goal.check_file-returns-in-Ready-clause-cause
check_file-returns-in-Ready-clause-cause g t c =
    let told = g.L.Library.told c.args.files.now in
    let before = g.L.Library.faults c.args.files.now in
    let now = g.L.Library.faults c.close_file.new.files in
    subst (λ (r : Result (Option Spot) Verdict). FileHasCause r told before now) (sym c.close_file.ensures.is)
    (found-cause told (g.L.Library.told c.open.new.self) c.in-Ready.ensures.same c.check_open-end.result before (g.L.Library.faults c.open.new.self) (g.L.Library.faults c.check_open-end.new.files) now
    c.in-Ready.ensures.later c.close_file.ensures.later c.check_open-end.ensures.cause)

pub check_file-returns-in-Ready-clause-keeps : goal.check_file-returns-in-Ready-clause-keeps
check_file-returns-in-Ready-clause-keeps g t c =
    let end = c.check_open-end in
    subst (λ (r : Result (Option Spot) Verdict). Keeps r end.new.run c.args.paths.now end.new.paths) (sym c.close_file.ensures.is)
    (found-keeps end.result end.new.run c.args.paths.now end.new.paths end.ensures.keeps)

pub check_file-returns-in-Ready-clause-stays : goal.check_file-returns-in-Ready-clause-stays
check_file-returns-in-Ready-clause-stays g t c =
    let old = g.L.Library.open_files c.args.files.now in
    let mid = g.L.Library.open_files c.open.new.self in
    let after = g.L.Library.open_files c.check_open-end.new.files in
    let reads = c.check_open-end.ensures.reads in
    record {
      same = c.close_file.ensures.same ∙ reads.same ∙ c.in-Ready.ensures.same;
      closed = closes-open (g.L.Library.told c.args.files.now) c.args.source.now.path.now old mid after (g.L.Library.open_files c.close_file.new.files) c.in-Ready.ensures.opens reads.stays c.close_file.ensures.closes;
      later = omega (arith, c.in-Ready.ensures.later, reads.later, c.close_file.ensures.later);
    }
