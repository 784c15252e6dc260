-- What is returned for the commands that the end of a file makes whole.
use Rattle.std.proofs.Common.{[], length, refl, sym, ap, subst, ◌∙◌, arith, append-nil}
use Rattle.std.specs.Prelude.{Result, Ok, Err, Option}
use Rattle.eo_sexp.specs.Spot.{Spot}
use Rattle.eo_sexp.specs.Texts.{Ends}
use Rattle.eo_session.specs.Numbered.{origin_of, number_of}
use Rattle.eo_run.specs.Progress.{point, progress_at}
use Rattle.eo_run.specs.Watching.{IsShown}
use Rattle.eo_run.specs.Reading.{at_end, LeadsOn, ChecksEnd, IsAskedAtEnd, IsEnded}
use Rattle.eo_run.specs.Opening.{opener_of, Keeps, TakesEnd}
use Rattle.eo_run.specs.declared.Verdict.{Verdict}
use Rattle.eo_run.specs.declared.reading.FileRequest.{FileRequest}
use Rattle.eo_run.specs.declared.reading.Stop.{Stop}
use Rattle.eo_base.proofs.Answering.{at_exit}
use Rattle.eo_run.proofs.Taking.{opens-later, goes-behind, leaves-behind, leaves-reference, finishes-here, stops-behind, stopped-here, extends-trans, stays-trans}
use Rattle.eo_run.proofs.Running.{leads-refl}
use Rattle.eo_run.proofs.Watched.{numbered-later}
use Rattle.eo_run.proofs.opening.+files.Goals as goal

pub check_rest-returns-in-Err-clause-takes : goal.check_rest-returns-in-Err-clause-takes
check_rest-returns-in-Err-clause-takes g t c =
    let s = c.args.source.now in
    let i = c.atoms.invariant in
    let told = g.L.Library.told c.args.files.now in
    let tells = g.O.Observer.tells in
    let old = point c.args.run.now c.args.observer.now c.args.paths.now in
    let mid = point c.atoms.run c.atoms.observer c.atoms.paths in
    let now = point (record c.atoms.run { session = c.check_end.new.session }) c.check_end.new.observer c.atoms.paths in
    let d = c.check_end.new.collector in
    stopped-here tells told s old mid now i.ready.numbered refl refl refl (at_end c.args.collector.now) (at_end c.atoms.collector) i.leads c.in-Err.stop c.verdict_of_stop.result c.verdict_of_stop.ensures i.ready.numbered
    (λ name at e. subst (λ (x : Stop). ChecksEnd (origin_of s.from) (IsShown tells c.atoms.observer c.check_end.new.observer (number_of s.from)) (Err x) c.atoms.run.session.state c.check_end.new.session.state c.atoms.collector d) e c.in-Err.ensures.checks)

pub check_rest-returns-in-Ok-None-clause-takes : goal.check_rest-returns-in-Ok-None-clause-takes
check_rest-returns-in-Ok-None-clause-takes g t c =
    let s = c.args.source.now in
    let i = c.atoms.invariant in
    let told = g.L.Library.told c.args.files.now in
    let tells = g.O.Observer.tells in
    let old = point c.args.run.now c.args.observer.now c.args.paths.now in
    let mid = point c.atoms.run c.atoms.observer c.atoms.paths in
    let now = point (record c.atoms.run { session = c.check_end.new.session }) c.check_end.new.observer c.atoms.paths in
    let d = c.check_end.new.collector in
    let ended : IsEnded (origin_of s.from) (IsShown tells c.atoms.observer c.check_end.new.observer (number_of s.from)) c.atoms.run.session.state c.check_end.new.session.state c.atoms.collector d = subst (λ (o : Option FileRequest). ChecksEnd (origin_of s.from) (IsShown tells c.atoms.observer c.check_end.new.observer (number_of s.from)) (Ok o) c.atoms.run.session.state c.check_end.new.session.state c.atoms.collector d) c.in-Ok-None.field-0-is c.in-Ok-None.ensures.checks in
    let at = c.here.result in
    finishes-here tells told s old mid now i.ready.numbered refl refl refl (at_end c.args.collector.now) (at_end c.atoms.collector) i.leads at ended.passes ended.shown
    (subst (λ (p : Spot). LeadsOn (origin_of s.from) c.atoms.run.session.state (at_end c.atoms.collector) ended.passes c.check_end.new.session.state (λ closes more. Ends p)) (sym (c.here.ensures ended.live)) ended.leads)

pub check_rest-returns-in_err-open_next-in-Ok-Some-clause-takes : goal.check_rest-returns-in_err-open_next-in-Ok-Some-clause-takes
check_rest-returns-in_err-open_next-in-Ok-Some-clause-takes g t c =
    let s = c.args.source.now in
    let i = c.atoms.invariant in
    let told = g.L.Library.told c.args.files.now in
    let tells = g.O.Observer.tells in
    let old = point c.args.run.now c.args.observer.now c.args.paths.now in
    let mid = point c.atoms.run c.atoms.observer c.atoms.paths in
    let now = point (record c.atoms.run { session = c.check_end.new.session }) c.check_end.new.observer c.atoms.paths in
    let d = c.check_end.new.collector in
    let a = c.in-Ok-Some.asked in
    let last = point c.open_next.new.run c.open_next.new.observer c.open_next.new.paths in
    let asked : IsAskedAtEnd (origin_of s.from) (IsShown tells c.atoms.observer c.check_end.new.observer (number_of s.from)) c.atoms.run.session.state c.check_end.new.session.state c.atoms.collector d a = subst (λ (o : Option FileRequest). ChecksEnd (origin_of s.from) (IsShown tells c.atoms.observer c.check_end.new.observer (number_of s.from)) (Ok o) c.atoms.run.session.state c.check_end.new.session.state c.atoms.collector d) c.in-Ok-Some.field-0-is c.in-Ok-Some.ensures.checks in
    let x = c.in_err-open_next-in-Ok-Some.field-0.0 in
    at_exit (λ (r : Result Spot Verdict). TakesEnd tells told s r old last c.args.collector.now) c.from_residual.result x c.from_residual.ensures.1
    (stops-behind tells told s old mid now i.ready.numbered refl refl refl (at_end c.args.collector.now) (at_end c.atoms.collector) i.leads (at_end d) a.next a.at asked.passes asked.shown asked.asks last x
    (opens-later tells told (g.L.Library.told c.atoms.files) i.stays.same s a.at a.next (Err x) now last c.in_err-open_next-in-Ok-Some.ensures.opens))

pub check_rest-returns-in_err-open_next-in-Ok-Some-clause-keeps : goal.check_rest-returns-in_err-open_next-in-Ok-Some-clause-keeps
check_rest-returns-in_err-open_next-in-Ok-Some-clause-keeps g t c =
    let e = c.in_err-open_next-in-Ok-Some in
    at_exit (λ (r : Result Spot Verdict). Keeps r c.open_next.new.run c.args.paths.now c.open_next.new.paths) c.from_residual.result e.field-0.0 c.from_residual.ensures.1 record {
      going = tt;
      kind = e.ensures.keeps.kind;
      table = extends-trans c.args.paths.now c.atoms.paths c.open_next.new.paths c.atoms.invariant.table e.ensures.keeps.table;
    }

pub check_rest-returns-then-ends-clause-takes : goal.check_rest-returns-then-ends-clause-takes
check_rest-returns-then-ends-clause-takes g t c =
    let s = c.args.source.now in
    let i = c.atoms.invariant in
    let told = g.L.Library.told c.args.files.now in
    let tells = g.O.Observer.tells in
    let old = point c.args.run.now c.args.observer.now c.args.paths.now in
    let mid = point c.atoms.run c.atoms.observer c.atoms.paths in
    let now = point (record c.atoms.run { session = c.check_end.new.session }) c.check_end.new.observer c.atoms.paths in
    let d = c.check_end.new.collector in
    let a = c.in-Ok-Some.asked in
    let last = point c.open_next.new.run c.open_next.new.observer c.open_next.new.paths in
    let asked : IsAskedAtEnd (origin_of s.from) (IsShown tells c.atoms.observer c.check_end.new.observer (number_of s.from)) c.atoms.run.session.state c.check_end.new.session.state c.atoms.collector d a = subst (λ (o : Option FileRequest). ChecksEnd (origin_of s.from) (IsShown tells c.atoms.observer c.check_end.new.observer (number_of s.from)) (Ok o) c.atoms.run.session.state c.check_end.new.session.state c.atoms.collector d) c.in-Ok-Some.field-0-is c.in-Ok-Some.ensures.checks in
    let ends = sym c.is_exit-ends.ensures ∙ c.if-ends.true in
    let finishes = leaves-behind tells told s old mid now i.ready.numbered refl refl refl (at_end c.args.collector.now) (at_end c.atoms.collector) i.leads (at_end d) a.next a.at asked.passes asked.shown asked.asks last tt
    (opens-later tells told (g.L.Library.told c.atoms.files) i.stays.same s a.at a.next (Ok tt) now last c.in_ok-open_next-in-Ok-Some.ensures.opens) ends in
    let reference = leaves-reference tells told s old mid now i.ready.numbered refl refl refl (at_end c.args.collector.now) (at_end c.atoms.collector) i.leads (at_end d) a.next a.at asked.passes asked.shown asked.asks ends in
    λ files k seen sees.
    let b = finishes files k seen sees in
    (b.0, b.1, b.2, λ other. absurd (other reference))

pub check_rest-returns-then-ends-clause-keeps : goal.check_rest-returns-then-ends-clause-keeps
check_rest-returns-then-ends-clause-keeps g t c =
    let keeps = c.in_ok-open_next-in-Ok-Some.ensures.keeps in
    record {
      going = keeps.going;
      kind = tt;
      table = extends-trans c.args.paths.now c.atoms.paths c.open_next.new.paths c.atoms.invariant.table keeps.table;
    }

pub check_rest-atoms-preserved : goal.check_rest-atoms-preserved
check_rest-atoms-preserved g t c =
    let s = c.args.source.now in
    let i = c.atoms.invariant in
    let told = g.L.Library.told c.args.files.now in
    let tells = g.O.Observer.tells in
    let old = point c.args.run.now c.args.observer.now c.args.paths.now in
    let mid = point c.atoms.run c.atoms.observer c.atoms.paths in
    let now = point (record c.atoms.run { session = c.check_end.new.session }) c.check_end.new.observer c.atoms.paths in
    let d = c.check_end.new.collector in
    let a = c.in-Ok-Some.asked in
    let last = point c.open_next.new.run c.open_next.new.observer c.open_next.new.paths in
    let asked : IsAskedAtEnd (origin_of s.from) (IsShown tells c.atoms.observer c.check_end.new.observer (number_of s.from)) c.atoms.run.session.state c.check_end.new.session.state c.atoms.collector d a = subst (λ (o : Option FileRequest). ChecksEnd (origin_of s.from) (IsShown tells c.atoms.observer c.check_end.new.observer (number_of s.from)) (Ok o) c.atoms.run.session.state c.check_end.new.session.state c.atoms.collector d) c.in-Ok-Some.field-0-is c.in-Ok-Some.ensures.checks in
    let opened = c.in_ok-open_next-in-Ok-Some.ensures in
    let paths = c.open_next.new.paths in
    record {
      leads = goes-behind tells told s old mid now i.ready.numbered refl refl refl (at_end c.args.collector.now) (at_end c.atoms.collector) i.leads (at_end d) a.next a.at asked.passes asked.shown asked.asks last tt
          (opens-later tells told (g.L.Library.told c.atoms.files) i.stays.same s a.at a.next (Ok tt) now last opened.opens) (sym c.is_exit-ends.ensures ∙ c.if-ends.false);
      live = asked.live;
      waiting = asked.waiting;
      ready = record {
        room = (let same = ap length opened.stays.closed in omega (arith, same, i.ready.room));
        going = opened.keeps.going;
        numbered = numbered-later c.atoms.paths paths (number_of s.from) s.path.now opened.keeps.table i.ready.numbered;
      };
      table = extends-trans c.args.paths.now c.atoms.paths paths i.table opened.keeps.table;
      stays = stays-trans g.L.Library.told g.L.Library.open_files g.L.Library.faults c.args.files.now c.atoms.files c.open_next.new.files i.stays opened.stays;
    }

pub check_rest-atoms-init : goal.check_rest-atoms-init
check_rest-atoms-init g t c =
    let w = point c.args.run.now c.args.observer.now c.args.paths.now in
    record {
      leads = λ files k seen sees. (seen, sees, leads-refl (opener_of files c.args.source.now.opens) c.args.source.now.path.now (origin_of c.args.source.now.from) (progress_at w seen) (at_end c.args.collector.now));
      live = c.requires.live;
      waiting = c.requires.waiting;
      ready = c.requires.ready;
      table = ([], sym (append-nil c.args.paths.now));
      stays = record { same = refl; closed = refl; later = omega arith };
    }
