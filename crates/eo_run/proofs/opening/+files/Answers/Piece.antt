-- What is returned for the commands of a piece.
use Rattle.std.proofs.Common.{◌<◌, ℕ, List, [], false, length, drop, refl, Bool, sym, ap, subst, ◌∙◌, arith, append-nil}
use Rattle.std.specs.Prelude.{Result, Ok, Err, Option}
use Rattle.eo_session.specs.Numbered.{origin_of, number_of}
use Rattle.eo_run.specs.Progress.{point, progress_at}
use Rattle.eo_run.specs.Watching.{IsShown}
use Rattle.eo_run.specs.Reading.{count_of, behind, ChecksPiece, IsAsked, IsFed}
use Rattle.eo_run.specs.Opening.{opener_of, Keeps, GoesOn, Told, IsLeft, TakesPiece}
use Rattle.eo_run.specs.declared.Verdict.{Verdict}
use Rattle.eo_run.specs.declared.reading.FileRequest.{FileRequest}
use Rattle.eo_run.specs.declared.reading.Stop.{Stop}
use Rattle.eo_base.proofs.Answering.{at_exit}
use Rattle.eo_run.proofs.Taking.{opens-later, goes-on, goes-behind, leaves-behind, leaves-reference, stops-behind, stopped-here, extends-trans, stays-trans}
use Rattle.eo_run.proofs.Running.{leads-refl}
use Rattle.eo_run.proofs.Watched.{numbered-later}
use Rattle.eo_run.proofs.opening.+files.Goals as goal

pub take_piece-returns-in-Err-clause-takes : goal.take_piece-returns-in-Err-clause-takes
take_piece-returns-in-Err-clause-takes g t c =
    let s = c.args.source.now in
    let i = c.commands.invariant in
    let told = g.L.Library.told c.args.files.now in
    let tells = g.O.Observer.tells in
    let old = point c.args.run.now c.args.observer.now c.args.paths.now in
    let mid = point c.commands.run c.commands.observer c.commands.paths in
    let now = point (record c.commands.run { session = c.check_piece.new.session }) c.check_piece.new.observer c.commands.paths in
    let d = c.check_piece.new.collector in
    let rest = c.commands.rest.now in
    stopped-here tells told s old mid now i.ready.numbered refl refl refl (behind c.args.collector.now c.args.piece.now) (behind c.commands.collector rest) i.leads c.in-Err.stop c.verdict_of_stop.result c.verdict_of_stop.ensures i.ready.numbered
    (λ name at e. subst (λ (x : Stop). ChecksPiece (origin_of s.from) (IsShown tells c.commands.observer c.check_piece.new.observer (number_of s.from)) (Err x) c.commands.run.session.state c.check_piece.new.session.state c.commands.collector d rest) e c.in-Err.ensures.checks)

pub take_piece-returns-in-Ok-None-clause-takes : goal.take_piece-returns-in-Ok-None-clause-takes
take_piece-returns-in-Ok-None-clause-takes g t c =
    let s = c.args.source.now in
    let i = c.commands.invariant in
    let told = g.L.Library.told c.args.files.now in
    let tells = g.O.Observer.tells in
    let old = point c.args.run.now c.args.observer.now c.args.paths.now in
    let mid = point c.commands.run c.commands.observer c.commands.paths in
    let now = point (record c.commands.run { session = c.check_piece.new.session }) c.check_piece.new.observer c.commands.paths in
    let d = c.check_piece.new.collector in
    let rest = c.commands.rest.now in
    let fed : IsFed (origin_of s.from) (IsShown tells c.commands.observer c.check_piece.new.observer (number_of s.from)) c.commands.run.session.state c.check_piece.new.session.state c.commands.collector d rest = subst (λ (o : Option FileRequest). ChecksPiece (origin_of s.from) (IsShown tells c.commands.observer c.check_piece.new.observer (number_of s.from)) (Ok o) c.commands.run.session.state c.check_piece.new.session.state c.commands.collector d rest) c.in-Ok-None.field-0-is c.in-Ok-None.ensures.checks in
    record {
      leads = goes-on tells told s old mid now i.ready.numbered refl refl refl (behind c.args.collector.now c.args.piece.now) (behind c.commands.collector rest) i.leads (behind d []) fed.passes fed.shown fed.leads;
      live = fed.live;
      waiting = fed.waiting;
      here = omega (arith, i.here, fed.here);
    }

pub take_piece-returns-in_err-open_next-in-Ok-Some-clause-takes : goal.take_piece-returns-in_err-open_next-in-Ok-Some-clause-takes
take_piece-returns-in_err-open_next-in-Ok-Some-clause-takes g t c =
    let s = c.args.source.now in
    let i = c.commands.invariant in
    let told = g.L.Library.told c.args.files.now in
    let tells = g.O.Observer.tells in
    let old = point c.args.run.now c.args.observer.now c.args.paths.now in
    let mid = point c.commands.run c.commands.observer c.commands.paths in
    let now = point (record c.commands.run { session = c.check_piece.new.session }) c.check_piece.new.observer c.commands.paths in
    let d = c.check_piece.new.collector in
    let rest = c.commands.rest.now in
    let a = c.in-Ok-Some.asked in
    let last = point c.open_next.new.run c.open_next.new.observer c.open_next.new.paths in
    let asked : IsAsked (origin_of s.from) (IsShown tells c.commands.observer c.check_piece.new.observer (number_of s.from)) c.commands.run.session.state c.check_piece.new.session.state c.commands.collector d rest a = subst (λ (o : Option FileRequest). ChecksPiece (origin_of s.from) (IsShown tells c.commands.observer c.check_piece.new.observer (number_of s.from)) (Ok o) c.commands.run.session.state c.check_piece.new.session.state c.commands.collector d rest) c.in-Ok-Some.field-0-is c.in-Ok-Some.ensures.checks in
    let x = c.in_err-open_next-in-Ok-Some.field-0.0 in
    at_exit (λ (r : Result Bool Verdict). TakesPiece tells told s r old last c.args.collector.now d c.args.piece.now) c.from_residual.result x c.from_residual.ensures.1
    (stops-behind tells told s old mid now i.ready.numbered refl refl refl (behind c.args.collector.now c.args.piece.now) (behind c.commands.collector rest) i.leads (behind d (drop a.used rest)) a.next a.at asked.passes asked.shown asked.asks last x
    (opens-later tells told (g.L.Library.told c.commands.files) i.stays.same s a.at a.next (Err x) now last c.in_err-open_next-in-Ok-Some.ensures.opens))

pub take_piece-returns-in_err-open_next-in-Ok-Some-clause-keeps : goal.take_piece-returns-in_err-open_next-in-Ok-Some-clause-keeps
take_piece-returns-in_err-open_next-in-Ok-Some-clause-keeps g t c =
    let e = c.in_err-open_next-in-Ok-Some in
    at_exit (λ (r : Result Bool Verdict). Keeps r c.open_next.new.run c.args.paths.now c.open_next.new.paths) c.from_residual.result e.field-0.0 c.from_residual.ensures.1 record {
      going = tt;
      kind = e.ensures.keeps.kind;
      table = extends-trans c.args.paths.now c.commands.paths c.open_next.new.paths c.commands.invariant.table e.ensures.keeps.table;
    }

pub take_piece-returns-then-ends-clause-takes : goal.take_piece-returns-then-ends-clause-takes
take_piece-returns-then-ends-clause-takes g t c =
    let s = c.args.source.now in
    let i = c.commands.invariant in
    let told = g.L.Library.told c.args.files.now in
    let tells = g.O.Observer.tells in
    let old = point c.args.run.now c.args.observer.now c.args.paths.now in
    let mid = point c.commands.run c.commands.observer c.commands.paths in
    let now = point (record c.commands.run { session = c.check_piece.new.session }) c.check_piece.new.observer c.commands.paths in
    let d = c.check_piece.new.collector in
    let rest = c.commands.rest.now in
    let a = c.in-Ok-Some.asked in
    let last = point c.open_next.new.run c.open_next.new.observer c.open_next.new.paths in
    let asked : IsAsked (origin_of s.from) (IsShown tells c.commands.observer c.check_piece.new.observer (number_of s.from)) c.commands.run.session.state c.check_piece.new.session.state c.commands.collector d rest a = subst (λ (o : Option FileRequest). ChecksPiece (origin_of s.from) (IsShown tells c.commands.observer c.check_piece.new.observer (number_of s.from)) (Ok o) c.commands.run.session.state c.check_piece.new.session.state c.commands.collector d rest) c.in-Ok-Some.field-0-is c.in-Ok-Some.ensures.checks in
    let ends = sym c.is_exit-ends.ensures ∙ c.if-ends.true in
    let finishes = leaves-behind tells told s old mid now i.ready.numbered refl refl refl (behind c.args.collector.now c.args.piece.now) (behind c.commands.collector rest) i.leads (behind d (drop a.used rest)) a.next a.at asked.passes asked.shown asked.asks last tt
    (opens-later tells told (g.L.Library.told c.commands.files) i.stays.same s a.at a.next (Ok tt) now last c.in_ok-open_next-in-Ok-Some.ensures.opens) ends in
    let reference = leaves-reference tells told s old mid now i.ready.numbered refl refl refl (behind c.args.collector.now c.args.piece.now) (behind c.commands.collector rest) i.leads (behind d (drop a.used rest)) a.next a.at asked.passes asked.shown asked.asks ends in
    let left : IsLeft tells told s old last c.args.collector.now c.args.piece.now = record { finishes = finishes; reference = reference } in
    left

pub take_piece-returns-then-ends-clause-keeps : goal.take_piece-returns-then-ends-clause-keeps
take_piece-returns-then-ends-clause-keeps g t c =
    let keeps = c.in_ok-open_next-in-Ok-Some.ensures.keeps in
    record {
      going = keeps.going;
      kind = tt;
      table = extends-trans c.args.paths.now c.commands.paths c.open_next.new.paths c.commands.invariant.table keeps.table;
    }

pub take_piece-commands-preserved : goal.take_piece-commands-preserved
take_piece-commands-preserved g t c =
    let s = c.args.source.now in
    let i = c.commands.invariant in
    let told = g.L.Library.told c.args.files.now in
    let tells = g.O.Observer.tells in
    let old = point c.args.run.now c.args.observer.now c.args.paths.now in
    let mid = point c.commands.run c.commands.observer c.commands.paths in
    let now = point (record c.commands.run { session = c.check_piece.new.session }) c.check_piece.new.observer c.commands.paths in
    let d = c.check_piece.new.collector in
    let rest = c.commands.rest.now in
    let a = c.in-Ok-Some.asked in
    let last = point c.open_next.new.run c.open_next.new.observer c.open_next.new.paths in
    let asked : IsAsked (origin_of s.from) (IsShown tells c.commands.observer c.check_piece.new.observer (number_of s.from)) c.commands.run.session.state c.check_piece.new.session.state c.commands.collector d rest a = subst (λ (o : Option FileRequest). ChecksPiece (origin_of s.from) (IsShown tells c.commands.observer c.check_piece.new.observer (number_of s.from)) (Ok o) c.commands.run.session.state c.check_piece.new.session.state c.commands.collector d rest) c.in-Ok-Some.field-0-is c.in-Ok-Some.ensures.checks in
    let opened = c.in_ok-open_next-in-Ok-Some.ensures in
    let paths = c.open_next.new.paths in
    let tail = c.left_of-rest.ensures in
    record {
      leads = subst (λ (q : List ℕ). Told told (λ files. GoesOn tells files s old last (behind c.args.collector.now c.args.piece.now) (behind d q))) (sym tail)
          (goes-behind tells told s old mid now i.ready.numbered refl refl refl (behind c.args.collector.now c.args.piece.now) (behind c.commands.collector rest) i.leads (behind d (drop a.used rest)) a.next a.at asked.passes asked.shown asked.asks last tt
          (opens-later tells told (g.L.Library.told c.commands.files) i.stays.same s a.at a.next (Ok tt) now last opened.opens) (sym c.is_exit-ends.ensures ∙ c.if-ends.false));
      live = asked.live;
      waiting = asked.waiting;
      here = (let same = ap length tail in omega (arith, same, i.here, asked.here));
      ready = record {
        room = (let same = ap length opened.stays.closed in omega (arith, same, i.ready.room));
        going = opened.keeps.going;
        numbered = numbered-later c.commands.paths paths (number_of s.from) s.path.now opened.keeps.table i.ready.numbered;
      };
      table = extends-trans c.args.paths.now c.commands.paths paths i.table opened.keeps.table;
      stays = stays-trans g.L.Library.told g.L.Library.open_files g.L.Library.faults c.args.files.now c.commands.files c.open_next.new.files i.stays opened.stays;
    }

pub take_piece-commands-init : goal.take_piece-commands-init
take_piece-commands-init g t c =
    let w = point c.args.run.now c.args.observer.now c.args.paths.now in
    record {
      leads = λ files k seen sees. (seen, sees, leads-refl (opener_of files c.args.source.now.opens) c.args.source.now.path.now (origin_of c.args.source.now.from) (progress_at w seen) (behind c.args.collector.now c.args.piece.now));
      live = c.requires.live;
      waiting = c.requires.waiting;
      here = omega arith;
      ready = c.requires.ready;
      table = ([], sym (append-nil c.args.paths.now));
      stays = record { same = refl; closed = refl; later = omega arith };
    }

pub take_piece-commands-smaller : goal.take_piece-commands-smaller
take_piece-commands-smaller g t c =
    let s = c.args.source.now in
    let i = c.commands.invariant in
    let told = g.L.Library.told c.args.files.now in
    let tells = g.O.Observer.tells in
    let old = point c.args.run.now c.args.observer.now c.args.paths.now in
    let mid = point c.commands.run c.commands.observer c.commands.paths in
    let now = point (record c.commands.run { session = c.check_piece.new.session }) c.check_piece.new.observer c.commands.paths in
    let d = c.check_piece.new.collector in
    let rest = c.commands.rest.now in
    let a = c.in-Ok-Some.asked in
    let asked : IsAsked (origin_of s.from) (IsShown tells c.commands.observer c.check_piece.new.observer (number_of s.from)) c.commands.run.session.state c.check_piece.new.session.state c.commands.collector d rest a = subst (λ (o : Option FileRequest). ChecksPiece (origin_of s.from) (IsShown tells c.commands.observer c.check_piece.new.observer (number_of s.from)) (Ok o) c.commands.run.session.state c.check_piece.new.session.state c.commands.collector d rest) c.in-Ok-Some.field-0-is c.in-Ok-Some.ensures.checks in
    subst (λ (q : List ℕ). count_of (behind d q false []) < count_of (behind c.commands.collector rest false [])) (sym (c.left_of-rest.ensures)) asked.fewer
