use Rattle.std.proofs.Common.{[], ◌∷◌, ◌++◌, refl, ap, ◌∙◌, arith}
use Rattle.std.specs.Prelude.{Option, Result, Ok}
use Rattle.eo_sexp.specs.Collecting.{start_of}
use Rattle.eo_session.specs.declared.Next.{Next}
use Rattle.eo_run.specs.declared.reading.FileRequest.{FileRequest}
use Rattle.eo_run.specs.declared.reading.Stop.{Stop}
use Rattle.eo_session.specs.Numbered.{origin_of, number_of}
use Rattle.eo_run.specs.Reading.{at_end, ChecksEnd}
use Rattle.eo_run.specs.Watching.{note_next, IsShown}
use Rattle.eo_run.proofs.Watched.{shown-none, shown-trans}
use Rattle.eo_base.proofs.Answering.{at_exit}
use Rattle.eo_run.proofs.Exits.{refused-end, asked-end}
use Rattle.eo_run.proofs.Running.{on-same, on-trans, on-fails, on-command}
use Rattle.eo_run.proofs.Ending.{end-ends, ended-live, end-command, end-gives, end-live, end-waiting, end-smaller, end-fault}
use Rattle.eo_run.proofs.reading.check_end.Goals as goal

pub atoms-init : goal.atoms-init
atoms-init g c = record {
  passes = [];
  shown = shown-none g.O.Observer.tells (number_of c.args.from) c.args.observer.now;
  leads = on-same (origin_of c.args.from) c.args.session.now.state (at_end c.args.collector.now) (at_end c.args.collector.now) (λ closes more. refl);
  live = c.requires.live;
  waiting = c.requires.waiting;
  fewer = omega arith;
  going = c.requires.going;
}

pub returns-in-End-clause-checks : goal.returns-in-End-clause-checks
returns-in-End-clause-checks g c =
    let from = origin_of c.args.from in
    let law = c.pieces_law.ensures in
    let alone = c.answers_law.ensures in
    let old = c.atoms.collector in
    let d = c.finish.new.self in
    let i = c.atoms.invariant in
    let is = c.in-End.ensures.0 in
    let e = c.in-End.ensures.1 in
    let tells = g.O.Observer.tells in
    let file = number_of c.args.from in
    record {
      passes = i.passes ++ [];
      shown = shown-trans tells file c.args.observer.now c.atoms.observer c.atoms.observer i.passes [] i.shown (shown-none tells file c.atoms.observer);
      leads = on-trans from _ c.atoms.session.state c.atoms.session.state _ _ _ i.passes [] i.leads (end-ends law alone from old d i.live i.waiting is e c.atoms.session.state);
      live = ended-live law alone from old d i.live i.waiting is e;
    }

pub atoms-smaller : goal.atoms-smaller
atoms-smaller g c =
    let i = c.atoms.invariant in
    end-smaller c.pieces_law.ensures c.answers_law.ensures (origin_of c.args.from) c.atoms.collector c.finish.new.self i.live i.waiting c.in-Command.ensures.0 c.in-Command.ensures.1

pub returns-in-Fault-clause-checks : goal.returns-in-Fault-clause-checks
returns-in-Fault-clause-checks g c =
    let from = origin_of c.args.from in
    let i = c.atoms.invariant in
    let tells = g.O.Observer.tells in
    let file = number_of c.args.from in
    record {
      passes = i.passes ++ [];
      shown = shown-trans tells file c.args.observer.now c.atoms.observer c.atoms.observer i.passes [] i.shown (shown-none tells file c.atoms.observer);
      fails = on-fails from _ c.atoms.session.state _ _ i.passes [] c.in-Fault.name c.in-Fault.at i.leads
          (end-fault c.pieces_law.ensures c.answers_law.ensures from c.atoms.collector c.finish.new.self i.live i.waiting c.in-Fault.ensures.0 c.in-Fault.name c.in-Fault.at c.in-Fault.ensures.1 c.atoms.session.state).0;
    }

pub returns-in_err-next-in-Command-clause-checks : goal.returns-in_err-next-in-Command-clause-checks
returns-in_err-next-in-Command-clause-checks g c =
    let from = origin_of c.args.from in
    let law = c.pieces_law.ensures in
    let alone = c.answers_law.ensures in
    let old = c.atoms.collector in
    let d = c.finish.new.self in
    let i = c.atoms.invariant in
    let is = c.in-Command.ensures.0 in
    let e = c.in-Command.ensures.1 in
    let k = end-command law alone from old d i.live i.waiting is e in
    let x = c.in_err-next-in-Command.field-0.0 in
    let tells = g.O.Observer.tells in
    let file = number_of c.args.from in
    at_exit (λ (r : Result (Option FileRequest) Stop). ChecksEnd from (IsShown tells c.args.observer.now c.check_command.new.observer file) r c.args.session.now.state c.check_command.new.session.state c.args.collector.now d) c.from_residual.result x c.from_residual.ensures.1
    (refused-end tells c.args.observer.now c.atoms.observer c.check_command.new.observer from file i.passes i.shown c.args.session.now.state c.atoms.session.state c.check_command.new.session.state c.args.collector.now old (at_end d) k.0 i.leads (end-gives law alone from old d i.live i.waiting is e) x d (c.in_err-next-in-Command.ensures.checks k.0 k.1 k.2) (c.in_err-next-in-Command.ensures.shows k.0 k.1 k.2))

pub returns-then-is_request-clause-checks : goal.returns-then-is_request-clause-checks
returns-then-is_request-clause-checks g c =
    let from = origin_of c.args.from in
    let law = c.pieces_law.ensures in
    let alone = c.answers_law.ensures in
    let old = c.atoms.collector in
    let d = c.finish.new.self in
    let i = c.atoms.invariant in
    let is = c.in-Command.ensures.0 in
    let e = c.in-Command.ensures.1 in
    let k = end-command law alone from old d i.live i.waiting is e in
    let live = end-live law alone from old d i.live i.waiting is e in
    let fewer = end-smaller law alone from old d i.live i.waiting is e in
    let before = i.fewer in
    asked-end g.O.Observer.tells c.args.observer.now c.atoms.observer c.check_command.new.observer from (number_of c.args.from) i.passes i.shown c.args.session.now.state c.atoms.session.state c.check_command.new.session.state c.args.collector.now old d k.0 _ i.leads (end-gives law alone from old d i.live i.waiting is e)
    live (end-waiting law alone from old d i.live i.waiting is e) (omega arith) (c.in_ok-next-in-Command.ensures.checks k.0 k.1 k.2) (c.start-at.ensures live ∙ ap start_of k.2) (c.in_ok-next-in-Command.ensures.shows k.0 k.1 k.2)

pub atoms-preserved : goal.atoms-preserved
atoms-preserved g c =
    let from = origin_of c.args.from in
    let law = c.pieces_law.ensures in
    let alone = c.answers_law.ensures in
    let old = c.atoms.collector in
    let d = c.finish.new.self in
    let i = c.atoms.invariant in
    let is = c.in-Command.ensures.0 in
    let e = c.in-Command.ensures.1 in
    let k = end-command law alone from old d i.live i.waiting is e in
    let new = c.check_command.new.session.state in
    let fewer = end-smaller law alone from old d i.live i.waiting is e in
    let before = i.fewer in
    let tells = g.O.Observer.tells in
    let file = number_of c.args.from in
    let ns = note_next c.atoms.session.state from file k.0 ∷ [] in
    record {
      passes = i.passes ++ ns;
      shown = shown-trans tells file c.args.observer.now c.atoms.observer c.check_command.new.observer i.passes ns i.shown (c.in_ok-next-in-Command.ensures.shows k.0 k.1 k.2);
      leads = on-trans from _ c.atoms.session.state new _ _ _ i.passes ns i.leads
          (on-command from c.atoms.session.state (at_end old) (at_end d) k.0 file (end-gives law alone from old d i.live i.waiting is e) new
          (c.in_ok-next-in-Command.ensures.checks k.0 k.1 k.2 ∙ ap (λ (n : Next). Ok (new, n)) (c.is_request.ensures.0 c.if-is_request.false)));
      live = end-live law alone from old d i.live i.waiting is e;
      waiting = end-waiting law alone from old d i.live i.waiting is e;
      fewer = omega arith;
      going = c.in_ok-next-in-Command.ensures.going;
    }
