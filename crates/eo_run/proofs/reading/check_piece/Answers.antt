use Rattle.std.proofs.Common.{◌≡◌, ℕ, ◌+◌, ◌-◌, ◌<◌, ◌≤◌, false, List, [], ◌∷◌, ◌++◌, length, drop, refl, sym, ap, subst, ◌∙◌, arith, length-drop}
use Rattle.std.specs.Prelude.{Option, Result, Ok}
use Rattle.eo_sexp.specs.Collecting.{here_of, start_of}
use Rattle.eo_session.specs.declared.Next.{Next}
use Rattle.eo_run.specs.declared.reading.FileRequest.{FileRequest}
use Rattle.eo_run.specs.declared.reading.Stop.{Stop}
use Rattle.eo_session.specs.Numbered.{origin_of, number_of}
use Rattle.eo_run.specs.Reading.{LeadsOn, behind, count_of, ChecksPiece}
use Rattle.eo_run.specs.Watching.{note_next, IsShown}
use Rattle.eo_run.proofs.Watched.{shown-none, shown-trans}
use Rattle.eo_base.proofs.Answering.{at_exit}
use Rattle.eo_run.proofs.Exits.{refused-piece, asked-piece}
use Rattle.eo_run.proofs.Running.{on-same, on-trans, on-fails, on-command}
use Rattle.eo_run.proofs.Ending.{fed-more, fed-command, fed-size, fed-gives, fed-live, fed-waiting, fed-here, fed-smaller, fed-fault, tail_later}
use Rattle.std.proofs.lemmas.List.{take_rest}
use Rattle.eo_run.proofs.reading.check_piece.Goals as goal

pub commands-init : goal.commands-init
commands-init g c =
    let p = c.args.piece.now in
    let none : length p - length p ≡ 0 = omega arith in
    record {
      passes = [];
      shown = shown-none g.O.Observer.tells (number_of c.args.from) c.args.observer.now;
      leads = on-same (origin_of c.args.from) c.args.session.now.state (behind c.args.collector.now p) (behind c.args.collector.now p) (λ closes more. refl);
      live = c.requires.live;
      waiting = c.requires.waiting;
      here = omega arith;
      tail = ap (λ (k : ℕ). drop k p) none;
      size = omega arith;
      fewer = omega arith;
      going = c.requires.going;
    }

pub returns-in-Fault-clause-checks : goal.returns-in-Fault-clause-checks
returns-in-Fault-clause-checks g c =
    let from = origin_of c.args.from in
    let i = c.commands.invariant in
    let tells = g.O.Observer.tells in
    let file = number_of c.args.from in
    record {
      passes = i.passes ++ [];
      shown = shown-trans tells file c.args.observer.now c.commands.observer c.commands.observer i.passes [] i.shown (shown-none tells file c.commands.observer);
      fails = on-fails from _ c.commands.session.state _ _ i.passes [] c.in-Fault.name c.in-Fault.at i.leads
          (fed-fault c.pieces_law.ensures c.answers_law.ensures from c.commands.collector c.feed.new.self i.live i.waiting c.commands.rest.now c.in-Fault.ensures.0 c.in-Fault.name c.in-Fault.at c.in-Fault.ensures.1 c.commands.session.state).0;
    }

pub slice_bounds-rest-start : goal.slice_bounds-rest-start
slice_bounds-rest-start g c =
    let i = c.commands.invariant in
    fed-size c.pieces_law.ensures c.answers_law.ensures (origin_of c.args.from) c.commands.collector c.feed.new.self i.live i.waiting c.commands.rest.now c.in-Command.ensures.0 c.in-Command.used c.in-Command.ensures.1

pub slice_bounds-rest-count : goal.slice_bounds-rest-count
slice_bounds-rest-count g c =
    let i = c.commands.invariant in
    fed-size c.pieces_law.ensures c.answers_law.ensures (origin_of c.args.from) c.commands.collector c.feed.new.self i.live i.waiting c.commands.rest.now c.in-Command.ensures.0 c.in-Command.used c.in-Command.ensures.1

pub commands-smaller : goal.commands-smaller
commands-smaller g c =
    let i = c.commands.invariant in
    let rest = c.commands.rest.now in
    let u = c.in-Command.used in
    subst (λ (q : List ℕ). count_of (behind c.feed.new.self q false []) < count_of (behind c.commands.collector rest false [])) (sym (take_rest rest u))
    (fed-smaller c.pieces_law.ensures c.answers_law.ensures (origin_of c.args.from) c.commands.collector c.feed.new.self i.live i.waiting rest c.in-Command.ensures.0 u c.in-Command.ensures.1)

pub returns-in-More-clause-checks : goal.returns-in-More-clause-checks
returns-in-More-clause-checks g c =
    let from = origin_of c.args.from in
    let i = c.commands.invariant in
    let st = c.commands.session.state in
    let fed = fed-more c.pieces_law.ensures c.answers_law.ensures from c.commands.collector c.feed.new.self i.live i.waiting c.commands.rest.now c.in-More.ensures.0 c.in-More.ensures.1 st in
    let here = fed.here in
    let before = i.here in
    let tells = g.O.Observer.tells in
    let file = number_of c.args.from in
    record {
      passes = i.passes ++ [];
      shown = shown-trans tells file c.args.observer.now c.commands.observer c.commands.observer i.passes [] i.shown (shown-none tells file c.commands.observer);
      leads = on-trans from _ st st _ _ _ i.passes [] i.leads fed.leads;
      live = fed.live;
      waiting = fed.waiting;
      here = omega arith;
    }

pub returns-in_err-next-in-Command-clause-checks : goal.returns-in_err-next-in-Command-clause-checks
returns-in_err-next-in-Command-clause-checks g c =
    let from = origin_of c.args.from in
    let law = c.pieces_law.ensures in
    let alone = c.answers_law.ensures in
    let old = c.commands.collector in
    let rest = c.commands.rest.now in
    let d = c.feed.new.self in
    let i = c.commands.invariant in
    let u = c.in-Command.used in
    let is = c.in-Command.ensures.0 in
    let e = c.in-Command.ensures.1 in
    let k = fed-command law alone from old d i.live i.waiting rest is u e in
    let x = c.in_err-next-in-Command.field-0.0 in
    let tells = g.O.Observer.tells in
    let file = number_of c.args.from in
    at_exit (λ (r : Result (Option FileRequest) Stop). ChecksPiece from (IsShown tells c.args.observer.now c.check_command.new.observer file) r c.args.session.now.state c.check_command.new.session.state c.args.collector.now d c.args.piece.now) c.from_residual.result x c.from_residual.ensures.1
    (refused-piece tells c.args.observer.now c.commands.observer c.check_command.new.observer from file i.passes i.shown c.args.session.now.state c.commands.session.state c.check_command.new.session.state c.args.collector.now old c.args.piece.now rest (behind d (drop u rest)) k.command i.leads (fed-gives law alone from old d i.live i.waiting rest is u e) x d (c.in_err-next-in-Command.ensures.checks k.command k.phase k.is) (c.in_err-next-in-Command.ensures.shows k.command k.phase k.is))

pub returns-then-is_request-clause-checks : goal.returns-then-is_request-clause-checks
returns-then-is_request-clause-checks g c =
    let from = origin_of c.args.from in
    let law = c.pieces_law.ensures in
    let alone = c.answers_law.ensures in
    let old = c.commands.collector in
    let piece = c.args.piece.now in
    let rest = c.commands.rest.now in
    let d = c.feed.new.self in
    let i = c.commands.invariant in
    let u = c.in-Command.used in
    let is = c.in-Command.ensures.0 in
    let e = c.in-Command.ensures.1 in
    let k = fed-command law alone from old d i.live i.waiting rest is u e in
    let live = fed-live law alone from old d i.live i.waiting rest is u e in
    let size = fed-size law alone from old d i.live i.waiting rest is u e in
    let here = fed-here law alone from old d i.live i.waiting rest is u e in
    let fewer : count_of (behind d (drop u rest) false []) < count_of (behind old rest false []) = fed-smaller law alone from old d i.live i.waiting rest is u e in
    let here-before = i.here in
    let fewer-before = i.fewer in
    asked-piece g.O.Observer.tells c.args.observer.now c.commands.observer c.check_command.new.observer from (number_of c.args.from) i.passes i.shown c.args.session.now.state c.commands.session.state c.check_command.new.session.state c.args.collector.now old d piece rest (drop u rest) k.command _ i.leads (fed-gives law alone from old d i.live i.waiting rest is u e)
    (ap (λ (q : List ℕ). drop (length piece - length q) piece) (take_rest rest u) ∙ tail_later piece rest u i.tail i.size size) (omega arith)
    live (fed-waiting law alone from old d i.live i.waiting rest is u e) (omega arith) (omega arith) (c.in_ok-next-in-Command.ensures.checks k.command k.phase k.is) (c.start-at.ensures live ∙ ap start_of k.is) (c.in_ok-next-in-Command.ensures.shows k.command k.phase k.is)

pub commands-preserved : goal.commands-preserved
commands-preserved g c =
    let from = origin_of c.args.from in
    let law = c.pieces_law.ensures in
    let alone = c.answers_law.ensures in
    let old = c.commands.collector in
    let first = c.args.collector.now in
    let piece = c.args.piece.now in
    let rest = c.commands.rest.now in
    let d = c.feed.new.self in
    let i = c.commands.invariant in
    let u = c.in-Command.used in
    let is = c.in-Command.ensures.0 in
    let e = c.in-Command.ensures.1 in
    let k = fed-command law alone from old d i.live i.waiting rest is u e in
    let new = c.check_command.new.session.state in
    let size = fed-size law alone from old d i.live i.waiting rest is u e in
    let here = fed-here law alone from old d i.live i.waiting rest is u e in
    let fewer : count_of (behind d (drop u rest) false []) < count_of (behind old rest false []) = fed-smaller law alone from old d i.live i.waiting rest is u e in
    let here-before = i.here in
    let size-before = i.size in
    let fewer-before = i.fewer in
    let tail = sym (take_rest rest u) in
    let tells = g.O.Observer.tells in
    let file = number_of c.args.from in
    let ns = note_next c.commands.session.state from file k.command ∷ [] in
    record {
      passes = i.passes ++ ns;
      shown = shown-trans tells file c.args.observer.now c.commands.observer c.check_command.new.observer i.passes ns i.shown (c.in_ok-next-in-Command.ensures.shows k.command k.phase k.is);
      leads = subst (λ (q : List ℕ). LeadsOn from c.args.session.now.state (behind first piece) (i.passes ++ ns) new (behind d q)) tail (on-trans from _ c.commands.session.state new _ _ _ i.passes ns i.leads
          (on-command from c.commands.session.state (behind old rest) (behind d (drop u rest)) k.command file (fed-gives law alone from old d i.live i.waiting rest is u e) new
          (c.in_ok-next-in-Command.ensures.checks k.command k.phase k.is ∙ ap (λ (n : Next). Ok (new, n)) (c.is_request.ensures.0 c.if-is_request.false))));
      live = fed-live law alone from old d i.live i.waiting rest is u e;
      waiting = fed-waiting law alone from old d i.live i.waiting rest is u e;
      here = subst (λ (q : List ℕ). (here_of d).offset + length q ≤ (here_of first).offset + length piece) tail (omega arith);
      tail = subst (λ (q : List ℕ). drop (length piece - length q) piece ≡ q) tail (tail_later piece rest u i.tail i.size size);
      size = subst (λ (q : List ℕ). length q ≤ length piece) tail (omega (arith, length-drop u rest));
      fewer = subst (λ (q : List ℕ). count_of (behind d q false []) ≤ count_of (behind first piece false [])) tail (omega arith);
      going = c.in_ok-next-in-Command.ensures.going;
    }
