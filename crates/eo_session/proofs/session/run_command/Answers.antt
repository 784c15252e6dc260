use Rattle.std.proofs.Common.{◌≡◌, List, ◌++◌, subst}
use Rattle.std.specs.Prelude.{Result, Ok, Err, IfOk, IfErr}
use Rattle.eo_session.specs.Store.{state_of}
use Rattle.eo_session.specs.Numbered.{origin_of}
use Rattle.eo_shape.specs.Reading.{read_command, fault_of}
use Rattle.eo_shape.specs.Shapes as shapes
use Rattle.eo_shape.specs.declared.Command.{Command}
use Rattle.eo_shape.specs.declared.ShapeRefused.{ShapeRefused}
use Rattle.std.proofs.lemmas.Result.{on_ok_weaker}
use Rattle.eo_session.proofs.Dispatch.{does-shape, does-command}
use Rattle.eo_session.proofs.Shown.{always_unless, shown_is}
use Rattle.eo_session.specs.Notes.{Seen}
use Rattle.eo_session.proofs.session.run_command.Goals as goal

pub returns-in-Ok-clause-updates : goal.returns-in-Ok-clause-updates
returns-in-Ok-clause-updates g c =
    let shape = subst (λ (r : Result Command ShapeRefused). IfOk r (λ k. shapes.command_of c.is_reference.result c.args.s.now ≡ Ok (read_command k))) c.in-Ok.is c.command_of-read.ensures.shape in
    does-command (state_of c.args.store.now) (origin_of c.args.from) c.args.s.now c.is_reference.result c.is_reference.ensures c.run_decided.result c.run_decided.new.store (read_command c.in-Ok.command) shape c.run_decided.ensures.updates

pub returns-in-Err-clause-updates : goal.returns-in-Err-clause-updates
returns-in-Err-clause-updates g c =
    let refused = subst (λ (r : Result Command ShapeRefused). IfErr r (λ e. shapes.command_of c.is_reference.result c.args.s.now ≡ Err (fault_of e))) c.in-Err.is c.command_of-read.ensures.refused in
    does-shape (state_of c.args.store.now) (origin_of c.args.from) c.args.s.now c.is_reference.result c.is_reference.ensures (Err c.from.result) c.args.store.now c.in-Err.e refused c.from.ensures

pub returns-in-Ok-clause-sees : goal.returns-in-Ok-clause-sees
returns-in-Ok-clause-sees g c =
    let shape = subst (λ (r : Result Command ShapeRefused). IfOk r (λ k. shapes.command_of c.is_reference.result c.args.s.now ≡ Ok (read_command k))) c.in-Ok.is c.command_of-read.ensures.shape in
    let source = c.args.source.now in
    let same = shown_is (state_of c.args.store.now) (origin_of c.args.from) source.bytes.now source.place c.args.s.now c.is_reference.result c.is_reference.ensures (read_command c.in-Ok.command) shape in
    on_ok_weaker c.run_decided.result (λ h l t. subst (λ (x : List Seen). g.O.Observer.tells c.run_decided.new.observer (l ++ x)) same (h l t)) c.run_decided.ensures.sees

pub returns-in-Err-clause-unseen : goal.returns-in-Err-clause-unseen
returns-in-Err-clause-unseen g c = always_unless c.from.result _ (λ l t. t)
