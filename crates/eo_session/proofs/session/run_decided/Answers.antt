use Rattle.std.proofs.Common.{List, ◌∷◌, ◌++◌, [], sym, ap, subst, ◌∙◌}
use Rattle.std.specs.Prelude.{Ok, Result}
use Rattle.eo_base.proofs.Answering.{at_exit}
use Rattle.eo_shape.specs.Reading.{read_command}
use Rattle.eo_session.specs.Commands.{placed_command}
use Rattle.eo_session.specs.Deciding.{read_effect}
use Rattle.eo_session.specs.Effects.{after}
use Rattle.eo_session.specs.Store.{state_of}
use Rattle.eo_session.specs.Numbered.{origin_of}
use Rattle.eo_session.specs.State.{State}
use Rattle.eo_session.specs.Stepping.{UpdatesNext}
use Rattle.eo_session.specs.declared.Next.{Next}
use Rattle.eo_session.specs.declared.refused.Refused.{Refused}
use Rattle.eo_session.proofs.Decisions.{does-decided, does-refused}
use Rattle.eo_session.proofs.Sessions.{refuses_on}
use Rattle.eo_session.proofs.Shown.{unseen_exit}
use Rattle.eo_session.specs.Notes.{Seen, seen_by, seen_of}
use Rattle.eo_session.proofs.session.run_decided.Goals as goal

pub returns-in_err-decided-clause-updates : goal.returns-in_err-decided-clause-updates
returns-in_err-decided-clause-updates g c =
    let st = state_of c.args.store.now in
    let from = origin_of c.args.from in
    let k = read_command c.args.command.now in
    let x = c.in_err-decided.field-0.0 in
    at_exit (λ (r : Result Next Refused). UpdatesNext r (placed_command st from k) c.decide.new.self) c.from_residual.result x c.from_residual.ensures.1
    (refuses_on _ (placed_command st from k) x c.in_err-decided.ensures.decides (does-refused st from k))

pub returns-clause-updates : goal.returns-clause-updates
returns-clause-updates g c =
    let mid = c.decide.new.self in
    let told = c.in_ok-decided.ensures in
    let e = read_effect mid.table c.in_ok-decided.decided.effect in
    let what = c.in_ok-decided.decided.next in
    does-decided (state_of c.args.store.now) (origin_of c.args.from) (read_command c.args.command.now) e what told.decides.is
    ∙ ap (λ (st : State). Ok (after st e, what)) (sym told.keeps.same)
    ∙ (λ i. Ok (after (sym c.in_ok-show.ensures.keeps.same i) (sym c.in_ok-show.ensures.same i), what))
    ∙ ap (λ (st : State). Ok (st, what)) (sym c.in_ok-commit.ensures.updates)

pub returns-clause-sees : goal.returns-clause-sees
returns-clause-sees g c =
    let st = state_of c.args.store.now in
    let from = origin_of c.args.from in
    let k = read_command c.args.command.now in
    let bytes = c.args.source.now.bytes.now in
    let place = c.args.source.now.place in
    let told = c.in_ok-decided.ensures in
    let e = read_effect c.decide.new.self.table c.in_ok-decided.decided.effect in
    let same = ap (λ (z : State). seen_of z from bytes place k e ∷ []) told.keeps.same ∙ sym (ap (seen_by st from bytes place k) told.decides.is) in
    (λ l t. subst (λ (x : List Seen). g.O.Observer.tells c.show.new.observer (l ++ x)) same (c.in_ok-show.ensures.sees l t))

pub returns-in_err-decided-clause-unseen : goal.returns-in_err-decided-clause-unseen
returns-in_err-decided-clause-unseen g c = unseen_exit c.from_residual.result _ _ c.from_residual.ensures.1 (λ l t. t)
