use Rattle.std.proofs.Common.{◌≡◌, ◌<◌, ◌∙◌, ℕ, List, [], ◌∷◌, ◌++◌, length, Some, None, sym, ap, subst, refl, arith}
use Rattle.std.specs.Prelude.{IfOk}
use Rattle.std.proofs.lemmas.List.Elements.{All-pop}
use Rattle.eo_term.specs.Terms.{Terms, tree_at}
use Rattle.eo_term.specs.Tree.{truth}
use Rattle.eo_sig.specs.Reading.{Kept, signature}
use Rattle.eo_stack.specs.Evaluation.{Value}
use Rattle.eo_stack.specs.Reading.{IsNode, IsPlaced, begun, other, result_of, given_in}
use Rattle.eo_eval.specs.Ready.{Concludes, PoppedReady, Goes, outcome_of_frame}
use Rattle.eo_stack.specs.declared.Outcome.TheVariants as outcome
use Rattle.eo_eval.specs.declared.machine.Machine.{Machine}
use Rattle.eo_stack.specs.declared.stack.Frame as code_frame
use Rattle.eo_stack.specs.declared.stack.Control as code_control
use Rattle.eo_eval.proofs.Frames.{tested_ends, right_ends, missed_ends, maybe_given}
use Rattle.eo_eval.proofs.Popped.{frame_popped}
use Rattle.eo_eval.proofs.Running.{begun_count}
use Rattle.eo_stack.proofs.Unchanged.{extends_same}
use Rattle.eo_eval.proofs.machine.Machine.give_to.Goals as goal

-- what was taken off, by what it is
ready_as : {k : Kept} {t : Terms} {typed : List (ℕ × ℕ)} {e : Machine} {f g : code_frame.Frame} {now : code_control.Control} → f ≡ g → PoppedReady k t typed e f now → PoppedReady k t typed e g now
ready_as {k} {t} {typed} {e} {now = now} is r = subst (λ h. PoppedReady k t typed e h now) is r

pub give_parts-requires : goal.give_parts-requires
give_parts-requires c = record { given = record { result = c.requires.given.result; ready = ready_as c.in-Parts.is c.requires.given.ready } }

pub choose-requires : goal.choose-requires
choose-requires c =
    let r = ready_as c.in-Choice.is c.requires.given.ready in
    record { given = record { result = c.requires.given.result; ready = r }; more = frame_popped r }

pub compare-requires : goal.compare-requires
compare-requires c =
    let r = ready_as c.in-EqLeft.is c.requires.given.ready in
    record { given = record { result = c.requires.given.result; ready = r }; more = frame_popped r }

pub require-requires : goal.require-requires
require-requires c =
    let r = ready_as c.in-RequireLeft.is c.requires.given.ready in
    record { given = record { result = c.requires.given.result; ready = r }; more = frame_popped r }

pub allow-requires : goal.allow-requires
allow-requires c =
    let r = ready_as c.in-RequireRight.is c.requires.given.ready in
    let live = frame_popped r in
    record { given = record { result = c.requires.given.result; ready = r }; more = live.0; first = live.1 }

pub end_call-requires : goal.end_call-requires
end_call-requires c =
    let t = c.args.table.now in
    let e = c.args.self.now in
    let fs = e.stack.frames.items in
    let b = begun t.trees e.calls.entries in
    let f = c.args.frame.now in
    let placed : c.in-Body.place < length b = subst (IsPlaced (length b)) c.in-Body.is (All-pop (IsPlaced (length b)) (fs ++ f ∷ []) fs (Some f) refl c.requires.given.ready.stands.placed).1 in
    record { given = record { result = c.requires.given.result; ready = ready_as c.in-Body.is c.requires.given.ready }; place = omega (arith, placed, begun_count t.trees e.calls.entries) }

pub conclude-requires : goal.conclude-requires
conclude-requires c =
    let ts = c.args.table.now.trees in
    let now = c.args.now.now in
    let o = c.truth_of-outcome.ensures in
    record {
      node = subst IsNode (sym c.in-Tested.is) tt;
      given = c.requires.given;
      concludes = subst (λ f. Concludes c.args.sig.now c.args.table.now c.args.self.now f now c.truth_of-outcome.result) (sym c.in-Tested.is)
          (record {
            live = o.live;
            ends = λ call b. tested_ends (signature ts c.args.sig.now) call b (result_of ts now) (given_in ts now) (maybe_given ts now) ∙ ap (λ o. (o, b)) (ap (λ h. Value (truth h)) (sym (c.is_value.ensures ts)) ∙ sym o.outcome);
          });
    }

pub is_given-requires : goal.is_given-requires
is_given-requires c =
    record { given = c.requires.given.ready.stands.now_live; live = (frame_popped (ready_as c.in-EqRight.is c.requires.given.ready)).1 }

pub conclude-requires-in-EqRight : goal.conclude-requires-in-EqRight
conclude-requires-in-EqRight c =
    let ts = c.args.table.now.trees in
    let now = c.args.now.now in
    let o = c.truth_of-outcome-in-EqRight.ensures in
    record {
      node = subst IsNode (sym c.in-EqRight.is) tt;
      given = c.requires.given;
      concludes = subst (λ f. Concludes c.args.sig.now c.args.table.now c.args.self.now f now c.truth_of-outcome-in-EqRight.result) (sym c.in-EqRight.is)
          (record {
            live = o.live;
            ends = λ call b. right_ends (signature ts c.args.sig.now) call b (Some (tree_at ts c.in-EqRight.first)) (result_of ts now) (given_in ts now) (maybe_given ts now) ∙ ap (λ o. (o, b)) (ap (λ h. Value (truth h)) (sym c.is_given.ensures) ∙ sym o.outcome);
          });
    }

pub conclude-requires-in-EqStuck : goal.conclude-requires-in-EqStuck
conclude-requires-in-EqStuck c =
    let ts = c.args.table.now.trees in
    let now = c.args.now.now in
    let o = c.truth_of-outcome-in-EqStuck.ensures in
    record {
      node = subst IsNode (sym c.in-EqStuck.is) tt;
      given = c.requires.given;
      concludes = subst (λ f. Concludes c.args.sig.now c.args.table.now c.args.self.now f now c.truth_of-outcome-in-EqStuck.result) (sym c.in-EqStuck.is)
          (record {
            live = o.live;
            ends = λ call b. right_ends (signature ts c.args.sig.now) call b None (result_of ts now) (given_in ts now) (maybe_given ts now) ∙ ap (λ o. (o, b)) (sym o.outcome);
          });
    }

pub conclude-requires-in-RequireStuck : goal.conclude-requires-in-RequireStuck
conclude-requires-in-RequireStuck c =
    let ts = c.args.table.now.trees in
    let e = c.args.self.now in
    let now = c.args.now.now in
    record {
      node = subst IsNode (sym c.in-RequireStuck.is) tt;
      given = c.requires.given;
      concludes = subst (λ f. Concludes c.args.sig.now c.args.table.now e f now outcome.Stuck) (sym c.in-RequireStuck.is)
          (record { live = tt; ends = λ call b. missed_ends (signature ts c.args.sig.now) call b (other ts e.scope c.in-RequireStuck.id 2) (result_of ts now) (given_in ts now) (maybe_given ts now) });
    }

pub conclude-requires-in-Tail : goal.conclude-requires-in-Tail
conclude-requires-in-Tail c =
    let ts = c.args.table.now.trees in
    record {
      node = subst IsNode (sym c.in-Tail.is) tt;
      given = c.requires.given;
      concludes = subst (λ f. Concludes c.args.sig.now c.args.table.now c.args.self.now f c.args.now.now c.given_outcome.result) (sym c.in-Tail.is)
          (record {
            live = c.given_outcome.ensures.live (length ts) c.requires.given.ready.stands.now_live;
            ends = λ call b. ap (λ o. (o, b)) (sym (c.given_outcome.ensures.outcome ts));
          });
    }

pub returns-in-Parts : goal.returns-in-Parts
returns-in-Parts c =
    let k = c.args.sig.now in
    let o = c.give_parts.ensures in
    record {
      goes = subst (λ f. IfOk c.give_parts.result (Goes k c.give_parts.new.table c.give_parts.new.types c.give_parts.new.self (outcome_of_frame k c.args.table.now c.args.self.now f c.args.now.now))) (sym c.in-Parts.is) o.goes;
      extends = o.extends;
    }

pub returns-in-Choice : goal.returns-in-Choice
returns-in-Choice c =
    let k = c.args.sig.now in
    let t = c.args.table.now in
    record {
      goes = subst (λ f. IfOk c.choose.result (Goes k t c.args.types.now c.choose.new.self (outcome_of_frame k t c.args.self.now f c.args.now.now))) (sym c.in-Choice.is) c.choose.ensures;
      extends = extends_same c.requires.given.ready.held.fit;
    }

pub returns-in-EqLeft : goal.returns-in-EqLeft
returns-in-EqLeft c =
    let k = c.args.sig.now in
    let t = c.args.table.now in
    record {
      goes = subst (λ f. IfOk c.compare.result (Goes k t c.args.types.now c.compare.new.self (outcome_of_frame k t c.args.self.now f c.args.now.now))) (sym c.in-EqLeft.is) c.compare.ensures;
      extends = extends_same c.requires.given.ready.held.fit;
    }

pub returns-in-RequireLeft : goal.returns-in-RequireLeft
returns-in-RequireLeft c =
    let k = c.args.sig.now in
    let t = c.args.table.now in
    record {
      goes = subst (λ f. IfOk c.require.result (Goes k t c.args.types.now c.require.new.self (outcome_of_frame k t c.args.self.now f c.args.now.now))) (sym c.in-RequireLeft.is) c.require.ensures;
      extends = extends_same c.requires.given.ready.held.fit;
    }

pub returns-in-RequireRight : goal.returns-in-RequireRight
returns-in-RequireRight c =
    let k = c.args.sig.now in
    let t = c.args.table.now in
    record {
      goes = subst (λ f. IfOk c.allow.result (Goes k t c.args.types.now c.allow.new.self (outcome_of_frame k t c.args.self.now f c.args.now.now))) (sym c.in-RequireRight.is) c.allow.ensures;
      extends = extends_same c.requires.given.ready.held.fit;
    }

pub returns-in-Tested : goal.returns-in-Tested
returns-in-Tested c = record { goes = c.conclude.ensures; extends = extends_same c.requires.given.ready.held.fit }

pub returns-in-EqRight : goal.returns-in-EqRight
returns-in-EqRight c = record { goes = c.conclude-in-EqRight.ensures; extends = extends_same c.requires.given.ready.held.fit }

pub returns-in-EqStuck : goal.returns-in-EqStuck
returns-in-EqStuck c = record { goes = c.conclude-in-EqStuck.ensures; extends = extends_same c.requires.given.ready.held.fit }

pub returns-in-RequireStuck : goal.returns-in-RequireStuck
returns-in-RequireStuck c = record { goes = c.conclude-in-RequireStuck.ensures; extends = extends_same c.requires.given.ready.held.fit }

pub returns-in-Tail : goal.returns-in-Tail
returns-in-Tail c = record { goes = c.conclude-in-Tail.ensures; extends = extends_same c.requires.given.ready.held.fit }

pub returns-in-Body : goal.returns-in-Body
returns-in-Body c =
    let k = c.args.sig.now in
    let t = c.args.table.now in
    record {
      goes = subst (λ f. IfOk c.end_call.result (Goes k t c.args.types.now c.end_call.new.self (outcome_of_frame k t c.args.self.now f c.args.now.now))) (sym c.in-Body.is) c.end_call.ensures;
      extends = extends_same c.requires.given.ready.held.fit;
    }
