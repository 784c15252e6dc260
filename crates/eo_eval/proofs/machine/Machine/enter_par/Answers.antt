use Rattle.std.proofs.Common.{◌≡◌, ◌∙◌, Some, None, sym, refl}
use Rattle.eo_base.specs.Limits.{calls_limit}
use Rattle.eo_term.specs.Terms.{tree_at}
use Rattle.eo_sig.specs.Reading.{signature}
use Rattle.eo_stack.specs.Evaluation.{Value, Stuck}
use Rattle.eo_stack.specs.Reading.{begun}
use Rattle.eo_stack.specs.Scopes.{slot_at}
use Rattle.eo_eval.proofs.Entered.{entered_slot, entered_free, slot_value}
use Rattle.eo_eval.proofs.Itself.{value_told, value_stands, value_entered, free_entered, stuck_told, stuck_stands}
use Rattle.eo_eval.proofs.machine.Machine.enter_par.Goals as goal

pub returns-in-Some : goal.returns-in-Some
returns-in-Some c =
    let ts = c.args.table.now.trees in
    let S = signature ts c.args.sig.now in
    let e = c.args.self.now in
    let b = begun ts e.calls.entries in
    let fs = e.stack.frames.items in
    let vs = e.stack.values.items in
    let s = c.requires.ready.stands in
    let v = c.in-Some.value in
    let slot : slot_at e.scope c.args.i ≡ Some v = sym c.slot.ensures ∙ c.in-Some.is in
    let live = slot_value ts e.scope c.args.i v s.slots_live slot in
    let h = value_entered S calls_limit ts e.scope c.args.id v (entered_slot ts e.scope c.args.id c.args.i v c.requires.parameter slot) live.1 (c.laws.ensures.low v live.0) in
    record {
      told = value_told S calls_limit ts b e.scope fs vs c.args.id c.args.left (Value (tree_at ts v)) h v refl;
      ready = record { held = c.requires.ready.held; stands = value_stands S calls_limit ts b e.scope fs vs c.args.id c.args.left (Value (tree_at ts v)) h v refl live.0 s };
    }

pub returns-in-None : goal.returns-in-None
returns-in-None c =
    let ts = c.args.table.now.trees in
    let S = signature ts c.args.sig.now in
    let e = c.args.self.now in
    let b = begun ts e.calls.entries in
    let fs = e.stack.frames.items in
    let vs = e.stack.values.items in
    let s = c.requires.ready.stands in
    let slot : slot_at e.scope c.args.i ≡ None = sym c.slot.ensures ∙ c.in-None.is in
    record {
      told = stuck_told S calls_limit ts b e.scope fs vs c.args.id c.args.left Stuck (free_entered S calls_limit ts e.scope c.args.id c.args.i (entered_free ts e.scope c.args.id c.args.i c.requires.parameter slot)) refl;
      ready = record { held = c.requires.ready.held; stands = stuck_stands S calls_limit ts b e.scope fs vs c.args.id c.args.left Stuck (free_entered S calls_limit ts e.scope c.args.id c.args.i (entered_free ts e.scope c.args.id c.args.i c.requires.parameter slot)) refl s };
    }
