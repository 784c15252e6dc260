use Rattle.std.proofs.Common.{◌∙◌, reverse, sym, refl}
use Rattle.eo_base.specs.Limits.{calls_limit}
use Rattle.eo_term.specs.Terms.{tree_at}
use Rattle.eo_sig.specs.Reading.{signature}
use Rattle.eo_stack.specs.Evaluation.{Value}
use Rattle.eo_stack.specs.Machine.{evals}
use Rattle.eo_stack.specs.Reading.{begun}
use Rattle.eo_stack.specs.Scopes.{entered}
use Rattle.eo_stack.specs.declared.stack.Control.TheVariants as next
use Rattle.eo_eval.proofs.Entered.{entered_value}
use Rattle.eo_eval.proofs.Itself.{value_told, value_stands, value_entered, recalls_told, recalls_stands}
use Rattle.eo_stack.proofs.Unchanged.{extends_same}
use Rattle.eo_eval.proofs.Same.{scope_of}
use Rattle.eo_eval.proofs.machine.Machine.enter.Goals as goal

pub returns-then-is_value-clause-goes : goal.returns-then-is_value-clause-goes
returns-then-is_value-clause-goes c =
    let ts = c.args.table.now.trees in
    let S = signature ts c.args.sig.now in
    let e = c.args.self.now in
    let b = begun ts e.calls.entries in
    let fs = e.stack.frames.items in
    let vs = e.stack.values.items in
    let s = c.requires.ready.stands in
    let i = c.args.id in
    let value = sym c.is_value.ensures.value ∙ c.if-is_value.true in
    let h = value_entered S calls_limit ts e.scope i i (entered_value ts e.scope i value) value (c.is_value.ensures.low i s.now_live) in
    record {
      told = value_told S calls_limit ts b e.scope fs vs i c.args.left (Value (tree_at ts i)) h i refl;
      ready = record { held = c.requires.ready.held; stands = value_stands S calls_limit ts b e.scope fs vs i c.args.left (Value (tree_at ts i)) h i refl s.now_live s };
    }

pub returns-in-Some-clause-goes : goal.returns-in-Some-clause-goes
returns-in-Some-clause-goes c =
    let ts = c.args.table.now.trees in
    let S = signature ts c.args.sig.now in
    let e = c.args.self.now in
    let b = begun ts e.calls.entries in
    let fs = e.stack.frames.items in
    let vs = e.stack.values.items in
    let s = c.requires.ready.stands in
    let F = evals S calls_limit (entered ts e.scope c.args.id) in
    let recalls = c.in-Some.ensures S calls_limit c.requires.ready.held.remembers (scope_of S ts b e.scope (reverse fs) s.scoped) in
    record {
      told = recalls_told S calls_limit ts b e.scope fs vs F c.args.left c.in-Some.known recalls;
      ready = record { held = c.requires.ready.held; stands = recalls_stands S calls_limit ts b e.scope fs vs F c.args.left c.in-Some.known (next.Eval c.args.id c.args.left) recalls s.waits s };
    }

pub returns-then-is_value-clause-extends : goal.returns-then-is_value-clause-extends
returns-then-is_value-clause-extends c = extends_same c.requires.ready.held.fit

pub returns-in-Some-clause-extends : goal.returns-in-Some-clause-extends
returns-in-Some-clause-extends c = extends_same c.requires.ready.held.fit
