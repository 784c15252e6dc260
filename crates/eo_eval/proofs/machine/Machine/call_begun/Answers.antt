use Rattle.std.proofs.Common.{◌≡◌, ◌<◌, ◌-◌, length, subst, arith}
use Rattle.std.specs.Prelude.{IfOk}
use Rattle.eo_base.specs.Limits.{calls_limit}
use Rattle.eo_sig.specs.Reading.{signature}
use Rattle.eo_stack.specs.Machine.{calls}
use Rattle.eo_stack.specs.Reading.{begun}
use Rattle.eo_eval.specs.Ready.{Goes, called_at, told_call, told_run, waiting_in}
use Rattle.eo_stack.specs.declared.stack.Control.TheVariants as next
use Rattle.eo_eval.proofs.Beginning.{again_told}
use Rattle.eo_eval.proofs.Running.{begun_at, begun_count}
use Rattle.eo_eval.proofs.Itself.{recalls_told, recalls_stands}
use Rattle.eo_eval.proofs.machine.Machine.call_begun.Goals as goal

pub returns-in-Some-clause-goes : goal.returns-in-Some-clause-goes
returns-in-Some-clause-goes c =
    let ts = c.args.table.now.trees in
    let S = signature ts c.args.sig.now in
    let e = c.args.self.now in
    let h = c.requires.called.calling in
    record {
      told = recalls_told S calls_limit ts (begun ts e.calls.entries) e.scope e.stack.frames.items e.stack.values.items (calls S calls_limit (called_at c.args.table.now e c.args.place)) c.args.left c.in-Some.now (c.in-Some.ensures S calls_limit ts c.requires.called.calling.held.remembers);
      ready = record {
        held = h.held;
        stands = recalls_stands S calls_limit ts (begun ts e.calls.entries) e.scope e.stack.frames.items e.stack.values.items (calls S calls_limit (called_at c.args.table.now e c.args.place)) c.args.left c.in-Some.now next.Deep (c.in-Some.ensures S calls_limit ts h.held.remembers) h.waits h.stands;
      };
    }

pub returns-in-None-clause-goes : goal.returns-in-None-clause-goes
returns-in-None-clause-goes c =
    let k = c.args.sig.now in
    let t = c.args.table.now in
    let S = signature t.trees k in
    let e = c.args.self.now in
    let b = begun t.trees e.calls.entries in
    let x = called_at t e c.args.place in
    let inside : c.args.place < length b = omega (arith, c.requires.called.place, begun_count t.trees e.calls.entries) in
    let same : told_run k t e x (c.args.left - 1) ≡ told_call k t e x c.args.left = again_told S calls_limit x b (waiting_in t e) c.args.left c.requires.left (begun_at b c.args.place inside) in
    subst (λ o. IfOk c.run.result (Goes k c.run.new.table c.args.types.now c.run.new.self o)) same c.run.ensures.goes
