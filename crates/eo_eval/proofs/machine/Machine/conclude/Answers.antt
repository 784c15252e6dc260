use Rattle.std.proofs.Common.{◌≡◌, ◌∙◌, ◌∷◌, ◌++◌, [], sym, ap, subst, rules, max, reverse}
use Rattle.eo_base.specs.Limits.{calls_limit}
use Rattle.eo_sig.specs.Reading.{signature}
use Rattle.eo_stack.specs.Reading.{begun, node_of, control_of, deepest_of, depth_of}
use Rattle.eo_eval.specs.Ready.{Keeps}
use Rattle.eo_eval.proofs.Popped.{concluded_told, concluded_ready, concluded_keeps}
use Rattle.eo_eval.proofs.Same.{scope_of}
use Rattle.eo_eval.proofs.machine.Machine.conclude.Goals as goal

pub returns : goal.returns
returns c =
    let deep : c.max-deepest.result ≡ max (deepest_of c.args.frame.now) (depth_of c.args.now.now) = search rules in
    let ts = c.args.table.now.trees in
    let S = signature ts c.args.sig.now in
    let e = c.args.self.now in
    let b = begun ts e.calls.entries in
    let keeps = concluded_keeps c.args.sig.now c.args.table.now c.args.types.now e c.args.frame.now c.args.now.now c.args.outcome c.requires.node c.requires.given.result c.requires.concludes c.requires.given.ready in
    let scope = scope_of S ts b e.scope (reverse (e.stack.frames.items ++ c.args.frame.now ∷ [])) c.requires.given.ready.stands.scoped in
    record {
      told = concluded_told c.args.sig.now c.args.table.now c.args.types.now c.args.self.now c.args.frame.now c.args.now.now c.args.outcome c.requires.node c.requires.given.result c.requires.concludes c.keep.new.self c.control_after.result
          (c.in_ok-keep.ensures.work.frames ∙ c.leave.ensures.frames) (c.in_ok-keep.ensures.work.values ∙ c.leave.ensures.values) c.in_ok-keep.ensures.work.scope c.in_ok-keep.ensures.calls (c.control_after.ensures ∙ ap (control_of c.args.outcome) deep);
      ready = concluded_ready c.args.sig.now c.args.table.now c.args.types.now e c.args.frame.now c.args.now.now c.args.outcome c.requires.node c.requires.given.result c.requires.concludes c.keep.new.self c.control_after.result
          (c.in_ok-keep.ensures.work.frames ∙ c.leave.ensures.frames) (c.in_ok-keep.ensures.work.values ∙ c.leave.ensures.values) c.in_ok-keep.ensures.work.scope c.in_ok-keep.ensures.calls (c.control_after.ensures ∙ ap (control_of c.args.outcome) deep)
          (c.in_ok-keep.ensures.remembers S calls_limit c.requires.given.ready.held.remembers scope
          (subst (λ i. Keeps S calls_limit ts b e.scope i c.args.outcome c.max-deepest.result) (sym c.node.ensures) (subst (Keeps S calls_limit ts b e.scope (node_of c.args.frame.now) c.args.outcome) (sym deep) keeps)))
          c.requires.given.ready;
    }
