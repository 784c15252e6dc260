use Rattle.std.proofs.Common.{rules, ◌≡◌, ◌<◌, length, map, get_or, take, sym, ◌∙◌, subst, arith}
use Rattle.std.proofs.lemmas.List.{length-take-le, get_or-take, get_or_default}
use Rattle.eo_term.specs.Terms.{tree_at}
use Rattle.eo_term.specs.Arguments.{arguments_of}
use Rattle.eo_type.specs.Types.{Typed, settle, settle_all}
use Rattle.eo_type.specs.Outcomes.{Stops}
use Rattle.eo_type.proofs.SettleSteps.{gives_step_stop, all_settled, stop_op, settle_op_is, op_low}
use Rattle.eo_type.proofs.settling.settle_op.Goals as goal

pub returns-in_default-clause-gives : goal.returns-in_default-clause-gives
returns-in_default-clause-gives c =
    let us = c.args.table.now.trees in
    record {
      older = c.arg-arg.ensures.older;
      untold = search rules;
      stops = λ e h.
          stop_op e c.args.code (tree_at us c.args.id) (arguments_of (tree_at us c.args.id)) c.loop-i.i c.requires.operator.tree (omega (arith, c.requires.operator.count)) (λ k l. (tree_at us (get_or c.loop-i.args k 0), (c.loop-i.invariant.done k l).typed)) (subst (λ u. Stops e (settle u)) c.arg-arg.ensures.tree h);
    }

pub settled_op-requires-clause-args : goal.settled_op-requires-clause-args
settled_op-requires-clause-args c = λ k d l.
    let m : k < c.args.count = omega (arith, l, length-take-le c.args.count c.loop-i.args (omega (arith, c.loop-i.invariant.long, c.requires.operator.small))) in
    subst (λ v. v < length c.args.table.now.trees) (get_or_default c.loop-i.args k 0 d (omega (arith, m, c.loop-i.invariant.long, c.requires.operator.small)) ∙ sym (get_or-take c.args.count c.loop-i.args k d m)) (c.loop-i.invariant.done k (omega arith)).live

pub settled_op-requires-clause-low : goal.settled_op-requires-clause-low
settled_op-requires-clause-low c =
    let us = c.args.table.now.trees in
    let u = tree_at us c.args.id in
    let all : settle_all (arguments_of u) ≡ Typed (map (tree_at us) (take c.args.count c.loop-i.args)) =
    all_settled us c.loop-i.args (arguments_of u) c.args.count c.requires.operator.count (omega (arith, c.loop-i.invariant.long, c.requires.operator.small)) (λ k l. (c.loop-i.invariant.done k (omega arith)).typed) in
    op_low c.args.code u (arguments_of u) _ c.requires.operator.tree all c.requires.operator.low

pub returns-in_err-made-clause-gives : goal.returns-in_err-made-clause-gives
returns-in_err-made-clause-gives c =
    let us = c.args.table.now.trees in
    let u = tree_at us c.args.id in
    let all : settle_all (arguments_of u) ≡ Typed (map (tree_at us) (take c.args.count c.loop-i.args)) =
    all_settled us c.loop-i.args (arguments_of u) c.args.count c.requires.operator.count (omega (arith, c.loop-i.invariant.long, c.requires.operator.small)) (λ k l. (c.loop-i.invariant.done k (omega arith)).typed) in
    gives_step_stop c.args.table.now c.settled_op.new.table c.args.memo.now c.args.id _ _ c.from_residual.ensures.1 (subst (Stops c.in_err-made.field-0.0) (sym (settle_op_is c.args.code u (arguments_of u) _ c.requires.operator.tree all)) c.in_err-made.ensures.gives)

pub returns-clause-gives : goal.returns-clause-gives
returns-clause-gives c =
    let us = c.args.table.now.trees in
    let u = tree_at us c.args.id in
    let all : settle_all (arguments_of u) ≡ Typed (map (tree_at us) (take c.args.count c.loop-i.args)) =
    all_settled us c.loop-i.args (arguments_of u) c.args.count c.requires.operator.count (omega (arith, c.loop-i.invariant.long, c.requires.operator.small)) (λ k l. (c.loop-i.invariant.done k (omega arith)).typed) in
    record { live = c.in_ok-made.ensures.gives.live; typed = settle_op_is c.args.code u (arguments_of u) _ c.requires.operator.tree all ∙ c.in_ok-made.ensures.gives.typed }
