use Rattle.std.proofs.Common.{rules, ◌≡◌, ◌<◌, length, length-set, take, sym, ap, ◌∙◌, subst, arith}
use Rattle.std.proofs.lemmas.List.{length-take-le, get_or-take, get_or_default}
use Rattle.std.proofs.lemmas.Result.{err_from_is_err_and}
use Rattle.eo_term.specs.Tree.{Trees, Op, is_tall}
use Rattle.eo_term.specs.Terms.{tree_at, trees_at}
use Rattle.eo_term.specs.Arguments.{arguments_of, argument_at, count_of}
use Rattle.eo_pattern.specs.Matching.{Assignment, put, put_all}
use Rattle.eo_pattern.specs.Slots.{held}
use Rattle.eo_term.proofs.Growing.{grows_refl}
use Rattle.eo_pattern.proofs.Steps.{args_put, count_put, argument_put, set_below}
use Rattle.eo_pattern.proofs.substitution.put_op.Goals as goal
use Rattle.std.proofs.lemmas.Bool.{false_from_ne_true}

pub returns-in_default-clause-step : goal.returns-in_default-clause-step
returns-in_default-clause-step c =
    let us = c.args.table.now.trees in
    let σ : Assignment = held us c.args.subst.now in
    let ts : Trees = arguments_of (tree_at us c.args.id) in
    let within : c.loop-i.i < count_of (put_all σ ts) = omega (arith, count_put σ ts, c.requires.operator.count) in
    record {
      older = c.arg-arg.ensures.older;
      untold = search rules;
      tall = λ h.
          ap (λ u. is_tall (put σ u)) (sym c.requires.operator.tree)
          ∙ c.height_law.ensures c.args.code (put_all σ ts) c.loop-i.i within (ap is_tall (argument_put σ ts c.loop-i.i (omega (arith, c.requires.operator.count)) ∙ ap (put σ) (sym c.arg-arg.ensures.tree)) ∙ h);
    }

pub intern_op-requires-clause-args : goal.intern_op-requires-clause-args
intern_op-requires-clause-args c = λ k d l.
    let m : k < c.args.count = omega (arith, l, length-take-le c.args.count c.loop-i.args (omega (arith, c.loop-i.invariant.long, c.requires.operator.small))) in
    subst (λ v. v < length c.args.table.now.trees) (get_or_default c.loop-i.args k 0 d (omega (arith, m, c.loop-i.invariant.long, c.requires.operator.small)) ∙ sym (get_or-take c.args.count c.loop-i.args k d m)) (c.loop-i.invariant.done k (omega arith)).0

pub returns-in_err-made-clause-tall : goal.returns-in_err-made-clause-tall
returns-in_err-made-clause-tall c =
    let e = err_from_is_err_and c.from_residual.result c.from_residual.ensures.1 in
    let us = c.args.table.now.trees in
    let σ : Assignment = held us c.args.subst.now in
    let ts : Trees = arguments_of (tree_at us c.args.id) in
    let same : trees_at us (take c.args.count c.loop-i.args) ≡ put_all σ ts =
    args_put σ us c.loop-i.args ts c.args.count c.requires.operator.count (omega (arith, c.loop-i.invariant.long, c.requires.operator.small)) (λ k l. (c.loop-i.invariant.done k (omega arith)).1) in
    rw (e.1, e.2) (λ h. ap is_tall (sym (ap (Op c.args.code) same ∙ ap (put σ) c.requires.operator.tree)) ∙ c.in_err-made.ensures.tall.0 h)

pub returns-clause-step : goal.returns-clause-step
returns-clause-step c =
    let us = c.args.table.now.trees in
    let σ : Assignment = held us c.args.subst.now in
    let ts : Trees = arguments_of (tree_at us c.args.id) in
    let same : trees_at us (take c.args.count c.loop-i.args) ≡ put_all σ ts =
    args_put σ us c.loop-i.args ts c.args.count c.requires.operator.count (omega (arith, c.loop-i.invariant.long, c.requires.operator.small)) (λ k l. (c.loop-i.invariant.done k (omega arith)).1) in
    let whole : Op c.args.code (trees_at us (take c.args.count c.loop-i.args)) ≡ put σ (tree_at us c.args.id) = ap (Op c.args.code) same ∙ ap (put σ) c.requires.operator.tree in
    record {
      live = c.in_ok-made.ensures.interned.live;
      tree = c.in_ok-made.ensures.interned.tree ∙ whole;
      low = ap is_tall (sym whole) ∙ false_from_ne_true _ c.in_ok-made.ensures.tall.1;
    }

pub loop-i-preserved : goal.loop-i-preserved
loop-i-preserved c =
    let us = c.args.table.now.trees in
    let σ : Assignment = held us c.args.subst.now in
    let ts : Trees = arguments_of (tree_at us c.args.id) in
    let i = c.loop-i.invariant in
    let done = set_below (λ k v. (v < length us) × (tree_at us v ≡ put σ (argument_at ts k))) c.loop-i.args c.loop-i.i c.in-Some.put (omega (arith, i.long, c.requires.operator.small)) i.done (c.in-Some.ensures.live, c.in-Some.ensures.tree ∙ ap (put σ) c.arg-arg.ensures.tree) in
    record { long = length-set c.loop-i.args c.loop-i.i c.in-Some.put ∙ i.long; done = done }

pub returns-in_default-clause-grows : goal.returns-in_default-clause-grows
returns-in_default-clause-grows c = grows_refl c.args.table.now
