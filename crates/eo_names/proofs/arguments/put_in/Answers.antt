use Rattle.std.proofs.Common.{◌<◌, length, ap, subst, ◌∙◌, arith}
use Rattle.std.specs.Prelude.{option_map}
use Rattle.eo_base.proofs.Elements.{all_at}
use Rattle.eo_pattern.specs.Matching.{put}
use Rattle.eo_pattern.specs.Slots.{held}
use Rattle.eo_term.specs.Terms.{tree_at}
use Rattle.eo_names.proofs.UsageLemmas.{none_held, assigned, all_held}
use Rattle.eo_term.specs.Builds.{Builds}
use Rattle.eo_names.proofs.Giving.{builds_put}
use Rattle.eo_names.proofs.arguments.put_in.Goals as goal

pub loop-i-init : goal.loop-i-init
loop-i-init c =
    let ts = c.args.table.now.trees in
    record {
      room = c.in_ok-reserve.ensures.pars;
      below = c.reserve.ensures.below (length ts) (c.new-values.ensures.below (length ts));
      held = λ j. (λ k. c.reserve.ensures.held ts k j) ∙ ap (option_map (tree_at ts)) (none_held c.new-values.result.values c.new-values.ensures.empty j);
    }

pub loop-i-preserved : goal.loop-i-preserved
loop-i-preserved c =
    let ts = c.args.table.now.trees in
    let args = c.args.args.now in
    let v = c.loop-i.invariant in
    let i = c.loop-i.i in
    let a = c.index-args-i.result in
    let live : a < length ts = all_at (λ j. j < length ts) args i a c.requires.args (omega arith) c.index-args-i.is in
    record {
      room = omega (arith, v.room, c.put.ensures.room);
      below = c.put.ensures.below (length ts) v.below live;
      held = λ j. (λ k. c.put.ensures.held ts k j) ∙ assigned ts args i a (held ts c.loop-i.values) (omega arith) c.index-args-i.is v.held j;
    }

pub returns-clause-gives : goal.returns-clause-gives
returns-clause-gives c =
    let ts = c.args.table.now.trees in
    let all = all_held ts c.args.args.now c.loop-i.i (omega arith) (held ts c.loop-i.values) c.loop-i.invariant.held in
    subst (Builds c.substitute.new.table c.substitute.result) (ap (λ σ. put σ (tree_at ts c.args.tree)) all)
    (builds_put _ ts c.args.tree c.substitute.new.table c.substitute.result c.substitute.ensures.made c.substitute.ensures.tall)
