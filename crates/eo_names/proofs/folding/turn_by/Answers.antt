use Rattle.std.proofs.Common.{◌≡◌, length, Ok, ap, sym, subst, ◌∙◌, arith}
use Rattle.std.proofs.lemmas.List.{length-map}
use Rattle.eo_base.proofs.Answering.{at_exit}
use Rattle.eo_term.specs.Builds.{TallWhere}
use Rattle.eo_term.specs.Growth.{trees_in}
use Rattle.eo_term.specs.Terms.{tree_at}
use Rattle.eo_sig.specs.Reading.{read_attribute}
use Rattle.eo_names.specs.Gives.{BuildsTurn}
use Rattle.eo_names.specs.Turns.{is_tall_turn}
use Rattle.eo_names.specs.Worlds.{grouped_in, lists_in}
use Rattle.eo_names.proofs.FoldSteps.{two_joined, two_attributed}
use Rattle.eo_names.proofs.folding.turn_by.Goals as goal

pub returns-in_err-made-clause-gives : goal.returns-in_err-made-clause-gives
returns-in_err-made-clause-gives c =
    let old = c.args.table.now in
    let e = c.in_err-made.field-0.0 in
    let two : length (trees_in old c.args.args.now) ≡ 2 = omega (arith, length-map c.args.args.now (tree_at old.trees), c.if-args-eq2.true) in
    at_exit (λ r. BuildsTurn old c.group.new.table c.args.scope.now c.args.f c.args.attribute c.args.args.now r) c.from_residual.result e c.from_residual.ensures.1
    (subst (λ o. TallWhere e (is_tall_turn (grouped_in old c.args.scope.now c.args.f c.args.attribute c.args.args.now) o)) (sym (two_joined (tree_at old.trees c.args.f) (trees_in old c.args.args.now) two (read_attribute old.trees c.args.attribute))) c.in_err-made.ensures.gives)

pub returns-then-args-eq2-clause-gives : goal.returns-then-args-eq2-clause-gives
returns-then-args-eq2-clause-gives c =
    let old = c.args.table.now in
    let two : length (trees_in old c.args.args.now) ≡ 2 = omega (arith, length-map c.args.args.now (tree_at old.trees), c.if-args-eq2.true) in
    record {
      live = c.in_ok-made.ensures.gives.live;
      is = λ fold_by. two_attributed (tree_at old.trees c.args.f) (trees_in old c.args.args.now) two fold_by (lists_in old c.args.scope.now) (read_attribute old.trees c.args.attribute) ∙ ap Ok (sym c.in_ok-made.ensures.gives.tree);
    }
