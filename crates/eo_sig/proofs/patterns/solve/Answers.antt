use Rattle.std.proofs.Common.{◌≡◌, ℕ, suc, ◌-◌, ◌<◌, ◌||◌, length, sym, ap, ◌∙◌, subst, arith}
use Rattle.eo_term.specs.Tree.{occurs_openly}
use Rattle.eo_term.specs.Terms.{tree_at}
use Rattle.eo_sig.specs.declared.records.Param.{Param}
use Rattle.eo_term.specs.ParamSet.{has, AddsAll}
use Rattle.eo_sig.proofs.Solving.{later, step_taken, step_left}
use Rattle.eo_sig.proofs.patterns.solve.Goals as goal

pub loop-i-preserved-then-has : goal.loop-i-preserved-then-has
loop-i-preserved-then-has c =
    let k : ℕ = c.loop-i.i - 1 in
    let one : c.loop-i.i ≡ suc k = omega (arith, c.loop-i-test.true) in
    let within : k < length c.args.params.now = omega (arith, c.loop-i-test.true, c.loop-i.invariant.0) in
    let adds : AddsAll (λ j. occurs_openly j (tree_at c.args.table.now.trees c.index-params-i.result.ty)) c.loop-i.known c.add_all.new.self =
    subst (λ (p : Param). AddsAll (λ j. occurs_openly j (tree_at c.args.table.now.trees p.ty)) c.loop-i.known c.add_all.new.self) (sym c.index-params-i.is)
    (λ j. c.add_all.ensures j ∙ ap (λ b. has c.loop-i.known j || b) (c.open_parameters.ensures j)) in (
      omega (arith, within),
      λ patterns h. step_taken patterns c.args.table.now.trees c.args.params.now k c.index-params-i.result within c.index-params-i.is c.loop-i.known c.add_all.new.self
          (subst (λ n. (j : ℕ) → has c.loop-i.known j ≡ later patterns c.args.table.now.trees c.args.params.now n j) one (c.loop-i.invariant.1 patterns h)) (sym c.has.ensures ∙ c.if-has.true) adds,
    )

pub loop-i-preserved : goal.loop-i-preserved
loop-i-preserved c =
    let k : ℕ = c.loop-i.i - 1 in
    let one : c.loop-i.i ≡ suc k = omega (arith, c.loop-i-test.true) in
    let within : k < length c.args.params.now = omega (arith, c.loop-i-test.true, c.loop-i.invariant.0) in (
      omega (arith, within),
      λ patterns h. step_left patterns c.args.table.now.trees c.args.params.now k c.index-params-i.result within c.index-params-i.is c.loop-i.known
          (subst (λ n. (j : ℕ) → has c.loop-i.known j ≡ later patterns c.args.table.now.trees c.args.params.now n j) one (c.loop-i.invariant.1 patterns h)) (sym c.has.ensures ∙ c.if-has.false),
    )
