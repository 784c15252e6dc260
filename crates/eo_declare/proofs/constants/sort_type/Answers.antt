use Rattle.std.proofs.Common.{◌≡◌, ◌+◌, suc, arith, ap, ◌∙◌}
use Rattle.eo_term.proofs.Growing.{grows_refl, grows_on}
use Rattle.eo_term.specs.Growth.{tree_in}
use Rattle.eo_term.specs.Tree.{Arr, height, type_tree}
use Rattle.eo_declare.specs.Declarations.{sort_type}
use Rattle.eo_declare.proofs.BoundLemmas.{type-is-first}
use Rattle.eo_declare.proofs.ConstantLemmas.{sort-height}
use Rattle.eo_declare.proofs.constants.sort_type.Goals as goal

pub sort_over-requires-clause-low : goal.sort_over-requires-clause-low
sort_over-requires-clause-low c =
    let high : height (tree_in c.loop.table c.loop.made) ≡ suc c.loop.counter = ap height c.loop.invariant.tree ∙ sort-height c.loop.counter in
    omega (arith, high, c.loop-test.true, c.ranges.arity.fits)

pub loop-preserved : goal.loop-preserved
loop-preserved c =
    let v = c.loop.invariant in
    let next : suc c.loop.counter ≡ c.loop.counter + 1 = omega arith in
    record {
      live = c.in_ok-made.ensures.makes.live;
      tree = c.in_ok-made.ensures.makes.tree ∙ ap (Arr type_tree) v.tree ∙ ap sort_type next;
      grows = grows_on c.args.table.now c.loop.table c.sort_over.new.table v.grows c.in_ok-made.ensures.grows;
    }

pub returns-clause-makes : goal.returns-clause-makes
returns-clause-makes c =
    let done : c.loop.counter ≡ c.args.arity = omega (arith, c.loop-test.false, c.loop.auto.counter-end) in
    record { live = c.loop.invariant.live; tree = c.loop.invariant.tree ∙ ap sort_type done }

pub loop-init : goal.loop-init
loop-init c =
    let t = c.args.table.now in
    let first = type-is-first t.trees c.laws.ensures.first in
    record { live = first.0; tree = first.1; grows = grows_refl t }

pub returns-in_err-made-clause-grows : goal.returns-in_err-made-clause-grows
returns-in_err-made-clause-grows c = grows_on c.args.table.now c.loop.table c.sort_over.new.table c.loop.invariant.grows c.in_err-made.ensures.grows
