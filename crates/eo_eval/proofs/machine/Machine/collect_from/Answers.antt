use Rattle.std.proofs.Common.{◌≡◌, ◌∙◌, arith, ap, sym, refl, length}
use Rattle.eo_eval.proofs.Gathered.{gathering_more, more_told}
use Rattle.eo_eval.proofs.Gathering.{more_at, next_is}
use Rattle.eo_term.specs.Arguments.{count_of}
use Rattle.eo_term.specs.Terms.{tree_at}
use Rattle.eo_stack.specs.Machine.{parts_of}
use Rattle.eo_eval.proofs.machine.Machine.collect_from.Goals as goal

pub returns-in-None-clause-next : goal.returns-in-None-clause-next
returns-in-None-clause-next c =
    next_is c.args.table.now c.loop-i.self c.args.id c.args.base c.loop-i.i c.index-parts-i-in-None.result c.args.parts.now c.requires.parts c.requires.live c.loop-i.invariant.at c.loop-i-test.true c.index-parts-i-in-None.is

pub loop-i-preserved : goal.loop-i-preserved
loop-i-preserved c =
    let k = c.args.sig.now in
    let t = c.args.table.now in
    let e = c.loop-i.self in
    let p = c.index-parts-i.result in
    let v = c.in-Some.value in
    let g = c.loop-i.invariant.gathering in
    let part = next_is t e c.args.id c.args.base c.loop-i.i p c.args.parts.now c.requires.parts c.requires.live c.loop-i.invariant.at c.loop-i-test.true c.index-parts-i.is in
    let later = record e { stack = c.collect.new.self } in
    let tree = c.in-Some.ensures.tree in
    let value = c.in-Some.ensures.value in
    let low = c.in-Some.ensures.low in
    record {
      gathering = gathering_more k t c.args.types.now e c.args.id c.args.base c.args.deepest g later p v part tree value low c.collect.ensures.frames c.in_ok-collect-in-Some.ensures.values refl refl refl refl;
      told = λ left. more_told k t c.args.types.now e c.args.id c.args.base c.args.deepest g later p v part tree value low c.collect.ensures.frames c.in_ok-collect-in-Some.ensures.values refl refl left ∙ c.loop-i.invariant.told left;
      at = more_at e c.args.base c.loop-i.i v later.stack.values.items g.within c.in_ok-collect-in-Some.ensures.values c.loop-i.invariant.at;
      table = c.loop-i.invariant.table;
      parts = c.loop-i.invariant.parts;
    }

pub returns-clause-next : goal.returns-clause-next
returns-clause-next c =
    let t = c.args.table.now in
    let parts : count_of (parts_of (tree_at t.trees c.args.id)) ≡ length c.args.parts.now = sym (ap count_of c.requires.parts) ∙ c.arguments_law.ensures.count t.trees c.args.parts.now in
    omega (arith, c.loop-i.invariant.at, c.loop-i.invariant.gathering.count, parts, c.loop-i-test.false, c.len.ensures)
