use Rattle.std.proofs.Common.{◌≡◌, ◌∙◌, length, sym, rules, tests}
use Rattle.eo_ops.proofs.Places.{place_of_empty, place_of_next}
use Rattle.eo_ops.proofs.texts.first_place.Goals as goal

pub returns-then-is_empty : goal.returns-then-is_empty
returns-then-is_empty c =
    let none : length c.args.t.now ≡ 0 = search (rules, tests) in
    sym (place_of_empty c.args.t.now c.args.s.now none)

pub loop-place-preserved : goal.loop-place-preserved
loop-place-preserved c =
    place_of_next c.args.t.now c.args.s.now c.loop-place.place c.loop-place-test.true
    (sym c.starts_with.ensures.value ∙ c.if-starts_with.false) c.loop-place.invariant
