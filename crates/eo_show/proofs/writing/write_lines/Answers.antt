use Rattle.std.proofs.Common.{◌<◌, ◌≤◌, ℕ, Vec, Global, length, sym, ◌∙◌, ap, arith}
use Rattle.std.proofs.lemmas.List.{length-map}
use Rattle.eo_sig.specs.Reading.{signature}
use Rattle.eo_show.specs.Plan.{member_tree, member_trees}
use Rattle.eo_show.proofs.WrittenLines.{next-line, skipped-line, no-line}
use Rattle.eo_show.proofs.writing.write_lines.Goals.{then-numbers-place-ne0+in_ok-write_line, else-numbers-place-ne0}
use Rattle.eo_show.proofs.writing.write_lines.Goals as goal

pub loop-place-preserved : goal.loop-place-preserved
loop-place-preserved c = λ named names.
    let t = c.args.table.now in
    let S = signature t.trees c.args.sig.now in
    let ms = c.args.members.now.found.keys in
    let all = member_trees t ms in
    let i = c.loop-place.place in
    let within : i < length ms = omega (arith, c.loop-place-test.true, c.len-place-end.ensures) in
    let lt : i < length all = omega (arith, within, length-map ms (member_tree t)) in
    let has : i < length c.args.numbers.now = omega (arith, within, c.requires.numbers) in
    elim c.if-numbers-place-ne0.branch [
      | then-numbers-place-ne0+in_ok-write_line w ↦
          next-line S named all c.args.numbers.now i c.loop-place.out.items c.if-numbers-place-ne0.out.items lt has (omega (arith, w.if-numbers-place-ne0.true)) (ap (λ (v : Vec ℕ Global). v.items) w.out-is ∙ w.in_ok-write_line.ensures named names) ∙ c.loop-place.invariant named names
      | else-numbers-place-ne0 w ↦
          skipped-line S named all c.args.numbers.now i c.loop-place.out.items c.if-numbers-place-ne0.out.items lt has w.if-numbers-place-ne0.false (ap (λ (v : Vec ℕ Global). v.items) w.out-is) ∙ c.loop-place.invariant named names
    ]

pub returns : goal.returns
returns c = λ named names.
    let t = c.args.table.now in
    let S = signature t.trees c.args.sig.now in
    let ms = c.args.members.now.found.keys in
    let all = member_trees t ms in
    let i = c.loop-place.place in
    let past : length all ≤ i = omega (arith, c.loop-place-test.false, c.len-place-end.ensures, length-map ms (member_tree t)) in
    sym (no-line S named all c.args.numbers.now i c.loop-place.out.items past) ∙ c.loop-place.invariant named names
