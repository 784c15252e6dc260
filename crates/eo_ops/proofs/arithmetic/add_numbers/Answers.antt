use Rattle.std.proofs.Common.{◌+ℤ◌}
use Rattle.std.proofs.lemmas.Int.{to_z-of_z}
use Rattle.std.specs.Int.{w128}
use Rattle.std.specs.Prelude.{FitsSigned}
use Rattle.eo_ops.proofs.Answered.{answered_number}
use Rattle.eo_ops.proofs.arithmetic.add_numbers.Goals as goal

pub returns : goal.returns
returns c =
    let a_fits : FitsSigned w128 c.args.a = c.ranges.a in
    let b_fits : FitsSigned w128 c.args.b = c.ranges.b in
    answered_number c.number.result c.checked_add.result (c.args.a +ℤ c.args.b) c.number.ensures (simp to_z-of_z at c.checked_add.ensures)
