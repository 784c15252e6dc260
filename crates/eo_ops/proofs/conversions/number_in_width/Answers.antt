use Rattle.std.proofs.lemmas.Int.{to_z-of_z}
use Rattle.std.specs.Int.{w128}
use Rattle.std.specs.Prelude.{FitsSigned}
use Rattle.eo_ops.proofs.Answered.{in_width_of}
use Rattle.eo_ops.proofs.conversions.number_in_width.Goals as goal

pub returns : goal.returns
returns c =
    let width_fits : FitsSigned w128 c.args.width = c.ranges.width in
    let n_fits : FitsSigned w128 c.args.n = c.ranges.n in
    let answers = simp (to_z-of_z, c.cast_unsigned.ensures) at c.in_width.ensures in
    rw (in_width_of c.args.width c.args.n n_fits) at answers
