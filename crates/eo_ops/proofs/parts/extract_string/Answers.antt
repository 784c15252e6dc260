use Rattle.std.proofs.Common.{◌-◌, take, drop, ap}
use Rattle.std.proofs.lemmas.Int.{to_z-of_z}
use Rattle.std.specs.Int.{w128}
use Rattle.std.specs.Prelude.{FitsSigned}
use Rattle.eo_ops.specs.Operators.{Gives, Text}
use Rattle.eo_ops.proofs.Places.{part_between}
use Rattle.eo_ops.proofs.Answered.{answered_text}
use Rattle.eo_ops.proofs.parts.extract_string.Goals as goal

pub returns : goal.returns
returns c =
    let first_fits : FitsSigned w128 c.args.first = c.ranges.first in
    let last_fits : FitsSigned w128 c.args.last = c.ranges.last in
    let characters = c.as_slice-s.ensures.value in
    let start = c.places-start.result.0 in
    let end = c.places-start.result.1 in
    let range = simp (to_z-of_z, characters) at c.places-start.ensures.value in
    let between = part_between c.args.s.now c.args.first c.args.last start end range in
    answered_text c.string.result c.new.result (take (end - start) (drop start c.args.s.now)) _ c.string.ensures
    (simp characters at c.new.ensures) (ap (λ t. Gives (Text t)) between)
