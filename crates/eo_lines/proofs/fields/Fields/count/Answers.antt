use Rattle.std.proofs.Common.{◌<◌, ◌+◌, ◌^◌, length, arith, subst}
use Rattle.eo_lines.proofs.NumbersRead.{counted, left_short}
use Rattle.eo_lines.proofs.fields.Fields.count.Goals as goal

pub returns : goal.returns
returns c =
    let left = c.self.inside in
    let few : length left.rest.now + 1 < 2 ^ 64 = omega (arith, c.self.told.1) in
    counted c.number_of.result c.in_ok-field.field.now c.args.self.now c.take.new.self c.in_ok-field.ensures
    (subst (λ fs. length fs < 2 ^ 64) c.self.view_is (left_short left.ended left.rest.now few)) c.number_of.ensures
