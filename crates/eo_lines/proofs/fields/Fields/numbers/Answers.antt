use Rattle.std.proofs.Common.{rules, ◌≡◌, ◌-◌, ◌+◌, suc, None, Some, arith, sym, ◌∙◌}
use Rattle.eo_lines.specs.Forms.{field}
use Rattle.eo_lines.specs.Reading.{short}
use Rattle.eo_lines.proofs.NumbersRead.{numbers_none, numbers_more}
use Rattle.eo_lines.proofs.fields.Fields.numbers.Goals as goal

pub returns-in_default : goal.returns-in_default
returns-in_default c =
    let s : c.args.count - c.loop-i._i ≡ suc (c.args.count - (c.loop-i._i + 1)) = omega arith in
    let e : None ≡ field short c.loop-i.self = search rules in
    numbers_none (c.args.count - (c.loop-i._i + 1)) c.loop-i.found.items c.loop-i.self e ∙ sym (rw s at c.loop-i.invariant)

pub loop-i-preserved : goal.loop-i-preserved
loop-i-preserved c =
    let s : c.args.count - c.loop-i._i ≡ suc (c.args.count - (c.loop-i._i + 1)) = omega arith in
    let e : Some (c.in-Some.number, c.number.new.self) ≡ field short c.loop-i.self = search rules in
    rw c.in_ok-push.ensures.items (rw s at c.loop-i.invariant
    ∙ numbers_more (c.args.count - (c.loop-i._i + 1)) c.loop-i.found.items c.in-Some.number c.loop-i.self c.number.new.self e)
