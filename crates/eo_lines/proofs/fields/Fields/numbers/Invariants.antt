use Rattle.std.proofs.Common.{◌≡◌, ◌-◌}
use Rattle.eo_lines.specs.Forms.{numbers}
use Rattle.eo_lines.specs.Reading.{short}
use Rattle.eo_lines.proofs.NumbersRead.{after}
use Rattle.eo_lines.proofs.fields.Fields.numbers.Given as goal

abbrev pub invariant-loop-i : goal.invariant-loop-i
invariant-loop-i l = numbers short l.count l.initial.self ≡ after l.found.items (numbers short (l.count - l._i) l.self)
