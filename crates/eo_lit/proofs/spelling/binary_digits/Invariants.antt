use Rattle.std.proofs.Common.{◌≡◌, ◌++◌, ◌-◌, ◌/◌, ◌^◌, string_bytes, codes}
use Rattle.eo_lit.specs.Spelling.{bits}
use Rattle.eo_lit.proofs.spelling.binary_digits.Given as goal

abbrev pub invariant-loop-written : goal.invariant-loop-written
invariant-loop-written l = string_bytes l.text ≡ codes "#b" ++ bits l.written (l.value / 2 ^ (l.width - l.written))
