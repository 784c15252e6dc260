use Rattle.std.proofs.Common.{◌≡◌, take}
use Rattle.eo_stated.proofs.checker.Checker.text.Given as goal

abbrev pub invariant-loop-number : goal.invariant-loop-number
invariant-loop-number l = l.characters.items ≡ take l.number-index l.numbers
