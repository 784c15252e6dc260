use Rattle.eo_base.specs.Characters.{AreCharacters}
use Rattle.test_ops.proofs.tests.characters.Given as goal

abbrev pub invariant-loop-byte : goal.invariant-loop-byte
invariant-loop-byte l = AreCharacters l.characters.items
