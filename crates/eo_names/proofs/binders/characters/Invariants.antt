use Rattle.std.proofs.Common.{◌≡◌, take}
use Rattle.eo_base.specs.Characters.{AreCharacters}
use Rattle.eo_names.proofs.binders.characters.Given as goal

-- the characters so far
abbrev pub invariant-loop-byte : goal.invariant-loop-byte
invariant-loop-byte l = record {
  value : l.characters.items ≡ take l.byte-index l.name;
  small : AreCharacters l.characters.items;
}
