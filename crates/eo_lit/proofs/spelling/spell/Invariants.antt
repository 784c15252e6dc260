use Rattle.std.proofs.Common.{◌≡◌, take, flat_map, string_bytes}
use Rattle.eo_lit.specs.Spelling.{character_spelling}
use Rattle.eo_lit.proofs.spelling.spell.Given as goal

abbrev pub invariant-loop-character : goal.invariant-loop-character
invariant-loop-character l = string_bytes l.text ≡ flat_map character_spelling (take l.character-index l.characters)
