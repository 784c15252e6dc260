use Rattle.std.proofs.Common.{◌≡◌, ◌++◌, length, option_map, List, ℕ}
use Rattle.eo_base.specs.Characters.{AreCharacters}
use Rattle.eo_lit.specs.Literals.{characters}
use Rattle.eo_lit.proofs.strings.read_string.Given as goal

abbrev pub invariant-loop-first : goal.invariant-loop-first
invariant-loop-first l = record {
  read_so_far : option_map (λ (cs : List ℕ). l.characters.items ++ cs) (characters 0 l.rest) ≡ characters 0 l.body;
  are_characters : AreCharacters l.characters.items;
}

abbrev pub decreases-loop-first : goal.decreases-loop-first
decreases-loop-first l = length l.rest
