use Rattle.std.proofs.Common.{◌≡◌, true, nat_le, sym, refl, arith, rules, tests}
use Rattle.eo_base.specs.Characters.{greatest_character}
use Rattle.eo_lit.proofs.strings.character_of.Goals as goal

pub returns-clause-value : goal.returns-clause-value
returns-clause-value c =
    let test : nat_le c.in_ok-character.character greatest_character ≡ true = search (rules, tests) in
    rw (sym c.in_ok-character.ensures, test) refl

pub returns-clause-within : goal.returns-clause-within
returns-clause-within c = (omega (arith, c.if-character-gt-GREATEST_CHARACTER.false), refl)
