use Rattle.std.proofs.Common.{◌≡◌, ◌∙◌, ◌-◌, ◌≤◌, sym, ap, Some, List, ℕ, [], ◌∷◌, ◌++◌, length, drop, take, option_map, arith}
use Rattle.std.proofs.lemmas.Grind.{common_steps}
use Rattle.std.proofs.lemmas.List.{take_all, length-drop}
use Rattle.std.proofs.lemmas.List.Elements.{All-push}
use Rattle.eo_base.specs.Characters.{greatest_character}
use Rattle.eo_lit.specs.Literals.{string_value, characters}
use Rattle.eo_lit.proofs.Characters.{characters-next, characters-none, characters-end}
use Rattle.eo_lit.proofs.strings.read_string.Goals as goal

pub returns-in_default-character_at-clause-bad : goal.returns-in_default-character_at-clause-bad
unfolding string_value
returns-in_default-character_at-clause-bad c =
    let front = c.loop-first.characters.items in
    let so_far = rw c.in-Some.ensures.cases.0 at c.loop-first.invariant.read_so_far in
    λ _. sym so_far ∙ characters-none front c.in-Some.first.now c.in-Some.after.now (sym c.in_default-character_at.ensures.value)

pub loop-first-preserved : goal.loop-first-preserved
loop-first-preserved c =
    let front = c.loop-first.characters.items in
    let after = c.in-Some.after.now in
    let character = c.in-Some-character_at.spelled.character in
    let more = c.in-Some-character_at.spelled.more in
    let so_far = rw c.in-Some.ensures.cases.0 at c.loop-first.invariant.read_so_far in
    let next = characters-next front c.in-Some.first.now after character more (sym c.in-Some-character_at.ensures.value) in
    let added : c.push.new.self.items ≡ front ++ character ∷ [] = rw (sym c.in_ok-map_err.ensures.variant) at c.push.ensures.items in
    let behind : take (length after - more) (drop more after) ≡ drop more after = take_all (length after - more) (drop more after) (omega (arith, length-drop more after)) in
    let small : character ≤ greatest_character = c.in-Some-character_at.ensures.within.0 in
    record {
      read_so_far = ap (λ (xs : List ℕ). option_map (λ (cs : List ℕ). xs ++ cs) (characters 0 (take (length after - more) (drop more after)))) added ∙ rw behind (sym next ∙ so_far);
      are_characters = rw added (All-push (λ c. c ≤ greatest_character) front character c.loop-first.invariant.are_characters small);
    }

pub returns-clause-value : goal.returns-clause-value
unfolding string_value
returns-clause-value c =
    let front = c.loop-first.characters.items in
    let value : string_value c.args.body.now ≡ Some front =
    characters-end front c.loop-first.rest.now (string_value c.args.body.now) c.in_default.ensures.cases c.loop-first.invariant.read_so_far in
    grind (arith, common_steps)
