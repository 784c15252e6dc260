use Rattle.std.proofs.Common.{◌≡◌, ◌-◌, ◌^◌, ◌%◌, Some, length, drop, take, ap, sym, ◌∙◌, arith}
use Rattle.std.specs.Prelude.{option_map}
use Rattle.std.proofs.lemmas.List.{take_all, length-drop}
use Rattle.eo_lit.specs.Literals.{numeral}
use Rattle.eo_term.specs.Tree.{Bits}
use Rattle.eo_elab.proofs.BitLemmas.{indexed_some}
use Rattle.eo_elab.proofs.bits.bits_named.Goals as goal

pub returns-clause-value : goal.returns-clause-value
returns-clause-value c =
    let name = c.args.name.now in
    let digits : take (length name - 2) (drop 2 name) ≡ drop 2 name = take_all (length name - 2) (drop 2 name) (omega (arith, length-drop 2 name)) in
    ap (λ v. Some (Bits c.args.width v)) c.last_of-value.ensures.value
    ∙ sym (indexed_some c.args.width name c.in_ok-last_bits.field-0 c.requires.some c.requires.few (sym c.begins_with_bv.ensures.value ∙ c.if-not-begins_with_bv.false)
    (c.in_ok-last_bits.ensures ∙ ap (λ ds. option_map (λ n. n % 2 ^ 128) (numeral ds)) digits))
