use Rattle.std.proofs.Common.{◌∙◌, ◌<◌, length, sym, ap, Some, rules, tests}
use Rattle.eo_lit.proofs.HexDigits.{hex_value, value_if_ok, none_if_err}
use Rattle.eo_lit.proofs.hexadecimal.hexadecimal.Goals as goal

pub returns-in_err-ok : goal.returns-in_err-ok
returns-in_err-ok c =
    let some : 0 < length c.args.digits.now = search (rules, tests) in
    let value = hex_value c.args.digits.now c.zeros_before-padded.result c.decode_to_slice.new.out c.decode_to_slice.result some c.requires (search rules) c.zeros_before-padded.ensures c.decode_to_slice.ensures.value in
    c.from_residual.ensures ∙ sym (none_if_err _ _ c.decode_to_slice.result value (sym c.ok.ensures.value ∙ c.in_err-ok.was))

pub returns : goal.returns
returns c =
    let some : 0 < length c.args.digits.now = search (rules, tests) in
    let value = hex_value c.args.digits.now c.zeros_before-padded.result c.decode_to_slice.new.out c.decode_to_slice.result some c.requires (search rules) c.zeros_before-padded.ensures c.decode_to_slice.ensures.value in
    ap (λ n. Some n) c.from_be_bytes.ensures ∙ sym (value_if_ok _ _ c.decode_to_slice.result c.in_ok-ok.field-0 value (sym c.ok.ensures.value ∙ c.in_ok-ok.was))
