use Rattle.std.proofs.Common.{◌≡◌, ◌∙◌, ◌+◌, ◌-◌, ◌/◌, ◌%◌, ◌^◌, [], ◌∷◌, ◌++◌, string_bytes, codes, arith}
use Rattle.std.proofs.lemmas.List.{append_assoc}
use Rattle.std.specs.Prelude.{encode_utf8}
use Rattle.eo_lit.specs.Spelling.{bits}
use Rattle.eo_lit.proofs.Spellings.{bits-next}
use Rattle.eo_lit.proofs.spelling.binary_digits.Goals as goal

pub loop-written-preserved : goal.loop-written-preserved
loop-written-preserved c =
    let written = c.loop-written.written in
    let width = c.args.width in
    let value = c.args.value in
    let digit = 48 + value / 2 ^ (width - written - 1) % 2 in
    let is = c.binary_digit.ensures in
    let ascii : encode_utf8 c.binary_digit.result ≡ c.binary_digit.result ∷ [] = c.push.ensures.ascii (omega arith) in
    let bytes : string_bytes c.push.new.self ≡ string_bytes c.loop-written.text ++ encode_utf8 c.binary_digit.result = c.in_ok-push.ensures.bytes in
    let next = bits-next width written value c.loop-written-test.true in
    let so_far = c.loop-written.invariant in
    bytes ∙ rw (ascii, is, so_far, next) (append_assoc (codes "#b") (bits written (value / 2 ^ (width - written))) (digit ∷ []))
