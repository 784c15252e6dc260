use Rattle.std.proofs.Common.{ap, arith, length}
use Rattle.eo_term.specs.Terms.{text_at}
use Rattle.eo_lit.specs.Spelling.{string_spelling}
use Rattle.eo_show.proofs.Kept.{string_leaf, quoted_size}
use Rattle.eo_show.proofs.parts.string_form.Goals as goal

pub returns : goal.returns
returns c = λ S.
    let t = c.args.table.now in
    let x = text_at t.texts c.args.text in
    string_leaf S t c.leaf.result.shape c.leaf.result.parts.items c.leaf.ensures.shape (c.leaf.ensures.parts t) x (omega (arith, c.if-as_slice-gt-STRING_LIMIT.false, ap length c.as_slice.ensures.value, ap length c.in_ok-spelled.ensures, quoted_size (string_spelling x)))
