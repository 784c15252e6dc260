use Rattle.std.proofs.Common.{◌≡◌, refl, false}
use Rattle.std.proofs.lemmas.Result.{IfOk-weaker}
use Rattle.eo_lit.specs.Literals.{BitString}
use Rattle.eo_lit.specs.Spelling.{literal_spelling}
use Rattle.eo_term.specs.Tree.{Bits}
use Rattle.eo_show.specs.Forms.{form}
use Rattle.eo_show.specs.Members.{has_no_spelling}
use Rattle.eo_show.specs.Plan.{IsSpelled}
use Rattle.eo_show.proofs.Atoms.{literal_bytes}
use Rattle.eo_show.proofs.spelling.spell_bits.Goals as goal

pub returns : goal.returns
unfolding form
returns c = λ S.
    let u = Bits c.args.width c.args.value in
    let text = literal_spelling (BitString c.args.width c.args.value) in
    IfOk-weaker c.spell_literal.result (λ v. v.items ≡ text) (λ v. has_no_spelling S u ≡ false → IsSpelled S u v.items) (λ v h e. literal_bytes S u text v.items refl h) c.spell_literal.ensures
