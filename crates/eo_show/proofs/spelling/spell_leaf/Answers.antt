use Rattle.std.proofs.Common.{◌≡◌, subst, sym}
use Rattle.std.proofs.lemmas.Result.{IfOk-weaker}
use Rattle.eo_lit.specs.Spelling.{string_spelling}
use Rattle.eo_sexp.specs.Printing.{in_quotes}
use Rattle.eo_term.specs.Terms.{text_at}
use Rattle.eo_sig.specs.Reading.{signature}
use Rattle.eo_show.specs.Plan.{IsSpelled, member_tree}
use Rattle.eo_show.proofs.Atoms.{string_bytes}
use Rattle.eo_show.proofs.spelling.spell_leaf.Goals as goal

pub returns-in-Text : goal.returns-in-Text
returns-in-Text c =
    let t = c.args.table.now in
    let S = signature t.trees c.args.sig.now in
    IfOk-weaker c.spell_string.result (λ v. v.items ≡ in_quotes (string_spelling (text_at t.texts c.in-Text.text))) (λ v. IsSpelled S (member_tree t c.args.member.now) v.items) (λ v h. subst (λ m. IsSpelled S (member_tree t m) v.items) (sym c.in-Text.is) (string_bytes S (text_at t.texts c.in-Text.text) v.items h)) c.spell_string.ensures
