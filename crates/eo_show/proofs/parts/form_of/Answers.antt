use Rattle.std.proofs.Common.{sym, subst}
use Rattle.eo_sig.specs.Reading.{signature}
use Rattle.eo_show.specs.Plan.{member_tree, GivesForm}
use Rattle.eo_show.proofs.parts.form_of.Goals as goal

pub returns-in-Text : goal.returns-in-Text
returns-in-Text c =
    let t = c.args.table.now in
    let S = signature t.trees c.args.sig.now in
    subst (λ m. GivesForm S t (member_tree t m) c.string_form.result) (sym c.in-Text.is) (c.string_form.ensures S)
