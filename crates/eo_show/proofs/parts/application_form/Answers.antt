use Rattle.std.proofs.Common.{sym, ◌∙◌, subst, refl}
use Rattle.std.specs.Prelude.{IfOk}
use Rattle.eo_sig.specs.Reading.{signature}
use Rattle.eo_term.specs.Terms.{tree_at}
use Rattle.eo_show.specs.declared.Shape.TheVariants as shape
use Rattle.eo_show.specs.Forms.{Folded, form}
use Rattle.eo_show.specs.Plan.{IsForm, first_items}
use Rattle.eo_show.proofs.FormOf.{short_form, chain_form, long_form}
use Rattle.eo_show.proofs.Kept.{same_form}
use Rattle.eo_show.proofs.parts.application_form.Goals as goal

pub returns-in-Some : goal.returns-in-Some
returns-in-Some c =
    let t = c.args.table.now in
    let S = signature t.trees c.args.sig.now in
    let u = tree_at t.trees c.args.id in
    same_form S t (Folded c.in-Some.constant (first_items c.run.result u)) (form S u) (shape.Folded c.in-Some.constant) c.in_ok-parts.parts.items (sym (short_form S u (tree_at t.trees c.args.fun) (tree_at t.trees c.args.arg) c.in-Some.constant c.run.result c.requires.tree c.in-Some.ensures (c.run.ensures ∙ c.requires.tells.run))) (record { shape = refl; parts = c.in_ok-parts.ensures })

pub returns-then-count-lt-MANY_ARGUMENTS : goal.returns-then-count-lt-MANY_ARGUMENTS
returns-then-count-lt-MANY_ARGUMENTS c =
    let t = c.args.table.now in
    let S = signature t.trees c.args.sig.now in
    let u = tree_at t.trees c.args.id in
    subst (λ w. IfOk c.chain_form.result (λ f. IsForm S t w f.shape f.parts.items)) (chain_form S u (tree_at t.trees c.args.fun) (tree_at t.trees c.args.arg) c.chain-count.result c.requires.tree c.in_default.ensures (c.chain-count.ensures ∙ c.requires.tells.chain) c.if-count-lt-MANY_ARGUMENTS.true) c.chain_form.ensures

pub returns-else-count-lt-MANY_ARGUMENTS : goal.returns-else-count-lt-MANY_ARGUMENTS
returns-else-count-lt-MANY_ARGUMENTS c =
    let t = c.args.table.now in
    let S = signature t.trees c.args.sig.now in
    let u = tree_at t.trees c.args.id in
    subst (λ w. IfOk c.plain_pair.result (λ f. IsForm S t w f.shape f.parts.items)) (long_form S u (tree_at t.trees c.args.fun) (tree_at t.trees c.args.arg) c.chain-count.result c.requires.tree c.in_default.ensures (c.chain-count.ensures ∙ c.requires.tells.chain) c.if-count-lt-MANY_ARGUMENTS.false) (c.plain_pair.ensures S)
