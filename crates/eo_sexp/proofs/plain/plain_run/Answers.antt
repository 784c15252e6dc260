use Rattle.std.proofs.Common.{◌≡◌, true, false, get_or, take, All, sym, ap, ◌∙◌, subst, arith}
use Rattle.std.proofs.lemmas.List.Elements.{All-weaker}
use Rattle.eo_sexp.specs.declared.classes.TheConstants.{WORD}
use Rattle.eo_sexp.specs.declared.plain.TheConstants.{TEXT, QUOTED}
use Rattle.eo_sexp.specs.declared.token.Token.TheVariants as token
use Rattle.eo_sexp.specs.Token.{is_plain}
use Rattle.eo_sexp.proofs.PlainTables.{word-plain, text-plain, quoted-plain, word-stops, text-stops, closed-stops, quoted-stops}
use Rattle.eo_sexp.proofs.plain.plain_run.Goals as goal

pub returns-in-Word-clause-plain : goal.returns-in-Word-clause-plain
returns-in-Word-clause-plain c =
    subst (λ t. All (λ x. is_plain t x ≡ true) (take c.run_in.result c.args.bytes.now)) (sym c.in-Word.is)
    (All-weaker (λ x. get_or WORD x 0 ≡ 49) (λ x. is_plain token.Word x ≡ true) word-plain (take c.run_in.result c.args.bytes.now) c.run_in.ensures.run)

pub returns-in-Text-false-clause-plain : goal.returns-in-Text-false-clause-plain
returns-in-Text-false-clause-plain c =
    subst (λ t. All (λ x. is_plain t x ≡ true) (take c.run_in-in-Text-false.result c.args.bytes.now)) (sym (c.in-Text-false.is ∙ ap token.Text c.in-Text-false.closed-test))
    (All-weaker (λ x. get_or TEXT x 0 ≡ 49) (λ x. is_plain (token.Text false) x ≡ true) text-plain (take c.run_in-in-Text-false.result c.args.bytes.now) c.run_in-in-Text-false.ensures.run)

pub returns-in-Quoted-clause-plain : goal.returns-in-Quoted-clause-plain
returns-in-Quoted-clause-plain c =
    subst (λ t. All (λ x. is_plain t x ≡ true) (take c.run_in-in-Quoted.result c.args.bytes.now)) (sym c.in-Quoted.is)
    (All-weaker (λ x. get_or QUOTED x 0 ≡ 49) (λ x. is_plain token.Quoted x ≡ true) quoted-plain (take c.run_in-in-Quoted.result c.args.bytes.now) c.run_in-in-Quoted.ensures.run)

pub returns-in-Word-clause-ends : goal.returns-in-Word-clause-ends
returns-in-Word-clause-ends c = λ more.
    let x = get_or c.args.bytes.now c.run_in.result 0 in
    subst (λ t. is_plain t x ≡ false) (sym c.in-Word.is) (word-stops x (omega (arith, c.type_inv.bytes c.run_in.result)) (c.run_in.ensures.ends more))

pub returns-in-Text-false-clause-ends : goal.returns-in-Text-false-clause-ends
returns-in-Text-false-clause-ends c = λ more.
    let x = get_or c.args.bytes.now c.run_in-in-Text-false.result 0 in
    subst (λ t. is_plain t x ≡ false) (sym (c.in-Text-false.is ∙ ap token.Text c.in-Text-false.closed-test))
    (text-stops x (omega (arith, c.type_inv.bytes c.run_in-in-Text-false.result)) (c.run_in-in-Text-false.ensures.ends more))

pub returns-in-Text-true-clause-ends : goal.returns-in-Text-true-clause-ends
returns-in-Text-true-clause-ends c = λ more.
    let x = get_or c.args.bytes.now 0 0 in
    subst (λ t. is_plain t x ≡ false) (sym (c.in-Text-true.is ∙ ap token.Text c.in-Text-true.closed-test)) (closed-stops x)

pub returns-in-Quoted-clause-ends : goal.returns-in-Quoted-clause-ends
returns-in-Quoted-clause-ends c = λ more.
    let x = get_or c.args.bytes.now c.run_in-in-Quoted.result 0 in
    subst (λ t. is_plain t x ≡ false) (sym c.in-Quoted.is) (quoted-stops x (omega (arith, c.type_inv.bytes c.run_in-in-Quoted.result)) (c.run_in-in-Quoted.ensures.ends more))
