use Rattle.std.proofs.Common.{◌∙◌, ◌≡◌, ℕ, sym, ap, subst}
use Rattle.std.specs.Prelude.{IfSome}
use Rattle.std.specs.Map.{lookup}
use Rattle.eo_stack.specs.Machine.{evals}
use Rattle.eo_stack.specs.Reading.{IsKnown, begun}
use Rattle.eo_stack.specs.Scopes.{entered}
use Rattle.eo_stack.specs.declared.calls.LocalKey.{LocalKey}
use Rattle.eo_stack.specs.contracts.calls.LocalKeyPartialEq.TheImpl as local_eq
use Rattle.eo_eval.proofs.Remembered.{term_known, local_known}
use Rattle.eo_eval.proofs.machine.Machine.memo_of.Goals as goal

pub returns-then-is_itself : goal.returns-then-is_itself
returns-then-is_itself c = λ S most h s.
    let ts = c.args.table.now.trees in
    let e = c.args.self.now in
    let b = begun ts e.calls.entries in
    let same : entered ts e.scope c.args.id ≡ _ = c.is_itself.ensures S b s c.if-is_itself.true in
    subst (λ o. IfSome o (IsKnown ts b (evals S most (entered ts e.scope c.args.id)))) (sym (c.copied.ensures ∙ c.get.ensures.value))
    (term_known S most ts e.scope e.calls.entries e.terms.entries e.locals.entries c.args.id h same)

pub returns : goal.returns
returns c = λ S most h s.
    let ts = c.args.table.now.trees in
    let e = c.args.self.now in
    let b = begun ts e.calls.entries in
    let key : ℕ → LocalKey = λ n. record { here = n; id = c.args.id } in
    let at : c.copied-2.result ≡ lookup (local_eq.ghosts.eq (key e.scope.here)) e.locals.entries =
    c.copied-2.ensures ∙ (c.get-2.ensures.value ∙ ap (λ n. lookup (local_eq.ghosts.eq (key n)) e.locals.entries) c.here-here.ensures) in
    subst (λ o. IfSome o (IsKnown ts b (evals S most (entered ts e.scope c.args.id)))) (sym at)
    (local_known S most ts e.scope e.calls.entries e.terms.entries e.locals.entries c.args.id h s)
