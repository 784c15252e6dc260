use Rattle.std.proofs.Common.{◌∙◌, ℕ, sym, ap, subst}
use Rattle.indexmap.specs.IndexMap.{insert_entry}
use Rattle.eo_stack.specs.Reading.{Remembers, begun}
use Rattle.eo_stack.specs.declared.calls.LocalKey.{LocalKey}
use Rattle.eo_stack.specs.contracts.calls.LocalKeyPartialEq.TheImpl as local_eq
use Rattle.eo_eval.proofs.Remembered.{term_remembered, local_remembered}
use Rattle.eo_eval.proofs.machine.Machine.remember.Goals as goal

pub returns-then-is_itself-clause-remembers : goal.returns-then-is_itself-clause-remembers
returns-then-is_itself-clause-remembers c = λ S most h s known.
    let ts = c.args.table.now.trees in
    let e = c.args.self.now in
    subst (λ es. Remembers S most ts e.calls.entries es e.locals.entries) (sym c.in_ok-insert.ensures.entries)
    (term_remembered S most ts e.scope e.calls.entries e.terms.entries e.locals.entries c.args.id h c.args.known c.requires (c.is_itself.ensures S (begun ts e.calls.entries) s c.if-is_itself.true) known)

pub returns-clause-remembers : goal.returns-clause-remembers
returns-clause-remembers c = λ S most h s known.
    let ts = c.args.table.now.trees in
    let e = c.args.self.now in
    let key : ℕ → LocalKey = λ n. record { here = n; id = c.args.id } in
    subst (Remembers S most ts e.calls.entries e.terms.entries) (sym (c.in_ok-insert-2.ensures.entries ∙ ap (λ n. insert_entry local_eq.ghosts.eq e.locals.entries (key n) c.args.known) c.here-here.ensures))
    (local_remembered S most ts e.scope e.calls.entries e.terms.entries e.locals.entries c.args.id h c.args.known c.requires s known)
