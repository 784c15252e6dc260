use Rattle.std.specs.Prelude.{Result, ℕ, []}
use Rattle.eo_elab.specs.Meaning.{meaning}
use Rattle.eo_session.specs.Store.{state_of}
use Rattle.eo_session.specs.State.{context}
use Rattle.eo_session.specs.Stepping.{of_elab, GivesTerm}
use Rattle.eo_session.specs.declared.refused.Refused.{Refused}
use Rattle.eo_session.proofs.Holding.{keeps_table, stays_kept}
use Rattle.eo_base.proofs.Answering.{at_exit}
use Rattle.eo_session.proofs.Sessions.{refuses_elab, refuses_on, no_locals}
use Rattle.eo_session.proofs.store.Store.elaborate.Goals as goal

pub returns-in_err-id-clause-gives : goal.returns-in_err-id-clause-gives
returns-in_err-id-clause-gives c =
    let h = c.args.self.now in
    let st = state_of h in
    let s = c.args.s.now in
    let x = c.in_err-id.field-0.0 in
    at_exit (λ (r : Result ℕ Refused). GivesTerm (record h { table = c.term.new.table }) r (meaning (context st) [] s)) c.from_residual.result (of_elab x) c.from_residual.ensures.1
    (refuses_on _ _ (of_elab x) (refuses_elab _ x c.in_err-id.ensures.gives) (λ name e. no_locals st s h.table.trees c.new-locals.result c.new-locals.ensures _ e))

pub returns-in_err-id-clause-keeps : goal.returns-in_err-id-clause-keeps
returns-in_err-id-clause-keeps c =
    let h = c.args.self.now in
    keeps_table h c.requires c.term.new.table (stays_kept h.signature c.new-locals.result h.table.trees c.term.new.table.trees c.in_err-id.ensures.keeps) c.in_err-id.ensures.grows

pub returns-clause-gives : goal.returns-clause-gives
returns-clause-gives c =
    let st = state_of c.args.self.now in
    let s = c.args.s.now in
    let is = no_locals st s c.args.self.now.table.trees c.new-locals.result c.new-locals.ensures _ c.in_ok-id.ensures.gives.is in
    record { live = c.in_ok-id.ensures.gives.live; is = is }

pub returns-clause-keeps : goal.returns-clause-keeps
returns-clause-keeps c =
    let h = c.args.self.now in
    keeps_table h c.requires c.term.new.table (stays_kept h.signature c.new-locals.result h.table.trees c.term.new.table.trees c.in_ok-id.ensures.keeps) c.in_ok-id.ensures.grows
