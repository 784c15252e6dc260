use Rattle.std.proofs.Common.{◌≡◌, false, sym, ap, subst, ℕ, List}
use Rattle.std.specs.Prelude.{OnOk}
use Rattle.eo_session.specs.Stepping.{Standing}
use Rattle.eo_run.specs.Loading.{AnswersSession, IsLoadEnd, LoadHasCause, as_loaded}
use Rattle.eo_run.specs.Progress.{point}
use Rattle.eo_run.proofs.Watched.{sees-nothing}
use Rattle.eo_run.specs.declared.LoadEnd.{LoadEnd}
use Rattle.eo_run.proofs.Jobs.{session-loads, session-kind, session-cause}
use Rattle.eo_run.proofs.loading.load_session.Goals as goal

pub returns-clause-loads : goal.returns-clause-loads
returns-clause-loads g c =
    let told = g.L.Library.told c.args.files.now in
    let end = c.load_to_end-end in
    subst (λ (e : LoadEnd). AnswersSession told c.args.file.now end.new.paths e) (sym c.load_end.ensures)
    (subst (λ (name : List ℕ). AnswersSession told name end.new.paths (as_loaded c.session_of.result end.result)) c.as_bytes.ensures.value
    (session-loads _ told c.as_bytes.result.now (point c.in-Ok.run' _ c.args.paths.now) (point end.new.run end.new.observer end.new.paths) (sees-nothing _ _ c.args.paths.now tt) c.session_of.result end.result (ap (λ (s : Standing). s.state) c.session_of.ensures) end.ensures.runs))

pub returns-clause-kind : goal.returns-clause-kind
returns-clause-kind g c =
    let end = c.load_to_end-end in
    subst (λ (e : LoadEnd). IsLoadEnd end.new.paths e) (sym c.load_end.ensures)
    (session-kind end.new.paths c.session_of.result end.result (subst (λ (s : Standing). OnOk end.result (s.ended ≡ false)) (sym c.session_of.ensures) end.ensures.going) end.ensures.kind)

pub returns-clause-cause : goal.returns-clause-cause
returns-clause-cause g c =
    let told = g.L.Library.told c.args.files.now in
    let before = g.L.Library.faults c.args.files.now in
    let after = g.L.Library.faults c.load_to_end-end.new.files in
    subst (λ (e : LoadEnd). LoadHasCause e told before after) (sym c.load_end.ensures) (session-cause told c.session_of.result c.load_to_end-end.result before after c.load_to_end-end.ensures.cause)
