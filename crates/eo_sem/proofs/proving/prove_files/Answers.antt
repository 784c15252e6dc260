use Rattle.std.specs.Prelude.{◌≡◌}
use Rattle.std.proofs.Common.{sym, subst}
use Rattle.eo_sem.proofs.Judged.{end_kind, end_cause, observed_proves, end_refutes}
use Rattle.eo_sem.proofs.proving.prove_files.Goals as goal
use Rattle.eo_sem.specs.ProveAnswers.{AnswersProve, ProveHasCause, IsProveAnswer, other_place}
use Rattle.eo_sem.specs.declared.ProveEnd.{ProveEnd}
use Rattle.eo_sem.specs.declared.watching.Watch.{Watch}

pub returns-clause-proves : goal.returns-clause-proves
returns-clause-proves g c =
    let end = c.check_observed-end in
    let told = g.L.Library.told c.args.files.now in
    subst (λ (r : ProveEnd). AnswersProve told c.args.reference.now c.args.proof.now end.new.paths r) (sym c.end_by.ensures)
    (observed_proves (λ (w : Watch) l. w.other ≡ other_place l) end.new.observer end.new.paths c.args.reference.now c.args.proof.now told c.suite.result.now c.in-Ok.job end.result end.new.observer.other c.suite.ensures c.in-Ok.ensures
    (λ files final e. c.validity_law.ensures.same_rules files c.args.reference.now c.args.proof.now final e) (λ ms h. h) end.ensures.end.kind end.ensures.verdict end.ensures.sees)

pub returns-clause-sound : goal.returns-clause-sound
returns-clause-sound g c =
    end_refutes c.args.reference.now c.args.proof.now c.check_observed-end.new.paths (g.L.Library.told c.args.files.now) c.end_by.result c.validity_law.ensures.valid c.validity_law.ensures.proof (returns-clause-proves g c)

pub returns-clause-cause : goal.returns-clause-cause
returns-clause-cause g c =
    let end = c.check_observed-end in
    let told = g.L.Library.told c.args.files.now in
    let before = g.L.Library.faults c.args.files.now in
    let now = g.L.Library.faults end.new.files in
    subst (λ (r : ProveEnd). ProveHasCause r told before now) (sym c.end_by.ensures)
    (end_cause told before now end.new.paths end.result end.new.observer.other end.ensures.end.cause)

pub returns-clause-kind : goal.returns-clause-kind
returns-clause-kind g c =
    let end = c.check_observed-end in
    subst (λ (r : ProveEnd). IsProveAnswer end.new.paths r) (sym c.end_by.ensures) (end_kind end.new.paths end.result end.new.observer.other end.ensures.end.kind)
