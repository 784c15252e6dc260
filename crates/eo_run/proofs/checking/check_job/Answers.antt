use Rattle.std.proofs.Common.{subst, ℕ, List}
use Rattle.eo_io.specs.Library.{Files}
use Rattle.eo_run.specs.Ending.{verdict_of, LeavesLast}
use Rattle.eo_run.specs.Judging.{AnswersProof, before_files, run_job}
use Rattle.eo_run.specs.Run.{run_proof}
use Rattle.eo_run.specs.Progress.{point}
use Rattle.eo_run.proofs.Jobs.{first-stops, part-answers, both-answer, both-last}
use Rattle.eo_run.proofs.Ends.{end-later, end-stops}
use Rattle.eo_run.proofs.checking.check_job.Goals as goal

pub returns-in-Err-clause-verdict : goal.returns-in-Err-clause-verdict
returns-in-Err-clause-verdict g c =
    let told = g.L.Library.told c.args.files.now in
    let job = c.args.job.now in
    let old = point c.args.run.now c.args.observer.now c.args.paths.now in
    let new = point c.check_before.new.run c.check_before.new.observer c.check_before.new.paths in
    part-answers g.O.Observer.tells told job.proof (λ (f : Files). run_job f job) old new c.in-Err.verdict
    (first-stops g.O.Observer.tells told (λ (f : Files). before_files f job) (λ (f : Files). run_proof f job.proof) old new c.in-Err.verdict c.in-Err.ensures.runs)

pub returns-in-Ok-clause-verdict : goal.returns-in-Ok-clause-verdict
returns-in-Ok-clause-verdict g c =
    let job = c.args.job.now in
    let mid = point c.check_before.new.run c.check_before.new.observer c.check_before.new.paths in
    let new = point c.check_proof.new.run c.check_proof.new.observer c.check_proof.new.paths in
    both-answer g.O.Observer.tells (g.L.Library.told c.args.files.now) (λ (f : Files). before_files f job) (λ (f : Files). run_proof f job.proof) _ c.in-Ok.ensures.stays.same (point c.args.run.now c.args.observer.now c.args.paths.now) mid new tt c.in-Ok.ensures.runs job.proof (verdict_of c.check_proof.result)
    (subst (λ (name : List ℕ). AnswersProof g.O.Observer.tells (g.L.Library.told c.check_before.new.files) name (λ (f : Files). run_proof f name) mid new (verdict_of c.check_proof.result)) c.as_bytes.ensures.value c.check_proof.ensures.verdict)

pub returns-in-Ok-clause-last : goal.returns-in-Ok-clause-last
returns-in-Ok-clause-last g c =
    let job = c.args.job.now in
    let mid = point c.check_before.new.run c.check_before.new.observer c.check_before.new.paths in
    let new = point c.check_proof.new.run c.check_proof.new.observer c.check_proof.new.paths in
    both-last g.O.Observer.tells (g.L.Library.told c.args.files.now) (λ (f : Files). before_files f job) (λ (f : Files). run_proof f job.proof) _ c.in-Ok.ensures.stays.same (point c.args.run.now c.args.observer.now c.args.paths.now) mid new tt c.in-Ok.ensures.runs job.proof c.check_proof.result
    (subst (λ (name : List ℕ). LeavesLast g.O.Observer.tells (g.L.Library.told c.check_before.new.files) name (λ (f : Files). run_proof f name) c.check_proof.result mid new) c.as_bytes.ensures.value c.check_proof.ensures.last)

pub returns-in-Ok-clause-end : goal.returns-in-Ok-clause-end
returns-in-Ok-clause-end g c =
    let stays = c.in-Ok.ensures.stays in
    end-later _ _ stays.same _ _ _ stays.later c.args.paths.now c.check_before.new.paths c.check_proof.new.paths c.check_proof.result c.check_before.ensures.grows c.check_proof.ensures.end

pub returns-in-Err-clause-end : goal.returns-in-Err-clause-end
returns-in-Err-clause-end g c =
    end-stops _ _ _ c.args.paths.now c.check_before.new.paths c.in-Err.verdict c.in-Err.ensures.cause c.in-Err.ensures.kind c.check_before.ensures.grows
