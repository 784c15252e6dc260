-- The files of a bench, and the result for their run.
use Rattle.std.proofs.Common.{◌≡◌, ℕ, List, [], ◌++◌, Some, refl, sym, ap, subst, ◌∙◌, append_assoc, arith}
use Rattle.std.specs.Prelude.{codes, Result, Ok, OnOk}
use Rattle.eo_base.specs.Causes.{Rose}
use Rattle.eo_io.specs.Library.{Files}
use Rattle.eo_io.specs.Stored.{with_file}
use Rattle.eo_session.specs.Notes as notes
use Rattle.eo_run.specs.Answer.{AnswerHasCause}
use Rattle.eo_run.specs.Bench.{bench_signature, bench_reference, bench_proof, bench_files}
use Rattle.eo_run.specs.Benching.{AnswersBench, counted}
use Rattle.eo_run.specs.Ending.{verdict_of, IsCheckEnd, LeavesLast}
use Rattle.eo_run.specs.Judging.{AnswersProof, run_job}
use Rattle.eo_run.specs.Progress.{Point, progress_at, SeesAt}
use Rattle.eo_run.specs.Run.{first_progress}
use Rattle.eo_run.specs.declared.CheckEnd.{CheckEnd}
use Rattle.eo_run.specs.declared.CheckEnd.TheVariants as ends
use Rattle.eo_run.specs.declared.CheckJob.{CheckJob}
use Rattle.eo_run.specs.declared.Verdict.TheVariants as answer
use Rattle.eo_run.proofs.Files.{check-is}
use Rattle.eo_run.proofs.Jobs.{job-answers}

-- a library that never fails has no fault
none_rose : Rose 0 0 → ⊥
none_rose h = omega (arith, h)

pub counted-answers : {O : Type 0} (tells : O → List notes.Seen → Type 0) (files : Files) (job : CheckJob) (old new : Point O) (e : CheckEnd) → progress_at old [] ≡ first_progress job → SeesAt tells old []
    → AnswersProof tells (Some files) job.proof (λ f. run_job f job) old new (verdict_of e) → LeavesLast tells (Some files) job.proof (λ f. run_job f job) e old new → IsCheckEnd new.paths e → AnswerHasCause (verdict_of e) (Some files) 0 0
    → AnswersBench files job new.paths (counted e new.run.session.state)
counted-answers tells files job old new (ends.Correct r) begins none h l kind cause =
    let b = l.runs files refl [] none in
    record {
      correct = job-answers tells files job old new answer.Correct begins none h;
      last = progress_at new b.0;
      runs = check-is files job ∙ ap (run_job files job) (sym begins) ∙ b.2;
      accepted = refl;
      alive = refl;
    }
counted-answers tells files job old new (ends.Ended answer.Correct) begins none h l kind cause = absurd kind
counted-answers tells files job old new (ends.Ended answer.Incomplete) begins none h l kind cause = (job-answers tells files job old new answer.Incomplete begins none h, tt)
counted-answers tells files job old new (ends.Ended (answer.Loaded commands)) begins none h l kind cause = absurd kind
counted-answers tells files job old new (ends.Ended (answer.Refused fault)) begins none h l kind cause = (job-answers tells files job old new (answer.Refused fault) begins none h, kind)
counted-answers tells files job old new (ends.Ended answer.ReadFault) begins none h l kind cause = absurd (none_rose cause)
counted-answers tells files job old new (ends.Ended answer.OutOfMemory) begins none h l kind cause = (tt, tt)

-- three files that are added one after another
pub three_added : (n : ℕ) (none one two three : Files) → none ≡ [] → one ≡ with_file none (codes "bench.eo") bench_signature
    → two ≡ with_file one (codes "bench.smt2") (bench_reference n) → three ≡ with_file two (codes "bench.proof") (bench_proof n) → three ≡ bench_files n
unfolding bench_files
three_added n none one two three e0 e1 e2 e3 =
    e3 ∙ (λ i. with_file (e2 i) (codes "bench.proof") (bench_proof n)) ∙ (λ i. with_file (with_file (e1 i) (codes "bench.smt2") (bench_reference n)) (codes "bench.proof") (bench_proof n))
    ∙ (λ i. with_file (with_file (with_file (e0 i) (codes "bench.eo") bench_signature) (codes "bench.smt2") (bench_reference n)) (codes "bench.proof") (bench_proof n))

-- what a call that gave ensures
pub done : {T E : Type 0} (P : Type 0) (r : Result T E) (x : T) → r ≡ Ok x → OnOk r P → P
done {T} {E} P r x e h = subst (λ (q : Result T E). OnOk q P) e h

-- ---- lines

-- a line with so many numbers in it, where its end is written with what is after the last one
pub one_number : (a m b end : List ℕ) → a ++ (m ++ (b ++ end)) ≡ (a ++ (m ++ b)) ++ end
one_number a m b end = sym (simp append_assoc)
