-- Where a proof is trimmed, its job stays correct.
use Rattle.std.specs.Prelude.{◌≡◌, ℕ, ◌-◌, ◌^◌, ◌≤◌, Bool, true, false, if◌then◌else◌, List, [], ◌∷◌, length, Some, unwrap_or, option_to_list, Ok, Err, refl}
use Rattle.std.proofs.Common.{sym, ap, subst, ◌∙◌}
use Rattle.eo_base.specs.declared.FaultName.TheVariants.{BadPath}
use Rattle.eo_base.specs.Limits.{limits}
use Rattle.eo_io.specs.Library.{Files}
use Rattle.eo_io.specs.Paths.{fold_path}
use Rattle.eo_sexp.specs.Texts.{first_spot}
use Rattle.eo_run.specs.Verdict.{Verdict, Correct, Incomplete, Loaded, Refused}
use Rattle.eo_run.specs.declared.CheckJob.{CheckJob}
use Rattle.eo_run.specs.Run.{Progress, Ran, or_fault, shown, job_file, before_proof, run_proof, run_check, run_check_after}
use Rattle.eo_run.specs.Check.{verdict, checked}
use Rattle.eo_session.specs.State.{end_fault}
use Rattle.eo_proof.specs.Scopes.{first_false}
use Rattle.eo_trim.specs.Needed.{IsNeeded}
use Rattle.eo_trim.specs.Needing.{needed}
use Rattle.eo_trim.specs.Correct.{AreCounted, KeepsNeeded, StaysCorrect}
use Rattle.eo_trim.specs.Trim.{TrimEnd, Trimmed, Other, is_shared, trimmed_proof, trimmed_if, trim}
use Rattle.eo_trim.proofs.Running.{ran_bind, ran_injective, fault_ok}
use Rattle.eo_trim.proofs.Trimmed.{trimmed_stays_correct}
use Rattle.eo_trim.proofs.Trimming.{ends_well, correct_ends}
use Rattle.eo_trim.proofs.AreRuns.{seen_is_run}
use Rattle.eo_trim.proofs.Complete.{IsRun, needed_is_least}

proof_path : (files : Files) (job : CheckJob) (final : Progress) → run_check files job ≡ Ok final → fold_path [] job.proof ≡ Some (shown job.proof)
unfolding run_check run_check_after run_proof job_file before_proof
proof_path files job final e =
    let before = ran_bind (before_proof files job) _ final e in
    let file = ran_bind (job_file files before.0 job.proof) _ final before.2 in
    let path = ran_bind (or_fault before.0 job.proof first_spot BadPath (fold_path [] job.proof)) _ file.0 file.1 in
    let is = fault_ok before.0 job.proof first_spot BadPath (fold_path [] job.proof) path.0 path.1 in
    is ∙ ap (λ (x : List ℕ). Some x) (ap (λ o. unwrap_or o job.proof) (sym is))

-- what a trimmed proof comes of
pub record IsTrimmed (files : Files) (job : CheckJob) (bytes : List ℕ) : Type 0 where
  pub final : Progress
  pub correct : verdict files job ≡ Correct
  pub ends : run_check files job ≡ Ok final
  pub alone : is_shared (shown job.proof) final ≡ false
  pub is : bytes ≡ trimmed_proof (shown job.proof) final

bytes_or : List ℕ → TrimEnd → List ℕ
bytes_or d (Trimmed bytes) = bytes
bytes_or d (Other v) = d

shared_or : (files : Files) (job : CheckJob) (bytes : List ℕ) (final : Progress) → verdict files job ≡ Correct → run_check files job ≡ Ok final → (b : Bool) → is_shared (shown job.proof) final ≡ b → (v : Verdict) →
    (if b then Other v else Trimmed (trimmed_proof (shown job.proof) final)) ≡ Trimmed bytes → IsTrimmed files job bytes
unfolding bytes_or
shared_or files job bytes final c r true s v e = absurd (cc e)
shared_or files job bytes final c r false s v e = record { final = final; correct = c; ends = r; alone = s; is = sym (ap (bytes_or []) e) }

trimmed_by : (files : Files) (job : CheckJob) (bytes : List ℕ) (v : Verdict) (r : Ran) → verdict files job ≡ v → run_check files job ≡ r → trimmed_if files job v r ≡ Trimmed bytes → IsTrimmed files job bytes
trimmed_by files job bytes Correct (Ok final) c r e = shared_or files job bytes final c r (is_shared (shown job.proof) final) refl _ e
trimmed_by files job bytes Correct (Err refusal) c r e = absurd (cc e)
trimmed_by files job bytes Incomplete ran c r e = absurd (cc e)
trimmed_by files job bytes (Loaded n) ran c r e = absurd (cc e)
trimmed_by files job bytes (Refused refusal) ran c r e = absurd (cc e)

pub run_is_part : (files : Files) (job : CheckJob) (final : Progress) → run_check files job ≡ Ok final → verdict files job ≡ Correct → is_shared (shown job.proof) final ≡ false → length final.seen ≤ 2 ^ 64 - 1 →
    IsRun (shown job.proof) (option_to_list (first_false final.state.scopes)) [] [] 0 final.seen
unfolding verdict
run_is_part files job final e correct alone few =
    let ends = correct_ends files job.proof final.state.sorry (end_fault final.state) (ap (checked files job.proof) (sym e) ∙ correct) in
    seen_is_run (shown job.proof) files job final (proof_path files job final e) e (ends_well final.state ends.1).no_scope few alone

-- The commands that are kept of a trimmed proof are just the needed ones.
trimmed_is_needed : (files : Files) (job : CheckJob) (bytes : List ℕ) → AreCounted files job → trim files job ≡ Trimmed bytes → (t : IsTrimmed files job bytes) × IsNeeded (shown job.proof) t.final (needed (shown job.proof) t.final)
unfolding trim
trimmed_is_needed files job bytes few e =
    let t = trimmed_by files job bytes (verdict files job) (run_check files job) refl refl e in
    (t, needed_is_least (shown job.proof) t.final (run_is_part files job t.final t.ends t.correct t.alone (few t.final t.ends)))

pub keeps_needed : KeepsNeeded
keeps_needed files job bytes few e final run =
    let k = trimmed_is_needed files job bytes few e in
    subst (λ (x : Progress). IsNeeded (shown job.proof) x (needed (shown job.proof) x) × (bytes ≡ trimmed_proof (shown job.proof) x)) (ran_injective k.0.final final (sym k.0.ends ∙ run)) (k.1, k.0.is)

-- The check of the job stays correct.
pub trim_stays_correct : StaysCorrect
trim_stays_correct files job bytes few e short =
    let k = trimmed_is_needed files job bytes few e in
    let t = k.0 in
    subst (λ (bs : List ℕ). verdict ((shown job.proof, bs) ∷ files) job ≡ Correct) (sym t.is)
    (trimmed_stays_correct files job (shown job.proof) t.final (needed (shown job.proof) t.final) (proof_path files job t.final t.ends) t.ends t.correct
    k.1 t.alone (subst (λ (bs : List ℕ). length bs ≤ limits.file) t.is short))
