-- A check that is correct refutes its assertions.
use Rattle.std.specs.Prelude.{◌≡◌, ℕ, Bool, true, false, List, Option, Some, None, Ok, Err, refl}
use Rattle.eo_base.specs.declared.FaultName.{FaultName}
use Rattle.eo_io.specs.Library.{Files}
use Rattle.eo_rule.specs.Derivability.{Derives}
use Rattle.eo_run.specs.Check.{checked, ended, verdict}
use Rattle.eo_run.specs.Refutation.{Refutes}
use Rattle.eo_run.proofs.Runs.{Keeping, any_commands, run_bind, prelude_keeps, signature_keeps, job_reference_keeps, proof_keeps, given_keeps}
use Rattle.eo_run.specs.Seen.{Seen}
use Rattle.eo_run.specs.Run.{Progress, Ran, first_progress, run_signature, run_job_reference, before_proof_after, run_check_after, run_check}
use Rattle.eo_sound.specs.Soundness.{IsSound}
use Rattle.eo_session.specs.State.{State, first_state, begin_reference, end_fault}
use Rattle.eo_session.specs.Commands.{step}
use Rattle.eo_run.specs.Verdict.{Correct}
use Rattle.eo_session.specs.Origin.{Origin}
use Rattle.eo_run.specs.declared.CheckJob.{CheckJob}
use Rattle.eo_session.specs.declared.Next.{Next}
use Rattle.eo_sexp.specs.Sexp.{Sexp}
use Rattle.eo_term.specs.Tree.{truth}

-- ---- runs

Any : Origin → Type 0
Any from = Unit {0}

Each : Sexp → Type 0
Each s = Unit {0}

module _ (first : (closed : Bool) → IsSound (first_state closed)) (begin : (st new : State) → IsSound st → begin_reference st ≡ Ok new → IsSound new) (command : (st : State) (from : Origin) (s : Sexp) (r : State × Next) → IsSound st → step st from s ≡ Ok r → IsSound r.0) where
  abbrev Holds : State → List Seen → Type 0
  Holds st seen = IsSound st

  keeping : Keeping Holds Any Each
  unfolding Any Each
  keeping = record { read = λ proof bytes. any_commands Each (λ s. tt) _; steps = λ st before from s k r al read act h e. command st from s r h e; begins = λ st new before h e. begin st new h e; reference = tt }

  check_sound : (files : Files) (prelude : Option (List ℕ)) (job : CheckJob) (q : Progress) → run_check_after files prelude job ≡ Ok q → IsSound q.state
  unfolding run_check_after before_proof_after Any
  check_sound files prelude job q e =
      let before = run_bind _ _ q e in
      let begun = run_bind _ _ before.0 before.1 in
      let included = run_bind _ _ before.0 begun.2 in
      let begun_sound = prelude_keeps Holds Any Each keeping files tt prelude (first_progress job) begun.0 (first job.closed) begun.1 in
      let include_sound = given_keeps Holds Any Each keeping files (run_signature files) job.include begun.0 included.0
      (λ name k. signature_keeps Holds Any Each keeping files tt name begun.0 included.0 begun_sound k) begun_sound included.1 in
      proof_keeps Holds Any Each keeping files tt job.proof before.0 q
      (given_keeps Holds Any Each keeping files (run_job_reference files) job.reference included.0 before.0
      (λ name k. job_reference_keeps Holds Any Each keeping files name included.0 before.0 include_sound k)
      include_sound included.2)
      before.2

-- ---- the end

module _ (files : Files) (proof : List ℕ) where
  pub correct_ended : (sorry : Bool) (o : Option FaultName) → ended files proof sorry o ≡ Correct → (o ≡ None) × (sorry ≡ false)
  correct_ended sorry (Some name) e = absurd (cc e)
  correct_ended true None e = absurd (cc e)
  correct_ended false None e = (refl, refl)

  correct_checked : (ran : Ran) → checked files proof ran ≡ Correct → (p : Progress) × (ran ≡ Ok p) × (end_fault p.state ≡ None) × (p.state.sorry ≡ false)
  correct_checked (Err stopped) e = absurd (cc e)
  correct_checked (Ok p) e = let k = correct_ended p.state.sorry (end_fault p.state) e in (p, refl, k.0, k.1)

module _ (first : (closed : Bool) → IsSound (first_state closed)) (begin : (st new : State) → IsSound st → begin_reference st ≡ Ok new → IsSound new) (command : (st : State) (from : Origin) (s : Sexp) (r : State × Next) → IsSound st → step st from s ≡ Ok r → IsSound r.0) (end : (st : State) → IsSound st → end_fault st ≡ None → st.sorry ≡ false → Derives st.signature st.assertions (truth false)) where
  pub correct_refutes : (files : Files) (job : CheckJob) → verdict files job ≡ Correct → Refutes files job
  unfolding verdict run_check
  correct_refutes files job e =
      let k = correct_checked files job.proof (run_check files job) e in
      record {
        final = k.0;
        ends = k.1;
        derives = end k.0.state (check_sound first begin command files None job k.0 k.1) k.2 k.3;
      }
