-- Checks and loads in which a name may have one constant, beside those in which it may have several.
use Rattle.std.specs.Prelude.{◌≡◌, ℕ, List, ◌⊎◌}
use Rattle.eo_base.specs.declared.FaultName.{FaultName}
use Rattle.eo_io.specs.Library.{Files}
use Rattle.eo_names.specs.Contexts.{Naming, One}
use Rattle.eo_sexp.specs.Spot.{Spot}
use Rattle.eo_run.specs.Check.{checked, verdict, loaded, load_verdict}
use Rattle.eo_run.specs.Run.{Progress, Ran, ◌>>=◌, refusal_at, first_progress, first_load, if_given, run_signature, run_job_reference, run_proof}
use Rattle.eo_run.specs.Verdict.{Verdict, Refused}
use Rattle.eo_run.specs.declared.CheckJob.{CheckJob}

-- the same where a name may have so many constants
abbrev pub with_naming : Naming → Progress → Progress
with_naming n p = record p { state = record p.state { naming = n } }

module _ (files : Files) where
  -- a check from where it begins
  abbrev pub run_from : CheckJob → Progress → Ran
  run_from job first = do
    p ← (do
      q ← if_given (run_signature files) job.include first
      if_given (run_job_reference files) job.reference q
      )
    run_proof files job.proof p

  -- the verdict of a check in which a name may have so many constants
  unfoldable pub verdict_by : Naming → CheckJob → Verdict
  verdict_by n job = checked files job.proof (run_from job (with_naming n (first_progress job)))

  unfoldable pub load_verdict_by : Naming → List ℕ → Verdict
  load_verdict_by n name = loaded (run_signature files name (with_naming n (first_load name)))

-- Each verdict where a name may have one constant is the verdict; or there is a place at which another constant of a name is declared: the check is refused there by whatever fault refuses one.
abbrev pub IsSameOrAnother : (FaultName → Verdict) → Verdict → Type 0
IsSameOrAnother one v =
    ((refusal : FaultName) → one refusal ≡ v) ⊎ ((path : List ℕ) × (at : Spot) × ((refusal : FaultName) → one refusal ≡ Refused (refusal_at path at refusal)))

-- A job in which no name is given a second constant has the verdict that it has where a name may have one.
abbrev pub KeepsVerdict : Files → CheckJob → Type 0
KeepsVerdict files job = IsSameOrAnother (λ refusal. verdict_by files (One refusal) job) (verdict files job)

abbrev pub KeepsLoad : Files → List ℕ → Type 0
KeepsLoad files name = IsSameOrAnother (λ refusal. load_verdict_by files (One refusal) name) (load_verdict files name)
