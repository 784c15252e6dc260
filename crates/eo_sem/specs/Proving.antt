-- Whether the assertions of a reference file have no model, as a proof shows by rules that preserve truth.
use Rattle.std.specs.Prelude.{◌≡◌, ℕ, Bool, true, false, not, List, Option, Some, None, Ok}
use Rattle.std.specs.List.{find}
use Rattle.std.specs.Option.{option_map_or}
use Rattle.eo_base.specs.declared.FaultName.TheVariants.{NotSemantic}
use Rattle.eo_cpc.specs.Suite.{suite}
use Rattle.eo_io.specs.Library.{Files}
use Rattle.eo_run.specs.Check.{checked}
use Rattle.eo_run.specs.Run.{Progress, Ran, refusal_at, run_check_after}
use Rattle.eo_run.specs.Seen.{Seen}
use Rattle.eo_run.specs.Verdict.{Verdict, Correct, Refused}
use Rattle.eo_run.specs.declared.CheckJob.{CheckJob}
use Rattle.eo_sem.specs.Reached.{ReachedBy}
use Rattle.eo_sem.specs.SemanticRules.{is_semantic}
use Rattle.eo_sem.specs.Suite.{suite_state}
use Rattle.eo_sem.specs.Truth.{HaveNoModel}
use Rattle.eo_session.specs.Notes.{Act, Derives, Closes}
use Rattle.eo_sig.specs.Signature.{Signature, Rule, rule_at}

-- the check of a closed proof against a reference file
abbrev pub prove_job : (reference proof : List ℕ) → CheckJob
prove_job reference proof = record { include = None; reference = Some reference; proof = proof; closed = true }

-- its run, after the commands of the suite
unfoldable pub prove_run : Files → (reference proof : List ℕ) → Ran
prove_run files reference proof = run_check_after files (Some suite) (prove_job reference proof)

-- ---- what is said of it

-- whether the rule of this number is one of those that preserve truth
abbrev pub keeps_truth : Signature → (number : ℕ) → Bool
keeps_truth S number = option_map_or (λ (rule : Rule). is_semantic rule.name) (rule_at S number) false

-- whether a command is a step by another rule
abbrev pub uses_other : Signature → Act → Bool
uses_other S (Derives step) = not (keeps_truth S step.rule)
uses_other S (Closes step) = not (keeps_truth S step.rule)
uses_other S act = false

-- the first accepted command of a run that is such a step
abbrev pub first_other : Progress → Option Seen
first_other final = find (λ (k : Seen). uses_other final.state.signature k.act) final.seen

pub data ProveVerdict : Type 0 where
  Valid : ProveVerdict
  Other : (verdict : Verdict) → ProveVerdict

abbrev pub not_semantic : Seen → ProveVerdict
not_semantic k = Other (Refused (refusal_at k.file k.start NotSemantic))

-- A correct proof is refused at its first step by another rule. Any other verdict stays.
abbrev pub judged : Ran → Verdict → ProveVerdict
judged (Ok final) Correct = option_map_or not_semantic (first_other final) Valid
judged ran verdict = Other verdict

unfoldable pub prove : Files → (reference proof : List ℕ) → ProveVerdict
prove files reference proof = judged (prove_run files reference proof) (checked files proof (prove_run files reference proof))

-- ---- what it means

-- The check is correct, and its last state is reached from the one after the suite by rules that preserve truth alone.
pub record IsProved (files : Files) (reference proof : List ℕ) : Type 0 where
  pub final : Progress
  pub ends : prove_run files reference proof ≡ Ok final
  pub correct : checked files proof (Ok final) ≡ Correct
  pub by_semantic : ReachedBy is_semantic suite_state final.state

-- The run ends, and no valuation makes all that was asserted true.
pub record IsRefuted (files : Files) (reference proof : List ℕ) : Type 0 where
  pub final : Progress
  pub ends : prove_run files reference proof ≡ Ok final
  pub no_model : HaveNoModel final.state.signature final.state.assertions
