-- What a correct check proves, and what a closed one keeps.
use Rattle.std.specs.Prelude.{◌≡◌, true, false, Option, IfSome, Ok}
use Rattle.eo_io.specs.Library.{Files}
use Rattle.eo_rule.specs.Derivability.{Derives}
use Rattle.eo_run.specs.Run.{Progress, before_proof, run_check}
use Rattle.eo_run.specs.declared.CheckJob.{CheckJob}
use Rattle.eo_run.specs.declared.Verdict.{Verdict}
use Rattle.eo_run.specs.declared.Verdict.TheVariants as answer
use Rattle.eo_sig.specs.Signature.{programs, rules}
use Rattle.eo_term.specs.Tree.{truth}

-- The run of a job ends in a state in whose signature `false` is derivable from what was asserted.
pub record Refutes (files : Files) (job : CheckJob) : Type 0 where
  pub final : Progress
  pub ends : run_check files job ≡ Ok final
  pub derives : Derives final.state.signature final.state.assertions (truth false)

-- Where the result is that the proof is correct, and files are known, their run refutes what was asserted.
abbrev pub CorrectRefutes : Option Files → CheckJob → Verdict → Type 0
CorrectRefutes told job v = v ≡ answer.Correct → IfSome told (λ files. Refutes files job)

-- The programs and rules are those that were declared before the proof's first command.
pub record DeclaredBefore (files : Files) (job : CheckJob) (final : Progress) : Type 0 where
  pub before : Progress
  pub begins : before_proof files job ≡ Ok before
  pub programs_stay : programs final.state.signature ≡ programs before.state.signature
  pub rules_stay : rules final.state.signature ≡ rules before.state.signature

-- In a closed check the proof declares no program and no rule.
abbrev pub ClosedKeepsRules : Files → CheckJob → Type 0
ClosedKeepsRules files job = job.closed ≡ true → (final : Progress) → run_check files job ≡ Ok final → DeclaredBefore files job final
