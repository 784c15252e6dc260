-- A proof by rules that preserve truth refutes its assertions, and what a run of a proof reaches.
use Rattle.std.specs.Prelude.{◌≡◌, ◌≢◌, ℕ, true, List, [], ◌∷◌, ◌++◌, Option, Some, None, Ok, Err, refl}
use Rattle.std.specs.Option.{option_map_or}
use Rattle.std.proofs.Common.{sym, ◌∙◌, ap, subst}
use Rattle.std.proofs.lemmas.Option.{same_Some}
use Rattle.eo_cpc.specs.Suite.{suite}
use Rattle.eo_io.specs.Library.{Files}
use Rattle.eo_io.specs.Paths.{with_path}
use Rattle.eo_run.proofs.Runs.{Keeping, any_commands, run_bind, run_ok, job_reference_keeps, proof_keeps}
use Rattle.eo_run.proofs.Soundness.{correct_ended}
use Rattle.eo_run.specs.Check.{checked}
use Rattle.eo_run.specs.Seen.{Seen, noted}
use Rattle.eo_run.specs.Run.{Progress, Ran, included_runner, include_limit, first_progress, run_check_after, before_proof_after, prelude_path, run_prelude}
use Rattle.eo_rule.specs.ByRules.{any_rule}
use Rattle.eo_run.specs.Verdict.{Verdict, Correct}
use Rattle.eo_sem.proofs.Noted.{noted_semantic}
use Rattle.eo_sem.proofs.Others.{uses_same, first_in, first_same, none_before}
use Rattle.eo_sem.proofs.SuiteRun.{state_after, suite_runs}
use Rattle.eo_sem.proofs.Validity.{FollowsSuite, suite_follows, quiet_follows, begun_follows, reached_refutes}
use Rattle.eo_sem.specs.CommandLaws.{CommandLaws}
use Rattle.eo_sem.specs.Proving.{Valid, IsProved, IsRefuted, prove_job, prove_run, uses_other, first_other, not_semantic, judged, prove}
use Rattle.eo_sem.specs.Reached.{ReachedBy, is_first, begins, accepts}
use Rattle.eo_sem.specs.SemanticRules.{is_semantic}
use Rattle.eo_sem.specs.Suite.{suite_signature, suite_state}
use Rattle.eo_session.specs.Decisions.{AreDecidedPlaced}
use Rattle.eo_session.specs.Origin.{Origin}
use Rattle.eo_session.specs.Origin as origin
use Rattle.eo_session.specs.Commands.{step}
use Rattle.eo_session.specs.State.{State, end_fault}
use Rattle.eo_session.specs.declared.Next.{Next}
use Rattle.eo_sexp.specs.Sexp.{Sexp}
use Rattle.eo_sig.specs.Signature.{rules}
use Rattle.eo_sound.specs.RulesUsed.{may_use, sexp_rule}

-- ---- what is proved

pub proved_refutes : CommandLaws → (files : Files) (reference proof : List ℕ) → IsProved files reference proof → IsRefuted files reference proof
proved_refutes laws files reference proof h =
    let k = correct_ended files proof h.final.state.sorry (end_fault h.final.state) h.correct in
    record { final = h.final; ends = h.ends; no_model = reached_refutes laws h.final.state h.by_semantic k.0 k.1 }

-- ---- what is reached

-- by commands of a proof or of a reference file
abbrev OfProof : Origin → Type 0
OfProof from = from ≢ origin.Signature

reference-other : OfProof origin.Reference
reference-other e = cc e

proof-other : OfProof origin.Proof
proof-other e = cc e

abbrev Each : Sexp → Type 0
Each s = Unit {0}

after_suite : (files : Files) (reference proof : List ℕ) (p : Progress) → run_prelude files (Some suite) (first_progress (prove_job reference proof)) ≡ Ok p → p.state ≡ suite_state
unfolding run_prelude
after_suite files reference proof p e =
    let start = first_progress (prove_job reference proof) in
    let same : Some p.state ≡ Some suite_state = sym (ap state_after e) ∙ suite_runs files (included_runner files include_limit) prelude_path (with_path start.included prelude_path) in
    same_Some p.state suite_state same

-- What holds after the suite, and is kept by what follows, holds at the end of each run of a proof.
module _ (P : State → List Seen → Type 0) (keeping : Keeping P OfProof Each) (first : (seen : List Seen) → P suite_state seen) where
  run_keeps : (files : Files) (reference proof : List ℕ) (q : Progress) → prove_run files reference proof ≡ Ok q → P q.state q.seen
  unfolding prove_run run_check_after before_proof_after
  run_keeps files reference proof q e =
      let before = run_bind _ _ q e in
      let begun = run_bind _ _ before.0 before.1 in
      let included = run_bind _ _ before.0 begun.2 in
      let suite_there = subst (λ (st : State). P st begun.0.seen) (sym (after_suite files reference proof begun.0 begun.1)) (first begun.0.seen) in
      let here = subst (λ (x : Progress). P x.state x.seen) (run_ok begun.0 included.0 included.1) suite_there in
      proof_keeps P OfProof Each keeping files proof-other proof before.0 q
      (job_reference_keeps P OfProof Each keeping files reference included.0 before.0 here included.2)
      before.2

-- ---- by any rules

any_may : (name : Option (List ℕ)) → may_use any_rule name ≡ true
any_may None = refl
any_may (Some name) = refl

abbrev Reached : State → List Seen → Type 0
Reached st seen = ReachedBy any_rule suite_state st

reached_keeping : Keeping Reached OfProof Each
reached_keeping = record {
  read = λ proof bytes. any_commands Each (λ s. tt) _;
  steps = λ st before from s k r other read act h e. accepts from s r.1 h other (any_may (sexp_rule from s)) e;
  begins = λ st new before h e. begins h e;
  reference = reference-other;
}

-- Each run of a proof reaches its last state from that after the suite.
pub run_reaches : (files : Files) (reference proof : List ℕ) (q : Progress) → prove_run files reference proof ≡ Ok q → ReachedBy any_rule suite_state q.state
run_reaches = run_keeps Reached reached_keeping (λ seen. is_first)

-- ---- by rules that preserve truth

-- The state follows the suite, and where no step by another rule is among these commands, it is reached by rules that preserve truth.
record Follows (st : State) (seen : List Seen) : Type 0 where
  follows : FollowsSuite st
  reached : first_in suite_signature seen ≡ None → ReachedBy is_semantic suite_state st

module _ (laws : CommandLaws) (decided : AreDecidedPlaced) where
  step_follows : (st : State) (before : List Seen) (from : Origin) (s : Sexp) (k : Seen) (r : State × Next) → OfProof from → k.act ≡ noted st from s → Follows st before → step st from s ≡ Ok r → Follows r.0 (before ++ k ∷ [])
  step_follows st before from s k r other act h e = record {
    follows = quiet_follows laws st r.0 h.follows (laws.stays st from s r e) (laws.quiet st from s r h.follows.closed other e);
    reached = λ none.
        let here = none_before suite_signature before k none in
        let noted_other = ap (uses_other st.signature) (sym act) ∙ (uses_same st.signature suite_signature h.follows.same k.act ∙ here.1) in
        accepts from s r.1 (h.reached here.0) other (noted_semantic st from decided s r e noted_other) e;
  }

  follows_keeping : Keeping Follows OfProof Each
  follows_keeping = record {
    read = λ proof bytes. any_commands Each (λ s. tt) _;
    steps = λ st before from s k r other read act h e. step_follows st before from s k r other act h e;
    begins = λ st new before h e. record { follows = begun_follows laws st new h.follows e; reached = λ none. begins (h.reached none) e };
    reference = reference-other;
  }

  run_follows : (files : Files) (reference proof : List ℕ) (q : Progress) → prove_run files reference proof ≡ Ok q → Follows q.state q.seen
  run_follows = run_keeps Follows follows_keeping (λ seen. record { follows = suite_follows laws; reached = λ none. is_first })

  -- its rules are those of the suite
  pub run_rules : (files : Files) (reference proof : List ℕ) (q : Progress) → prove_run files reference proof ≡ Ok q → rules q.state.signature ≡ rules suite_signature
  run_rules files reference proof q e = (run_follows files reference proof q e).follows.same

  -- ---- a valid proof

  none_other : (o : Option Seen) → option_map_or not_semantic o Valid ≡ Valid → o ≡ None
  none_other None e = refl
  none_other (Some k) e = absurd (cc e)

  record IsValid (ran : Ran) (verdict : Verdict) : Type 0 where
    final : Progress
    ends : ran ≡ Ok final
    correct : verdict ≡ Correct
    none : first_other final ≡ None

  is_valid : (ran : Ran) (verdict : Verdict) → judged ran verdict ≡ Valid → IsValid ran verdict
  is_valid (Ok final) Correct e = record { final = final; ends = refl; correct = refl; none = none_other (first_other final) e }
  is_valid (Ok final) verdict e = absurd (cc e)
  is_valid (Err stopped) verdict e = absurd (cc e)

  pub valid_proved : (files : Files) (reference proof : List ℕ) → prove files reference proof ≡ Valid → IsProved files reference proof
  unfolding prove
  valid_proved files reference proof e =
      let run = prove_run files reference proof in
      let v = is_valid run (checked files proof run) e in
      let q = run_follows files reference proof v.final v.ends in
      record {
        final = v.final;
        ends = v.ends;
        correct = subst (λ (x : Ran). checked files proof x ≡ Correct) v.ends v.correct;
        by_semantic = q.reached (sym (first_same v.final.state.signature suite_signature q.follows.same v.final.seen) ∙ v.none);
      }
