-- In a closed check the proof declares no program and no rule.
use Rattle.std.specs.Prelude.{◌≡◌, ◌≢◌, ℕ, Bool, true, false, if◌then◌else◌, List, Option, None, Ok, Err, refl}
use Rattle.std.proofs.Common.{◌∙◌, subst}
use Rattle.eo_base.proofs.ChecksLemmas.{ok_injective, err_is_not_ok}
use Rattle.eo_base.specs.declared.FaultName.TheVariants.{SecondReference}
use Rattle.eo_io.specs.Library.{Files}
use Rattle.eo_run.proofs.Runs.{Keeping, any_commands, run_bind, prelude_keeps, signature_keeps, job_reference_keeps, proof_keeps, given_keeps}
use Rattle.eo_session.specs.Origin.{Origin}
use Rattle.eo_session.specs.Origin as origin
use Rattle.eo_run.specs.Refutation.{ClosedKeepsRules}
use Rattle.eo_run.specs.Seen.{Seen}
use Rattle.eo_run.specs.Run.{Progress, first_progress, run_signature, run_job_reference, before_proof_after, run_check_after, before_proof, run_check}
use Rattle.eo_sound.specs.Quiet.{IsQuiet}
use Rattle.eo_session.specs.State.{State, first_state, begin_reference}
use Rattle.eo_session.specs.Commands.{step}
use Rattle.eo_run.specs.declared.CheckJob.{CheckJob}
use Rattle.eo_session.specs.declared.Next.{Next}
use Rattle.eo_sexp.specs.Sexp.{Sexp}
use Rattle.eo_sig.specs.Signature.{Program, Rule, programs, rules}

-- ---- a closed proof

-- the check is closed, and these are its programs and rules
record Stays (ps : List Program) (rs : List Rule) (st : State) : Type 0 where
  closed : st.closed ≡ true
  programs_are : programs st.signature ≡ ps
  rules_are : rules st.signature ≡ rs

-- the proof, what it includes, and reference files
abbrev Allowed : Origin → Type 0
Allowed from = from ≢ origin.Signature

-- any command
abbrev Each : Sexp → Type 0
Each s = Unit {0}

proof-other : origin.Proof ≢ origin.Signature
proof-other e = cc e

reference-other : origin.Reference ≢ origin.Signature
reference-other e = cc e

module _ (quiet : (st : State) (from : Origin) (s : Sexp) (r : State × Next) → st.closed ≡ true → from ≢ origin.Signature → step st from s ≡ Ok r → IsQuiet st r.0) (ps : List Program) (rs : List Rule) where
  step_stays : (st : State) (from : Origin) (s : Sexp) (r : State × Next) → Allowed from → Stays ps rs st → step st from s ≡ Ok r → Stays ps rs r.0
  step_stays st from s r other h e =
      let q = quiet st from s r h.closed other e in
      record { closed = q.closed ∙ h.closed; programs_are = q.programs_stay ∙ h.programs_are; rules_are = q.rules_stay ∙ h.rules_are }

  begin_stays : (st new : State) → Stays ps rs st → begin_reference st ≡ Ok new → Stays ps rs new
  unfolding begin_reference
  begin_stays st new h e = by st.has_reference e
    where
      by : (b : Bool) → (if b then Err SecondReference else Ok (record st { has_reference = true })) ≡ Ok new → Stays ps rs new
      by true k = absurd (err_is_not_ok SecondReference new k)
      by false k = subst (Stays ps rs) (ok_injective (record st { has_reference = true }) new k) (record { closed = h.closed; programs_are = h.programs_are; rules_are = h.rules_are })

  abbrev StaysSeen : State → List Seen → Type 0
  StaysSeen st seen = Stays ps rs st

  keeping : Keeping StaysSeen Allowed Each
  keeping = record { read = λ proof bytes. any_commands Each (λ s. tt) _; steps = λ st before from s k r other read act h e. step_stays st from s r other h e; begins = λ st new before h e. begin_stays st new h e; reference = reference-other }

-- ---- whether the check is closed

abbrev IsClosed : State → Type 0
IsClosed st = st.closed ≡ true

abbrev IsClosedSeen : State → List Seen → Type 0
IsClosedSeen st seen = IsClosed st

abbrev Any : Origin → Type 0
Any from = Unit {0}

begin_closed : (st new : State) → IsClosed st → begin_reference st ≡ Ok new → IsClosed new
unfolding begin_reference
begin_closed st new h e = by st.has_reference e
  where
    by : (b : Bool) → (if b then Err SecondReference else Ok (record st { has_reference = true })) ≡ Ok new → IsClosed new
    by true k = absurd (err_is_not_ok SecondReference new k)
    by false k = subst IsClosed (ok_injective (record st { has_reference = true }) new k) h

module _ (keeps : (st : State) (from : Origin) (s : Sexp) (r : State × Next) → step st from s ≡ Ok r → r.0.closed ≡ st.closed) where
  closing : Keeping IsClosedSeen Any Each
  closing = record { read = λ proof bytes. any_commands Each (λ s. tt) _; steps = λ st before from s k r al read act h e. keeps st from s r e ∙ h; begins = λ st new before h e. begin_closed st new h e; reference = tt }

  module _ (files : Files) (prelude : Option (List ℕ)) (job : CheckJob) (closed : job.closed ≡ true) where
    first_closed : IsClosed (first_state job.closed)
    unfolding first_state
    first_closed = closed

    before_closed : (p : Progress) → before_proof_after files prelude job ≡ Ok p → IsClosed p.state
    unfolding before_proof_after
    before_closed p e =
        let begun = run_bind _ _ p e in
        let included = run_bind _ _ p begun.2 in
        let begun_closed = prelude_keeps IsClosedSeen Any Each closing files tt prelude (first_progress job) begun.0 first_closed begun.1 in
        let include_closed = given_keeps IsClosedSeen Any Each closing files (run_signature files) job.include begun.0 included.0
        (λ name k. signature_keeps IsClosedSeen Any Each closing files tt name begun.0 included.0 begun_closed k) begun_closed included.1 in
        given_keeps IsClosedSeen Any Each closing files (run_job_reference files) job.reference included.0 p
        (λ name k. job_reference_keeps IsClosedSeen Any Each closing files name included.0 p include_closed k)
        include_closed included.2

  -- The proof of a closed check declares no program and no rule, nor does a file that it includes.
  module _ (quiet : (st : State) (from : Origin) (s : Sexp) (r : State × Next) → st.closed ≡ true → from ≢ origin.Signature → step st from s ≡ Ok r → IsQuiet st r.0) where
    pub closed_keeps_rules : (files : Files) (job : CheckJob) → ClosedKeepsRules files job
    unfolding run_check run_check_after before_proof
    closed_keeps_rules files job closed final e =
        let before = run_bind _ _ final e in
        let ps = programs before.0.state.signature in
        let rs = rules before.0.state.signature in
        let kept = proof_keeps (StaysSeen quiet ps rs) Allowed Each (keeping quiet ps rs) files proof-other job.proof before.0 final (record { closed = before_closed files None job closed before.0 before.1; programs_are = refl; rules_are = refl }) before.2 in
        record { before = before.0; begins = before.1; programs_stay = kept.programs_are; rules_stay = kept.rules_are }
