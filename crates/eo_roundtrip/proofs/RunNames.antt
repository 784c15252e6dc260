-- Each run ends in a state whose constants have names that can be read and printed.
use Rattle.std.specs.Prelude.{◌≡◌, refl, ℕ, Bool, true, false, if◌then◌else◌, List, None, Ok, Err}
use Rattle.std.proofs.Common.{subst}
use Rattle.eo_base.proofs.ChecksLemmas.{ok_injective, err_is_not_ok}
use Rattle.eo_base.specs.Limits.{limits}
use Rattle.eo_base.specs.declared.FaultName.TheVariants.{SecondReference}
use Rattle.eo_io.specs.Library.{Files}
use Rattle.eo_sexp.specs.ReadBack.{SymbolsPrintAgain}
use Rattle.eo_sexp.specs.ReadNames.{SymbolsFit}
use Rattle.eo_names.specs.Contexts.{Several}
use Rattle.eo_session.specs.Origin.{Origin}
use Rattle.eo_session.specs.State.{State, first_state, begin_reference}
use Rattle.eo_run.specs.Seen.{Seen}
use Rattle.eo_run.specs.Run.{Progress, first_progress, first_load, run_signature, run_job_reference, before_proof_after, run_check_after, run_check, run_load}
use Rattle.eo_run.specs.declared.CheckJob.{CheckJob}
use Rattle.eo_run.proofs.Runs.{Keeping, run_bind, prelude_keeps, signature_keeps, job_reference_keeps, proof_keeps, given_keeps}
use Rattle.eo_roundtrip.specs.Shown.{IsNamed}
use Rattle.eo_roundtrip.proofs.Names.{AreNamed, first-named, have-names, printed-names}
use Rattle.eo_roundtrip.proofs.ShapeNames.{read-step-names}

abbrev Any : Origin → Type 0
Any from = Unit {0}

abbrev Named : State → Type 0
Named st = AreNamed st.signature × (st.naming ≡ Several)

abbrev NamedSeen : State → List Seen → Type 0
NamedSeen st seen = Named st

begin-named : (st new : State) → Named st → begin_reference st ≡ Ok new → Named new
unfolding begin_reference
begin-named st new h e = by st.has_reference e
  where
    by : (b : Bool) → (if b then Err SecondReference else Ok (record st { has_reference = true })) ≡ Ok new → Named new
    by true k = absurd (err_is_not_ok SecondReference new k)
    by false k = subst Named (ok_injective (record st { has_reference = true }) new k) h

start-named : (closed : Bool) → Named (first_state closed)
unfolding first_state
start-named closed = (first-named, refl)

module _ (symbols : SymbolsPrintAgain limits) where
  keeping : Keeping NamedSeen Any (SymbolsFit limits)
  keeping =
      record {
        read = symbols;
        steps = λ st before from s k r al fits act h e. let kept = read-step-names s fits st from r.0 r.1 e in (kept.names h.0, kept.several h.1);
        begins = λ st new before h e. begin-named st new h e;
        reference = tt;
      }

  named : (st : State) → Named st → IsNamed st.signature
  named st h = record { read = have-names st.signature h.0; printed = printed-names st.signature h.0 }

  pub load-named : (files : Files) (name : List ℕ) (final : Progress) → run_load files name ≡ Ok final → IsNamed final.state.signature
  unfolding run_load
  load-named files name final e =
      named final.state (signature_keeps NamedSeen Any (SymbolsFit limits) keeping files tt name (first_load name) final (start-named false) e)

  -- and in which a name may have several constants
  pub load-several : (files : Files) (name : List ℕ) (final : Progress) → run_load files name ≡ Ok final → final.state.naming ≡ Several
  unfolding run_load
  load-several files name final e = (signature_keeps NamedSeen Any (SymbolsFit limits) keeping files tt name (first_load name) final (start-named false) e).1

  pub check-named : (files : Files) (job : CheckJob) (final : Progress) → run_check files job ≡ Ok final → IsNamed final.state.signature
  unfolding run_check run_check_after before_proof_after
  check-named files job final e =
      let before = run_bind _ _ final e in
      let begun = run_bind _ _ before.0 before.1 in
      let included = run_bind _ _ before.0 begun.2 in
      let begun_named = prelude_keeps NamedSeen Any (SymbolsFit limits) keeping files tt None (first_progress job) begun.0 (start-named job.closed) begun.1 in
      let include_named = given_keeps NamedSeen Any (SymbolsFit limits) keeping files (run_signature files) job.include begun.0 included.0
      (λ name k. signature_keeps NamedSeen Any (SymbolsFit limits) keeping files tt name begun.0 included.0 begun_named k) begun_named included.1 in
      named final.state
      (proof_keeps NamedSeen Any (SymbolsFit limits) keeping files tt job.proof before.0 final
      (given_keeps NamedSeen Any (SymbolsFit limits) keeping files (run_job_reference files) job.reference included.0 before.0
      (λ name k. job_reference_keeps NamedSeen Any (SymbolsFit limits) keeping files name included.0 before.0 include_named k)
      include_named included.2)
      before.2)
