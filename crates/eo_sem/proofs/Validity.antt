-- A state that is reached after the suite by rules that preserve truth: where `false` is a fact of it, its assertions have no model.
use Rattle.std.specs.Prelude.{if◌then◌else◌, ◌≡◌, Bool, true, false, [], ◌++◌, None, Ok, Err, refl}
use Rattle.std.proofs.Common.{sym, ◌∙◌, ap, subst, append-nil, append_assoc}
use Rattle.eo_base.proofs.ChecksLemmas.{ok_injective, err_is_not_ok}
use Rattle.eo_base.specs.declared.FaultName.TheVariants.{SecondReference}
use Rattle.eo_cpc.specs.Suite.{suite}
use Rattle.eo_run.specs.Run.{commands_of}
use Rattle.eo_sem.proofs.Semantic.{no_false}
use Rattle.eo_sem.proofs.Accepted.{all_there}
use Rattle.eo_sem.proofs.SuiteRun.{suite_after}
use Rattle.eo_sem.specs.Suite.{suite_signature}
use Rattle.eo_sem.specs.CommandLaws.{CommandLaws}
use Rattle.eo_sem.specs.Reached.{ReachedBy, is_first, begins, accepts}
use Rattle.eo_sem.specs.SemanticRules.{is_semantic}
use Rattle.eo_sem.specs.Suite.{suite_state}
use Rattle.eo_sem.specs.Truth.{HaveNoModel}
use Rattle.eo_session.specs.Origin as origin
use Rattle.eo_session.specs.State.{State, first_state, begin_reference, end_fault}
use Rattle.eo_sig.specs.Signature.{Signature, rules}
use Rattle.eo_sound.specs.Quiet.{IsQuiet}
use Rattle.eo_sound.specs.Soundness.{IsSoundBy}

-- the session is closed, with the rules of the suite, and its signature begins with the suite's
pub record FollowsSuite (st : State) : Type 0 where
  pub closed : st.closed ≡ true
  pub same : rules st.signature ≡ rules suite_signature
  pub starts : (later : Signature) × (st.signature ≡ suite_signature ++ later)

module _ (laws : CommandLaws) where
  -- ---- the suite

  suite_sound : IsSoundBy is_semantic suite_state
  suite_sound =
      all_there (IsSoundBy is_semantic) origin.Signature (λ st s r h may e. laws.command st origin.Signature s r h may e) (commands_of false suite) (first_state true) (laws.first true) suite_state suite_after

  pub suite_follows : FollowsSuite suite_state
  unfolding suite_state first_state
  suite_follows = record { closed = refl; same = refl; starts = ([], sym (append-nil suite_signature)) }

  -- ---- what follows

  pub quiet_follows : (st new : State) → FollowsSuite st → new.closed ≡ st.closed → IsQuiet st new → FollowsSuite new
  quiet_follows st new b c q = record {
    closed = c ∙ b.closed;
    same = q.rules_stay ∙ b.same;
    starts = (b.starts.0 ++ q.grows.0, q.grows.1 ∙ (ap (λ (S : Signature). S ++ q.grows.0) b.starts.1 ∙ append_assoc suite_signature b.starts.0 q.grows.0));
  }

  pub begun_follows : (st new : State) → FollowsSuite st → begin_reference st ≡ Ok new → FollowsSuite new
  unfolding begin_reference
  begun_follows st new b e = by st.has_reference e
    where
      by : (h : Bool) → (if h then Err SecondReference else Ok (record st { has_reference = true })) ≡ Ok new → FollowsSuite new
      by true e = absurd (err_is_not_ok SecondReference new e)
      by false e = subst FollowsSuite (ok_injective (record st { has_reference = true }) new e) (record { closed = b.closed; same = b.same; starts = b.starts })

  -- ---- what is reached

  record StaysTrue (st : State) : Type 0 where
    follows : FollowsSuite st
    sound : IsSoundBy is_semantic st

  reached_true : (st : State) → ReachedBy is_semantic suite_state st → StaysTrue st
  reached_true st is_first = record { follows = suite_follows; sound = suite_sound }
  reached_true st (begins {st = old} {new = new} reached e) =
      let h = reached_true old reached in record { follows = begun_follows old new h.follows e; sound = laws.begin old new h.sound e }
  reached_true st (accepts {st = old} {new = new} from s next reached other may e) =
      let h = reached_true old reached in
      record {
        follows = quiet_follows old new h.follows (laws.stays old from s (new, next) e) (laws.quiet old from s (new, next) h.follows.closed other e);
        sound = laws.command old from s (new, next) h.sound may e;
      }

  -- Where nothing is wrong at its end, and no step used a rule that is marked as unproved, no valuation makes its assertions true.
  pub reached_refutes : (st : State) → ReachedBy is_semantic suite_state st → end_fault st ≡ None → st.sorry ≡ false → HaveNoModel st.signature st.assertions
  reached_refutes st reached ends proved V all =
      let h = reached_true st reached in
      no_false st.signature h.follows.starts.0 h.follows.starts.1 h.follows.same V st.assertions (laws.end st h.sound ends proved) all
