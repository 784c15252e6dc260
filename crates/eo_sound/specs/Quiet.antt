-- What a command leaves that declares no program and no rule.
use Rattle.std.specs.Prelude.{◌≡◌, ◌++◌}
use Rattle.eo_session.specs.State.{State}
use Rattle.eo_sig.specs.Signature.{Signature, programs, rules}

-- the session is closed or not as it was, with the same programs and rules, and its signature has only grown
pub record IsQuiet (st new : State) : Type 0 where
  pub closed : new.closed ≡ st.closed
  pub programs_stay : programs new.signature ≡ programs st.signature
  pub rules_stay : rules new.signature ≡ rules st.signature
  pub grows : (later : Signature) × (new.signature ≡ st.signature ++ later)
