-- A code for states, by which a value that holds one can be the model of a type. No definition rests on it.
use Rattle.std.specs.Prelude.{ℕ, Bool, List, refl}
use Rattle.std.specs.Coded.{Coded, code_by, coded×, coded_ℕ, coded_bool, coded_list}
use Rattle.eo_sig.specs.Code.{signature_code, macro_code}
use Rattle.eo_sig.specs.Signature.{Signature, Macro}
use Rattle.eo_term.specs.Tree.{Tree}
use Rattle.eo_term.specs.Code.{tree_code}
use Rattle.eo_term.specs.Terms.{Terms}
use Rattle.eo_term.specs.TermsCode.{terms_code}
use Rattle.eo_proof.specs.Scopes.{Scope, Scopes, Fact}
use Rattle.eo_names.specs.Contexts.{Naming}
use Rattle.eo_session.specs.NamingCode.{naming_code}
use Rattle.eo_session.specs.State.{State}
use Rattle.eo_session.specs.Stepping.{Standing}

abbrev pub fact_code : Coded Fact
fact_code = code_by (List ℕ × (Tree × ℕ)) (coded× (coded_list coded_ℕ) (coded× tree_code coded_ℕ)) (λ f. (f.name, (f.formula, f.number))) (λ p. record { name = p.0; formula = p.1.0; number = p.1.1 }) (λ _. refl)

abbrev pub scope_code : Coded Scope
scope_code = code_by (Tree × List Fact) (coded× tree_code (coded_list fact_code)) (λ s. (s.hypothesis, s.facts)) (λ p. record { hypothesis = p.0; facts = p.1 }) (λ _. refl)

abbrev pub scopes_code : Coded Scopes
scopes_code = code_by (List Fact × List Scope) (coded× (coded_list fact_code) (coded_list scope_code)) (λ f. (f.outermost, f.opened)) (λ p. record { outermost = p.0; opened = p.1 }) (λ _. refl)

abbrev pub StateParts : Type 0
StateParts = (Signature × (List Macro × List ℕ)) × ((List Tree × Bool) × (Scopes × (Bool × (Bool × (Naming × ℕ)))))

abbrev pub state_code : Coded State
state_code =
    code_by StateParts (coded× (coded× signature_code (coded× (coded_list macro_code) (coded_list coded_ℕ))) (coded× (coded× (coded_list tree_code) coded_bool) (coded× scopes_code (coded× coded_bool (coded× coded_bool (coded× naming_code coded_ℕ))))))
    (λ st. ((st.signature, (st.macros, st.outer_macros)), ((st.assertions, st.has_reference), (st.scopes, (st.sorry, (st.closed, (st.naming, st.commands)))))))
    (λ p. record { signature = p.0.0; macros = p.0.1.0; outer_macros = p.0.1.1; assertions = p.1.0.0; has_reference = p.1.0.1; scopes = p.1.1.0; sorry = p.1.1.1.0; closed = p.1.1.1.1.0; naming = p.1.1.1.1.1.0; commands = p.1.1.1.1.1.1 })
    (λ _. refl)

abbrev pub standing_code : Coded Standing
standing_code =
    code_by (Bool × (State × Terms)) (coded× coded_bool (coded× state_code terms_code)) (λ s. (s.ended, (s.state, s.terms))) (λ p. record { ended = p.0; state = p.1.0; terms = p.1.1 }) (λ _. refl)
