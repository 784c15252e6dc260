-- Programs have no fault: before the first command, and after each command where it was so before.
use Rattle.std.specs.Prelude.{◌≡◌, ℕ, Bool, List, [], ◌∷◌, ◌++◌, Some, None, Ok, slice_get}
use Rattle.std.proofs.Common.{sym, ◌∙◌, ap, subst, append_assoc}
use Rattle.std.proofs.lemmas.List.{append-nil}
use Rattle.std.proofs.lemmas.List.Elements.{filter_map-append}
use Rattle.std.proofs.lemmas.Option.{none-some}
use Rattle.eo_sexp.specs.Sexp.{Sexp}
use Rattle.eo_sig.specs.Signature.{Signature, SignatureEntry, IsConstant, IsProgram, IsRule, IsLiteralType, Program, program_of, programs, program_fault}
use Rattle.eo_session.proofs.Fitting.{slice_get_more}
use Rattle.eo_session.specs.Commands.{step}
use Rattle.eo_session.specs.declared.Next.{Next}
use Rattle.eo_session.specs.Origin.{Origin}
use Rattle.eo_session.specs.State.{State, first_state}
use Rattle.eo_cert.specs.Declared.{AreChecked}
use Rattle.eo_cert.proofs.Growing.{IsChecked, AllChecked, step_adds}

module _ (S : Signature) (old : AreChecked S) (k : ℕ) (p : Program) where
  none_more : slice_get (programs S ++ []) k ≡ Some p → program_fault p ≡ None
  none_more is = old k p (ap (λ (ps : List Program). slice_get ps k) (sym (append-nil (programs S))) ∙ is)

  one_more : (e : SignatureEntry) → IsChecked e → slice_get (programs S ++ programs (e ∷ [])) k ≡ Some p → program_fault p ≡ None
  one_more (IsProgram x) fits is = slice_get_more (λ (p : Program). program_fault p ≡ None) (programs S) x k p old fits is
  one_more (IsConstant d n) fits is = none_more is
  one_more (IsRule r) fits is = none_more is
  one_more (IsLiteralType class t) fits is = none_more is

entry_checked : (S : Signature) (e : SignatureEntry) → AreChecked S → IsChecked e → AreChecked (S ++ e ∷ [])
entry_checked S e old fits k p is =
    one_more S old k p e fits (ap (λ (ps : List Program). slice_get ps k) (sym (filter_map-append program_of S (e ∷ []))) ∙ is)

pub checked_more : (S later : Signature) → AreChecked S → AllChecked later → AreChecked (S ++ later)
checked_more S [] h more = subst AreChecked (sym (append-nil S)) h
checked_more S (e ∷ es) h more =
    subst AreChecked (append_assoc S (e ∷ []) es) (checked_more (S ++ e ∷ []) es (entry_checked S e h more.0) more.1)

pub first_checked : (closed : Bool) → AreChecked (first_state closed).signature
unfolding first_state
first_checked closed k p e = absurd (none-some p e)

pub step_checked : (st : State) (from : Origin) (s : Sexp) (r : State × Next) → AreChecked st.signature → step st from s ≡ Ok r → AreChecked r.0.signature
step_checked st from s r h e =
    let q = step_adds st from s r e in subst AreChecked (sym q.signature) (checked_more st.signature q.later h q.checked)
