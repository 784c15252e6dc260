-- What the results of checks say.
use Rattle.std.proofs.Common.{◌≡◌, Bool, true, false, Option, None, Some, sym, subst, ◌∙◌}
use Rattle.std.specs.Prelude.{Result, Ok, Err}
use Rattle.std.specs.Result.{IsErrAnd}
use Rattle.eo_base.proofs.Answering.{at_exit}
use Rattle.eo_base.specs.declared.FaultName.{FaultName}
use Rattle.eo_base.specs.declared.FaultName.TheVariants as fault
use Rattle.eo_sig.specs.declared.refused.SigRefused.{SigRefused}
use Rattle.eo_sig.specs.declared.refused.SigRefused.TheVariants as refused
use Rattle.eo_sig.specs.Refused.{Tells}
use Rattle.eo_sig.specs.Signature.{first_wrong}

-- two tests that answer whether a declaration may hold what it does, and whether it is bound
module _ (may bound a b : Bool) (is_may : a ≡ may) (is_bound : b ≡ bound) where
  pub holds_bad : a ≡ false → first_wrong may bound ≡ Some fault.BadPattern
  holds_bad t = λ i. first_wrong ((sym is_may ∙ t) i) bound

  pub is_unbound : a ≡ true → b ≡ false → first_wrong may bound ≡ Some fault.UnboundParam
  is_unbound t f = λ i. first_wrong ((sym is_may ∙ t) i) ((sym is_bound ∙ f) i)

  pub is_right : a ≡ true → b ≡ true → first_wrong may bound ≡ None
  is_right t u = λ i. first_wrong ((sym is_may ∙ t) i) ((sym is_bound ∙ u) i)

module _ (r : Result (Unit {0}) SigRefused) (f : Option FaultName) (h : Tells r f) where
  -- what was checked has no fault
  pub no_fault : (x : Unit {0}) → r ≡ Ok x → f ≡ None
  no_fault x e = subst (λ (s : Result (Unit {0}) SigRefused). Tells s f) e h

  -- a refusal of a check says the same for what was to be declared
  pub tells_refused : {X : Type 0} (s : Result X SigRefused) (e : SigRefused) → r ≡ Err e → IsErrAnd s (λ x. x ≡ e) → Tells s f
  tells_refused {X} s e g q = at_exit (λ (s : Result X SigRefused). Tells s f) s e q (by e (subst (λ (s : Result (Unit {0}) SigRefused). Tells s f) g h))
    where
      by : (e : SigRefused) → Tells {X = Unit {0}} (Err e) f → Tells {X = X} (Err e) f
      by refused.Redeclared h = h
      by refused.BadPattern h = h
      by refused.UnboundParam h = h
      by (refused.Memory e) h = h
