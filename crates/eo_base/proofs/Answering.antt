-- What calls return at the exits of a `?`, and what a refusal says of a whole where it says it of a part.
use Rattle.std.proofs.Common.{◌≡◌, Option, None, Some, sym, subst, ap, ◌∙◌}
use Rattle.std.specs.Prelude.{Result, Ok, Err, IfOk, IfSome}
use Rattle.std.specs.Result.{IsErrAnd}
use Rattle.eo_base.specs.declared.FaultName.{FaultName}
use Rattle.eo_base.specs.Answers.{Gives, Tells}
use Rattle.eo_base.specs.Checks.{Checked}

-- a fault of a part is that of the whole
pub tells_on : {E B C : Type 0} (told : E → Option FaultName) (e : E) (o : Checked B) (p : Checked C) → ((f : FaultName) → p ≡ Err f → o ≡ Err f) → Tells told e p → Tells told e o
tells_on told e o p step h = by (told e) h
  where
    by : (m : Option FaultName) → IfSome m (λ f. p ≡ Err f) → IfSome m (λ f. o ≡ Err f)
    by None h = h
    by (Some f) h = step f h

-- the exit of a `?` has the same fault
pub gives_fault : {A B E : Type 0} (told : E → Option FaultName) (There : A → Type 0) (read : A → B) (r : Result A E) (o : Checked B) (e : E) → IsErrAnd r (λ x. x ≡ e) → Tells told e o → Gives told There read r o
gives_fault told There read (Ok a) o e q h = absurd q
gives_fault told There read (Err x) o e q h = subst (λ y. Tells told y o) (sym q) h

pub fails : {A B C E : Type 0} (told : E → Option FaultName) (There : A → Type 0) (read : A → B) (r : Result A E) (o : Checked B) (e : E) (p : Checked C) → IsErrAnd r (λ x. x ≡ e) → ((f : FaultName) → p ≡ Err f → o ≡ Err f) → Tells told e p → Gives told There read r o
fails told There read r o e p q step h = gives_fault told There read r o e q (tells_on told e o p step h)

-- what keeps every fault keeps what a refusal says
pub tells_through : {A B E : Type 0} (told : E → Option FaultName) (f : Checked A → Checked B) → ((x : FaultName) → f (Err x) ≡ Err x) → (e : E) (o : Checked A) → Tells told e o → Tells told e (f o)
tells_through told f h e o = by (told e)
  where
    by : (m : Option FaultName) → IfSome m (λ x. o ≡ Err x) → IfSome m (λ x. f o ≡ Err x)
    by None k = tt
    by (Some x) k = ap f k ∙ h x

-- what holds of everything holds of an answer
pub ok_always : {A E : Type 0} (P : A → Type 0) (r : Result A E) → ((x : A) → P x) → IfOk r P
ok_always P (Ok x) f = f x
ok_always P (Err e) f = tt

-- what a `?` returns is the error
pub at_exit : {A E : Type 0} (P : Result A E → Type 0) (r : Result A E) (x : E) → IsErrAnd r (λ e. e ≡ x) → P (Err x) → P r
at_exit P (Ok y) x e h = absurd e
at_exit P (Err y) x e h = subst (λ z. P (Err z)) (sym e) h
