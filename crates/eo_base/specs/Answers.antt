-- What a call returns, by checks in order of which the first fault counts.
use Rattle.std.specs.Prelude.{◌≡◌, Result, Ok, Err, Option, IfSome}
use Rattle.eo_base.specs.declared.FaultName.{FaultName}
use Rattle.eo_base.specs.Checks.{Checked}

-- A refusal has the fault; one that has none, as when out of memory, may come whatever is found.
abbrev pub Tells : {E B : Type 0} → (E → Option FaultName) → E → Checked B → Type 0
Tells told e o = IfSome (told e) (λ fault. o ≡ Err fault)

-- what is returned is there, and is what is found
pub record IsGiven {A B : Type 0} (There : A → Type 0) (read : A → B) (o : Checked B) (a : A) : Type 0 where
  pub live : There a
  pub is : o ≡ Ok (read a)

-- a call returns what is found, or the first fault
abbrev pub Gives : {A B E : Type 0} → (E → Option FaultName) → (A → Type 0) → (A → B) → Result A E → Checked B → Type 0
Gives told There read (Ok a) o = IsGiven There read o a
Gives told There read (Err e) o = Tells told e o
