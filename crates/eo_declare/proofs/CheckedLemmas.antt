-- Checks in order of which the first is known.
use Rattle.std.proofs.Common.{◌≡◌, Bool, true, false, ap}
use Rattle.std.specs.Prelude.{Ok, Err}
use Rattle.eo_base.specs.declared.FaultName.{FaultName}
use Rattle.eo_base.specs.Checks.{Checked, ◌>>=◌, require}

pub then-ok : {A B : Type 0} (f : A → Checked B) (m : Checked A) (x : A) → m ≡ Ok x → (m >>= f) ≡ f x
unfolding ◌>>=◌
then-ok f m x e = ap (λ n. n >>= f) e

pub then-err : {A B : Type 0} (f : A → Checked B) (m : Checked A) (fault : FaultName) → m ≡ Err fault → (m >>= f) ≡ Err fault
unfolding ◌>>=◌
then-err f m fault e = ap (λ n. n >>= f) e

pub require-yes : {A : Type 0} (b : Bool) (fault : FaultName) (rest : Checked A) → b ≡ true → (require b fault >>= λ _. rest) ≡ rest
unfolding ◌>>=◌ require
require-yes b fault rest e = ap (λ x. require x fault >>= λ _. rest) e

pub require-no : {A : Type 0} (b : Bool) (fault : FaultName) (rest : Checked A) → b ≡ false → (require b fault >>= λ _. rest) ≡ Err fault
unfolding ◌>>=◌ require
require-no b fault rest e = ap (λ x. require x fault >>= λ _. rest) e
