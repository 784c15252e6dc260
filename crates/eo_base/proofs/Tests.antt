-- Tests that hold together, and tests of which one is enough.
use Rattle.std.proofs.Common.{◌≡◌, ℕ, suc, ◌+◌, ◌≤◌, Bool, true, false, ◌||◌, ◌&&◌, List, Option, None, Some, is_some, is_none, nat_lt, refl, sym, true≢false, arith}
use Rattle.std.specs.Str.{bytes_eq}
use Rattle.std.proofs.lemmas.Bool.{and_parts, lt-ltb, ltb-true}
use Rattle.std.proofs.lemmas.Bool.Decides.{nat_tests}
use Rattle.std.proofs.lemmas.Slice.Eq.{bytes_eq-Decides}

-- two tests of which each holds where the other does
pub same_tests : (a b : Bool) → (a ≡ true → b ≡ true) → (b ≡ true → a ≡ true) → a ≡ b
same_tests true b f g = sym (f refl)
same_tests false true f g = g refl
same_tests false false f g = refl

pub bytes_eq-flip : (x y : List ℕ) → bytes_eq x y ≡ bytes_eq y x
bytes_eq-flip x y =
    same_tests (bytes_eq x y) (bytes_eq y x) (λ h. (bytes_eq-Decides y x).1 (sym ((bytes_eq-Decides x y).0 h))) (λ h. (bytes_eq-Decides x y).1 (sym ((bytes_eq-Decides y x).0 h)))

-- the first, or the second
pub or_first : (b c : Bool) → b ≡ true → (b || c) ≡ true
or_first true c e = refl
or_first false c e = cc

pub or_second : (b c : Bool) → c ≡ true → (b || c) ≡ true
or_second true c e = refl
or_second false c e = e

pub both : {a b : Bool} → (a && b) ≡ true → (a ≡ true) × (b ≡ true)
both {a} {b} h = and_parts a b h

pub join : {a b : Bool} → a ≡ true → b ≡ true → (a && b) ≡ true
join {a = true} {b} h k = k
join {a = false} {b} h k = h

-- two tests of which one fails
pub and_first : (a b : Bool) → a ≡ false → (a && b) ≡ false
and_first a b h = λ i. h i && b

pub and_second : (a b : Bool) → b ≡ false → (a && b) ≡ false
and_second true b h = h
and_second false b h = refl

pub clash {ℓ} : {A : Type ℓ} → false ≡ true → A
clash h = absurd (true≢false (sym h))

-- what is above a limit has only what is above it over it
pub still_above : (limit m n : ℕ) → m ≤ n → nat_lt limit m ≡ true → nat_lt limit n ≡ true
still_above limit m n l e = let h = ltb-true limit m e in lt-ltb limit n (omega (arith, h, l))

-- one of two tests holds
pub from_either : {P : Type 0} (a b : Bool) → (a ≡ true → P) → (b ≡ true → P) → (a || b) ≡ true → P
from_either true b f g h = f refl
from_either false b f g h = g h

-- what is not there
pub none_is : {A : Type 0} (o : Option A) → is_some o ≡ false → o ≡ None
none_is None h = refl
none_is (Some x) h = absurd (true≢false h)

pub is_nothing : {A : Type 0} (o : Option A) → is_none o ≡ true → o ≡ None
is_nothing None h = refl
is_nothing (Some x) h = absurd (true≢false (sym h))

-- places in a list that has one element more in front
pub nat_lt-first : (n : ℕ) → true ≡ nat_lt 0 (suc n)
nat_lt-first n = grind (arith, nat_tests)

pub nat_lt-suc : (i n : ℕ) → nat_lt i n ≡ nat_lt (1 + i) (suc n)
nat_lt-suc i n = grind (arith, nat_tests)
