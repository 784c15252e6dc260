-- Lists of bits as numbers.
use Rattle.std.specs.Prelude.{◌≡◌, ℕ, zero, suc, ◌+◌, ◌-◌, ◌*◌, ◌/◌, ◌%◌, ◌^◌, ◌<◌, ◌≤◌, Bool, not, ◌&&◌, ◌||◌, nat_eq, List, ◌∷◌, ◌++◌, map, take, drop, bit_and, bit_or, bit_xor, if◌then◌else◌, refl}
use Rattle.std.proofs.Common.{sym, ◌∙◌, ap, ap₂, subst, arith, inl, inr, pow-suc, mod-lt, zero-lt-suc}
use Rattle.std.proofs.lemmas.Bool.{cases_lt}
use Rattle.std.proofs.lemmas.Nat.{and_shr, or_shr, xor_shr, and_mod, or_mod, xor_mod, mod-pow-add, pow_pos, mod_below, shr-shr, pow-add, mod-mul-add, div-add-mod', div_below}
use Rattle.std.proofs.Math.Nat.{sub-zero, mod_self, add-mul-mod_self_right, mod-add-mod, mod-eq_of_lt}
use Rattle.std.proofs.Math.Pow.{mod-mod-pow}
use Rattle.eo_ops.specs.Operators.{BitString, bits_of, number_of, bit_string, bit_by_bit, exclusive_or}
use Rattle.eo_ops.proofs.Numbers.{length-bits_of, bit_same}

-- ---- the number of the bits

pub number_of_bits : (w n : ℕ) → number_of (bits_of w n) ≡ n % 2 ^ w
number_of_bits zero n = omega arith
number_of_bits (suc w) n =
    let low : (if nat_eq (n % 2) 1 then 1 else 0) ≡ n % 2 = bit_same (n % 2) (mod-lt n (zero-lt-suc 1)) in
    let rest = number_of_bits w (n / 2) in
    let more : w + 1 ≡ suc w = omega arith in
    let whole = rw more at (mod-pow-add n w 1) in
    rw (low, rest) (omega (arith, whole))

pub bit_string_bits : (w n : ℕ) → bit_string (bits_of w n) ≡ BitString w (n % 2 ^ w)
bit_string_bits w n = ap₂ BitString (length-bits_of w n) (number_of_bits w n)

-- ---- bit by bit

-- a bit of two numbers' bits taken together, at the lowest place
abbrev OnBits : (ℕ → ℕ → ℕ) → (Bool → Bool → Bool) → Type 0
OnBits g f = (x y : ℕ) → x < 2 → y < 2 → f (nat_eq x 1) (nat_eq y 1) ≡ nat_eq (g x y) 1

on_and : OnBits bit_and ◌&&◌
on_and zero zero h k = refl
on_and zero (suc zero) h k = refl
on_and (suc zero) zero h k = refl
on_and (suc zero) (suc zero) h k = refl
on_and (suc (suc x)) y h k = absurd (omega arith)
on_and x (suc (suc y)) h k = absurd (omega arith)

on_or : OnBits bit_or ◌||◌
on_or zero zero h k = refl
on_or zero (suc zero) h k = refl
on_or (suc zero) zero h k = refl
on_or (suc zero) (suc zero) h k = refl
on_or (suc (suc x)) y h k = absurd (omega arith)
on_or x (suc (suc y)) h k = absurd (omega arith)

on_xor : OnBits bit_xor exclusive_or
on_xor zero zero h k = refl
on_xor zero (suc zero) h k = refl
on_xor (suc zero) zero h k = refl
on_xor (suc zero) (suc zero) h k = refl
on_xor (suc (suc x)) y h k = absurd (omega arith)
on_xor x (suc (suc y)) h k = absurd (omega arith)

-- an operation that goes bit by bit, by its lowest bit and the others
bit_by_bit-bits : (g : ℕ → ℕ → ℕ) (f : Bool → Bool → Bool) → OnBits g f
    → ((a b : ℕ) → g a b % 2 ^ 1 ≡ g (a % 2 ^ 1) (b % 2 ^ 1)) → ((a b : ℕ) → g a b / 2 ^ 1 ≡ g (a / 2 ^ 1) (b / 2 ^ 1))
    → (w a b : ℕ) → bit_by_bit f (bits_of w a) (bits_of w b) ≡ bits_of w (g a b)
bit_by_bit-bits g f on lowest others zero a b = refl
bit_by_bit-bits g f on lowest others (suc w) a b =
    ap₂ (λ (x : Bool) (xs : List Bool). x ∷ xs)
    (on (a % 2) (b % 2) (mod-lt a (zero-lt-suc 1)) (mod-lt b (zero-lt-suc 1)) ∙ ap (λ (n : ℕ). nat_eq n 1) (sym (lowest a b)))
    (bit_by_bit-bits g f on lowest others w (a / 2) (b / 2) ∙ ap (bits_of w) (sym (others a b)))

pub bit_by_bit_and : (w a b : ℕ) → bit_string (bit_by_bit ◌&&◌ (bits_of w a) (bits_of w b)) ≡ BitString w (bit_and a b % 2 ^ w)
bit_by_bit_and w a b =
    ap bit_string (bit_by_bit-bits bit_and ◌&&◌ on_and (λ x y. and_mod x y 1) (λ x y. and_shr x y 1) w a b) ∙ bit_string_bits w (bit_and a b)

pub bit_by_bit_or : (w a b : ℕ) → bit_string (bit_by_bit ◌||◌ (bits_of w a) (bits_of w b)) ≡ BitString w (bit_or a b % 2 ^ w)
bit_by_bit_or w a b =
    ap bit_string (bit_by_bit-bits bit_or ◌||◌ on_or (λ x y. or_mod x y 1) (λ x y. or_shr x y 1) w a b) ∙ bit_string_bits w (bit_or a b)

pub bit_by_bit_xor : (w a b : ℕ) → bit_string (bit_by_bit exclusive_or (bits_of w a) (bits_of w b)) ≡ BitString w (bit_xor a b % 2 ^ w)
bit_by_bit_xor w a b =
    ap bit_string (bit_by_bit-bits bit_xor exclusive_or on_xor (λ x y. xor_mod x y 1) (λ x y. xor_shr x y 1) w a b) ∙ bit_string_bits w (bit_xor a b)

-- the complement at the lowest place
not_lowest : (p a : ℕ) → a < 2 * p → not (nat_eq (a % 2) 1) ≡ nat_eq ((2 * p - 1 - a) % 2) 1
not_lowest p a h =
    let x = a % 2 in
    let y = (2 * p - 1 - a) % 2 in
    flipped (a % 2) ((2 * p - 1 - a) % 2) (omega arith)
  where
    flipped : (x y : ℕ) → x + y ≡ 1 → not (nat_eq x 1) ≡ nat_eq y 1
    flipped zero y e = let one : y ≡ 1 = omega arith in rw one refl
    flipped (suc zero) y e = let none : y ≡ 0 = omega arith in rw none refl
    flipped (suc (suc x)) y e = absurd (omega arith)

map-not-bits : (w a : ℕ) → a < 2 ^ w → map not (bits_of w a) ≡ bits_of w (2 ^ w - 1 - a)
map-not-bits zero a h = refl
map-not-bits (suc w) a h =
    let twice : 2 ^ suc w ≡ 2 * 2 ^ w = pow-suc 2 w ∙ omega arith in
    let below : a < 2 * 2 ^ w = omega arith in
    let half : a / 2 < 2 ^ w = omega arith in
    let others : (2 * 2 ^ w - 1 - a) / 2 ≡ 2 ^ w - 1 - a / 2 = omega arith in
    rw twice (ap₂ (λ (x : Bool) (xs : List Bool). x ∷ xs) (not_lowest (2 ^ w) a below) (map-not-bits w (a / 2) half ∙ ap (bits_of w) (sym others)))

pub complement_bits : (w a : ℕ) → a < 2 ^ w → bit_string (map not (bits_of w a)) ≡ BitString w ((2 ^ w - 1 - a) % 2 ^ w)
complement_bits w a h = ap bit_string (map-not-bits w a h) ∙ bit_string_bits w (2 ^ w - 1 - a)

-- ---- parts

pub take-bits : (n w a : ℕ) → n ≤ w → take n (bits_of w a) ≡ bits_of n a
take-bits zero w a h = refl
take-bits (suc n) zero a h = absurd (omega arith)
take-bits (suc n) (suc w) a h = ap (λ (xs : List Bool). nat_eq (a % 2) 1 ∷ xs) (take-bits n w (a / 2) (omega arith))

pub drop-bits : (s w a : ℕ) → s ≤ w → drop s (bits_of w a) ≡ bits_of (w - s) (a / 2 ^ s)
drop-bits zero w a h =
    let whole : a / 2 ^ 0 ≡ a = omega arith in
    let width : w - 0 ≡ w = omega arith in
    rw (whole, width) refl
drop-bits (suc s) zero a h = absurd (omega arith)
drop-bits (suc s) (suc w) a h =
    let ih = drop-bits s w (a / 2) (omega arith) in
    let places : a / 2 ^ 1 / 2 ^ s ≡ a / 2 ^ (1 + s) = shr-shr a 1 s in
    let width : suc w - suc s ≡ w - s = omega arith in
    let one : 1 + s ≡ suc s = omega arith in
    ih ∙ rw (width, ← one, ← places) refl

-- ---- joined

append-bits : (x b w a : ℕ) → b < 2 ^ x → bits_of x b ++ bits_of w a ≡ bits_of (x + w) (a * 2 ^ x + b)
append-bits zero b w a h =
    let none : b ≡ 0 = omega arith in
    let value : a * 2 ^ 0 + b ≡ a = omega arith in
    let width : 0 + w ≡ w = omega arith in
    rw (value, width) refl
append-bits (suc x) b w a h =
    let twice : 2 ^ suc x ≡ 2 * 2 ^ x = pow-suc 2 x ∙ omega arith in
    let half : b / 2 < 2 ^ x = omega arith in
    let product : a * (2 * 2 ^ x) ≡ 2 * (a * 2 ^ x) = omega arith in
    let lowest : (2 * (a * 2 ^ x) + b) % 2 ≡ b % 2 = omega arith in
    let others : (2 * (a * 2 ^ x) + b) / 2 ≡ a * 2 ^ x + b / 2 = omega arith in
    let width : suc x + w ≡ suc (x + w) = omega arith in
    rw (twice, product, width, lowest, others) (ap (λ (xs : List Bool). nat_eq (b % 2) 1 ∷ xs) (append-bits x (b / 2) w a half))

pub joined_bits : (w a x b : ℕ) → b < 2 ^ x → bit_string (bits_of x b ++ bits_of w a) ≡ BitString (w + x) ((a * 2 ^ x + b) % 2 ^ (w + x))
joined_bits w a x b h =
    let turned : x + w ≡ w + x = omega arith in
    ap bit_string (append-bits x b w a h) ∙ bit_string_bits (x + w) (a * 2 ^ x + b) ∙ rw turned refl

-- ---- numbers modulo a power of two

-- fewer bits after 128
pub mod_128 : (w n : ℕ) → w ≤ 128 → n % 2 ^ 128 % 2 ^ w ≡ n % 2 ^ w
mod_128 w n h =
    let k : 128 - w + w ≡ 128 = omega arith in
    ap (λ (e : ℕ). n % 2 ^ e % 2 ^ w) (sym k) ∙ mod-mod-pow n (128 - w) w

-- the negative of a value: what makes it 2^128 makes its last bits 2^w
pub neg_bits : (w r a : ℕ) → w ≤ 128 → a < 2 ^ w → (r + a) % 2 ^ 128 ≡ 0 → r % 2 ^ w ≡ (2 ^ w - a) % 2 ^ w
neg_bits w r a h fits whole = last_bits (2 ^ w) (r % 2 ^ w) a (pow_pos w) (mod_below r (2 ^ w) (pow_pos w)) fits sum
  where
    sum : (r % 2 ^ w + a) % 2 ^ w ≡ 0
    sum = mod-add-mod r (2 ^ w) a ∙ sym (mod_128 w (r + a) h) ∙ ap (λ (n : ℕ). n % 2 ^ w) whole ∙ mod-eq_of_lt (pow_pos w)

    last_bits : (p x y : ℕ) → 0 < p → x < p → y < p → (x + y) % p ≡ 0 → x ≡ (p - y) % p
    last_bits p x y pos below_x below_y e =
        elim (cases_lt (x + y) p) [
          | inl less ↦
              let none : x + y ≡ 0 = sym (mod-eq_of_lt less) ∙ e in
              let y_none : y ≡ 0 = omega arith in
              let x_none : x ≡ 0 = omega arith in
              rw (x_none, y_none, sub-zero) (sym (mod_self p))
          | inr more ↦
              let over : x + y ≡ (x + y - p) + 1 * p = omega arith in
              let rest : (x + y) % p ≡ x + y - p =
              ap (λ (n : ℕ). n % p) over ∙ add-mul-mod_self_right (x + y - p) 1 p ∙ mod-eq_of_lt {n = x + y - p} {m = p} (omega arith) in
              let none : x + y - p ≡ 0 = sym rest ∙ e in
              let is : x ≡ p - y = omega arith in
              is ∙ sym (mod-eq_of_lt {n = p - y} {m = p} (omega arith))
        ]

spread : (i j p : ℕ) → (i + suc j) * p ≡ i * p + (j * p + p)
spread i j p = omega arith

-- the bits of a number below zero, of which a value of 128 bits is made
pub below_zero_bits : (w n : ℕ) → w ≤ 128 → n < 2 ^ 128 → (2 ^ 128 - suc n) % 2 ^ w ≡ 2 ^ w - 1 - n % 2 ^ w
below_zero_bits w n h fits =
    let split : 128 - w + w ≡ 128 = omega arith in
    let power : 2 ^ 128 ≡ 2 ^ (128 - w) * 2 ^ w = ap (λ (e : ℕ). 2 ^ e) (sym split) ∙ pow-add 2 (128 - w) w in
    ap (λ (m : ℕ). (m - suc n) % 2 ^ w) power
    ∙ low_part (2 ^ w) (2 ^ (128 - w)) (n / 2 ^ w) (n % 2 ^ w) n (mod_below n (2 ^ w) (pow_pos w)) (sym (div-add-mod' n (2 ^ w)))
    (div_below n (2 ^ w) (2 ^ (128 - w)) (pow_pos w) (subst (λ (m : ℕ). n < m) power fits))
  where
    low_part : (p k q r m : ℕ) → r < p → m ≡ q * p + r → q < k → (k * p - suc m) % p ≡ p - 1 - r
    low_part p k q r m small e less =
        let others : k ≡ (k - suc q) + suc q = omega arith in
        let product : k * p ≡ (k - suc q) * p + (q * p + p) = ap (λ (j : ℕ). j * p) others ∙ spread (k - suc q) q p in
        let value : k * p - suc m ≡ (k - suc q) * p + (p - 1 - r) = omega arith in
        ap (λ (j : ℕ). j % p) value ∙ mod-mul-add (k - suc q) p (p - 1 - r) (omega arith)
