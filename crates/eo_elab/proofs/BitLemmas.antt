-- The last bits of a numeral, digit by digit.
use Rattle.std.proofs.Common.{◌≡◌, ◌<◌, ◌≤◌, ℕ, ◌+◌, ◌*◌, ◌%◌, ◌^◌, List, [], ◌∷◌, Option, None, Some, refl, sym, ap, ◌∙◌}
use Rattle.std.specs.Prelude.{◌-◌, ◌==◌, Bool, true, false, ◌&&◌, if◌then◌else◌, nat_le, option_map, option_and_then, codes, drop}
use Rattle.std.specs.List.{starts_with}
use Rattle.std.proofs.Common.{arith}
use Rattle.std.proofs.Math.Nat.{mod-add-mod, mod-mod, mod-eq_of_lt, one-le-pow}
use Rattle.std.proofs.Math.Pow.{mod-mod-pow}
use Rattle.std.proofs.lemmas.Bool.{le-leb}
use Rattle.std.proofs.lemmas.Nat.{mul-mod_first, mod_below}
use Rattle.std.proofs.lemmas.Option.{same_Some}
use Rattle.eo_lit.specs.Literals.{with_digits, digit_below, numeral}
use Rattle.eo_term.specs.Tree.{Tree, Bits}
use Rattle.eo_elab.specs.BitStrings.{within_width}
use Rattle.eo_elab.specs.Meaning.{indexed_bits, bits_of}

module _ (m : ℕ) where
  abbrev pub last : Option ℕ → Option ℕ
  last o = option_map (λ n. n % m) o

  one_more : (a b d : ℕ) → a % m ≡ b % m → (a * 10 + d) % m ≡ (b * 10 + d) % m
  one_more a b d e =
      sym (mod-add-mod (a * 10) m d)
      ∙ ap (λ x. (x + d) % m) (sym (mul-mod_first a 10 m) ∙ ap (λ x. (x * 10) % m) e ∙ mul-mod_first b 10 m)
      ∙ mod-add-mod (b * 10) m d

  pub same_last : (digits : List ℕ) (a b : ℕ) → a % m ≡ b % m → last (with_digits 10 a digits) ≡ last (with_digits 10 b digits)
  same_last [] a b e = ap Some e
  same_last (x ∷ xs) a b e = by (digit_below 10 x) (λ d. same_last xs (a * 10 + d) (b * 10 + d) (one_more a b d e))
    where
      by : (o : Option ℕ) → ((d : ℕ) → last (with_digits 10 (a * 10 + d) xs) ≡ last (with_digits 10 (b * 10 + d) xs))
          → last (option_and_then (λ d. with_digits 10 (a * 10 + d) xs) o) ≡ last (option_and_then (λ d. with_digits 10 (b * 10 + d) xs) o)
      by None h = refl
      by (Some d) h = h d

  wrapped : (a d : ℕ) → (a * 10 + d) % m ≡ ((a * 10 % m + d) % m) % m
  wrapped a d = sym (mod-add-mod (a * 10) m d) ∙ sym (mod-mod (a * 10 % m + d) m)

  -- one digit more
  pub last_next : (x : ℕ) (xs : List ℕ) (a v : ℕ) → Some v ≡ option_map (λ d. (a * 10 % m + d) % m) (digit_below 10 x) → last (with_digits 10 a (x ∷ xs)) ≡ last (with_digits 10 v xs)
  last_next x xs a v e = by (digit_below 10 x) e
    where
      by : (o : Option ℕ) → Some v ≡ option_map (λ d. (a * 10 % m + d) % m) o → last (option_and_then (λ d. with_digits 10 (a * 10 + d) xs) o) ≡ last (with_digits 10 v xs)
      by None e = cc
      by (Some d) e =
          let same : v ≡ (a * 10 % m + d) % m = same_Some _ _ e in
          same_last xs (a * 10 + d) v (wrapped a d ∙ ap (λ y. y % m) (sym same))

-- ---- a bit string of a value and a width

pub small_last : (v k : ℕ) → v < 2 ^ 128 → 2 ^ 128 ≤ 2 ^ k → v % 2 ^ k ≡ v
small_last v k h g = mod-eq_of_lt (omega (arith, h, g))

pub last_below : (v k : ℕ) → v % 2 ^ k < 2 ^ k
last_below v k = mod_below v (2 ^ k) (positive k)
  where
    positive : (k : ℕ) → 0 < 2 ^ k
    positive k = one-le-pow k 2 (omega arith)

pub bits_of_last : (w : ℕ) (o : Option ℕ) (v : ℕ) → w ≤ 128 → Some v ≡ last (2 ^ 128) o → option_map (λ n. Bits w (n % 2 ^ w)) o ≡ Some (Bits w (v % 2 ^ w))
bits_of_last w None v h e = cc
bits_of_last w (Some n) v h e =
    let same : v ≡ n % 2 ^ 128 = same_Some _ _ e in
    let whole : (128 - w) + w ≡ 128 = omega (arith, h) in
    ap (λ u. Some (Bits w u)) (sym (mod-mod-pow n (128 - w) w) ∙ ap (λ k. n % 2 ^ k % 2 ^ w) whole ∙ ap (λ u. u % 2 ^ w) (sym same))

pub no_last : (w : ℕ) (o : Option ℕ) → None ≡ last (2 ^ 128) o → option_map (λ n. Bits w (n % 2 ^ w)) o ≡ None
no_last w None e = refl
no_last w (Some n) e = cc

by_tests : (b c d : Bool) (o : Option Tree) → b ≡ true → c ≡ true → (if b && c && d then o else None) ≡ (if d then o else None)
by_tests true true d o e f = refl
by_tests true false d o e f = cc
by_tests false c d o e f = cc

pub indexed : (w : ℕ) (name : List ℕ) → 1 ≤ w → w ≤ 128 → indexed_bits w name ≡ (if starts_with ◌==◌ name (codes "bv") then option_map (λ n. Bits w (n % 2 ^ w)) (numeral (drop 2 name)) else None)
indexed w name h g = by_tests (nat_le 1 w) (nat_le w 128) (starts_with ◌==◌ name (codes "bv")) _ (le-leb 1 w h) (le-leb w 128 g)

pub indexed_other : (w : ℕ) (name : List ℕ) → 1 ≤ w → w ≤ 128 → starts_with ◌==◌ name (codes "bv") ≡ false → indexed_bits w name ≡ None
indexed_other w name h g e = indexed w name h g ∙ ap (λ b. if b then option_map (λ n. Bits w (n % 2 ^ w)) (numeral (drop 2 name)) else None) e

pub indexed_none : (w : ℕ) (name : List ℕ) → 1 ≤ w → w ≤ 128 → starts_with ◌==◌ name (codes "bv") ≡ true → None ≡ last (2 ^ 128) (numeral (drop 2 name)) → indexed_bits w name ≡ None
indexed_none w name h g e n = indexed w name h g ∙ ap (λ b. if b then option_map (λ n. Bits w (n % 2 ^ w)) (numeral (drop 2 name)) else None) e ∙ no_last w (numeral (drop 2 name)) n

pub indexed_some : (w : ℕ) (name : List ℕ) (v : ℕ) → 1 ≤ w → w ≤ 128 → starts_with ◌==◌ name (codes "bv") ≡ true → Some v ≡ last (2 ^ 128) (numeral (drop 2 name)) → indexed_bits w name ≡ Some (Bits w (v % 2 ^ w))
indexed_some w name v h g e n = indexed w name h g ∙ ap (λ b. if b then option_map (λ n. Bits w (n % 2 ^ w)) (numeral (drop 2 name)) else None) e ∙ bits_of_last w (numeral (drop 2 name)) v g n

pub of_width : (name : List ℕ) (o : Option ℕ) (w : ℕ) → Some w ≡ option_and_then within_width o → bits_of (Some name) o ≡ indexed_bits w name
of_width name None w e = cc
of_width name (Some k) w e = by (nat_le 1 k && nat_le k 128) e
  where
    by : (b : Bool) → Some w ≡ (if b then Some k else None) → indexed_bits k name ≡ indexed_bits w name
    by true e = ap (λ n. indexed_bits n name) (sym (same_Some w k e))
    by false e = cc
