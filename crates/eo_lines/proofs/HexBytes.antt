-- Hexadecimal digits in lower case.
use Rattle.std.proofs.Common.{◌≡◌, ℕ, suc, ◌+◌, ◌*◌, ◌%◌, ◌==◌, Bool, true, false, ◌&&◌, List, [], ◌∷◌, length, Option, Some, None, Result, Ok, Err, refl, ap, ◌∙◌, arith, is_some, cond}
use Rattle.std.specs.Prelude.{option_map, option_and_then, if◌then◌else◌}
use Rattle.std.specs.List.{list_all}
use Rattle.std.proofs.lemmas.Bool.Decides.{nat_tests}
use Rattle.hex.specs.declared.error.FromHexError.{FromHexError}
use Rattle.hex.specs.declared.error.FromHexError.TheVariants.{OddLength}
use Rattle.hex.specs.Hex.{decode_pairs, decode_of, hex_digit_value}
use Rattle.eo_lines.specs.Forms.{hex_bytes, hex_digit}

and_no : (a : Bool) → false ≡ (a && false)
and_no true = refl
and_no false = refl

pair_step : (n : ℕ) (o q : Option ℕ) (r : Option (List ℕ)) (t : Bool) → is_some r ≡ ((n % 2 == 0) && t)
    → is_some (option_and_then (λ h. option_and_then (λ l. option_map (λ rest. (16 * h + l) ∷ rest) r) q) o)
    ≡ (((suc (suc n)) % 2 == 0) && (is_some o && (is_some q && t)))
pair_step n None q r t e = and_no ((suc (suc n)) % 2 == 0)
pair_step n (Some h) None r t e = and_no ((suc (suc n)) % 2 == 0)
pair_step n (Some h) (Some l) None t e = let m : suc (suc n) % 2 ≡ n % 2 = omega arith in rw m e
pair_step n (Some h) (Some l) (Some v) t e = let m : suc (suc n) % 2 ≡ n % 2 = omega arith in rw m e

pub hexadecimal_by : (xs : List ℕ) → is_some (hex_bytes xs) ≡ ((length xs % 2 == 0) && list_all (λ b. is_some (hex_digit b)) xs)
hexadecimal_by [] = refl
hexadecimal_by (b ∷ []) = refl
hexadecimal_by (b ∷ c ∷ xs) = pair_step (length xs) (hex_digit b) (hex_digit c) (hex_bytes xs) (list_all (λ b. is_some (hex_digit b)) xs) (hexadecimal_by xs)

digit_value : (b d : ℕ) → hex_digit b ≡ Some d → hex_digit_value b ≡ Some d
digit_value b d e = grind (arith, nat_tests)

abbrev ok : List ℕ → Result (List ℕ) FromHexError
ok w = Ok w

ok_byte : (m n : ℕ) (u w : List ℕ) → m ≡ n → Some (n ∷ u) ≡ Some w → ok (m ∷ u) ≡ ok w
ok_byte m n u w p e = cc

dec_step : (i b c : ℕ) (rest w : List ℕ) (o q : Option ℕ) (r : Option (List ℕ)) → hex_digit b ≡ o → hex_digit c ≡ q
    → ((u : List ℕ) → r ≡ Some u → decode_pairs (i + 2) rest ≡ Ok u)
    → option_and_then (λ h. option_and_then (λ l. option_map (λ rest. (16 * h + l) ∷ rest) r) q) o ≡ Some w → decode_pairs i (b ∷ c ∷ rest) ≡ Ok w
unfolding decode_pairs
dec_step i b c rest w None q r ob oc ih e = cc
dec_step i b c rest w (Some h) None r ob oc ih e = cc
dec_step i b c rest w (Some h) (Some l) None ob oc ih e = cc
dec_step i b c rest w (Some h) (Some l) (Some u) ob oc ih e =
    let m : h * 16 + l ≡ 16 * h + l = omega arith in
    rw (digit_value b h ob, digit_value c l oc, ih u refl) (ok_byte (h * 16 + l) (16 * h + l) u w m e)

decoded : (i : ℕ) (xs w : List ℕ) → hex_bytes xs ≡ Some w → decode_pairs i xs ≡ Ok w
unfolding decode_pairs
decoded i [] w e = cc
decoded i (b ∷ []) w e = cc
decoded i (b ∷ c ∷ xs) w e = dec_step i b c xs w (hex_digit b) (hex_digit c) (hex_bytes xs) refl refl (λ u h. decoded (i + 2) xs u h) e

decoded_if : (t : Bool) (q : Result (List ℕ) FromHexError) (v w : List ℕ) → q ≡ Ok w → cond t (Err OddLength) q ≡ Ok v → w ≡ v
decoded_if true q v w p e = cc
decoded_if false q v w p e = cc

decoded_some : (o : Option (List ℕ)) (xs v : List ℕ) → hex_bytes xs ≡ o → is_some o ≡ true → decode_of xs ≡ Ok v → o ≡ Some v
decoded_some None xs v p h e = cc
decoded_some (Some w) xs v p h e = ap Some (decoded_if (length xs % 2 == 1) (decode_pairs 0 xs) v w (decoded 0 xs w p) e)

pub hexadecimal_decoded : (xs v : List ℕ) → is_some (hex_bytes xs) ≡ true → decode_of xs ≡ Ok v → hex_bytes xs ≡ Some v
hexadecimal_decoded xs v h e = decoded_some (hex_bytes xs) xs v refl h e

pub none_of : {A : Type 0} (o : Option A) → is_some o ≡ false → o ≡ None
none_of None e = refl
none_of (Some x) e = cc
