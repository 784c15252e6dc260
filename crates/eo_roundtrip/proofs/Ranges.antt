-- What the operators on literals give is within its range.
use Rattle.std.specs.Prelude.{◌≡◌, ℕ, zero, suc, ◌+◌, ◌-◌, ◌*◌, ◌/◌, ◌%◌, ◌^◌, ◌<◌, ◌≤◌, ℤ, pos, negsuc, ◌+ℤ◌, ◌*ℤ◌, neg_ℤ, Bool, true, false, not, ◌&&◌, ◌||◌, nat_eq, nat_le, if◌then◌else◌, List, [], ◌∷◌, ◌++◌, map, length, take, drop, Option, Some, None, option_map, option_and_then, refl}
use Rattle.std.specs.List.{list_all, starts_with}
use Rattle.std.proofs.Common.{◌∙◌, ap, arith, pow-suc, length-append}
use Rattle.std.proofs.lemmas.Bool.{lt-ltb, ltb-true, le-leb, leb-true}
use Rattle.std.proofs.lemmas.Nat.{mod_below, pow_pos}
use Rattle.std.proofs.lemmas.List.Folds.{list_all-append}
use Rattle.eo_base.specs.Limits.{numbers_limit, bits_limit, characters_limit}
use Rattle.eo_base.proofs.Tests.{both, join}
use Rattle.eo_term.specs.declared.OpName.{OpName}
use Rattle.eo_term.specs.Tree.{Tree, Con, Num, Bits, Str, Par, Var, App, Arr, Qar, Op, truth}
use Rattle.eo_ops.specs.Operators.{Literal, Boolean, Number, BitString, Text, OpAnswer, Gives, IsStuck, IsOutOfRange, is_in_range, number, modulo, remainder, quotient, is_zero, bits_of, number_of, bit_string, exclusive_or, bit_by_bit, part, place_of, place_or_none, if_same_width, ask, is_number, is_bit_string, is_text as is_text_literal, is_boolean, logical, complement, arithmetic, negative, division, below_zero, greater, length_of, joined, extracted, found, as_number, in_width, as_bits, as_text, op_value, literal, literals, literal_tree, answer_map, is_variable, kind_value, on_literals, tree_op_value}
use Rattle.eo_ops.proofs.Numbers.{length-bits_of, modulo-lt}
use Rattle.eo_roundtrip.proofs.ReadTexts.{all-front}
use Rattle.eo_roundtrip.proofs.Within.{is_character, is_text, are_bits, is_within}

abbrev pub IsWithin : Tree → Type 0
IsWithin t = is_within t ≡ true

abbrev pub AreWithin : List Tree → Type 0
AreWithin ts = list_all is_within ts ≡ true

pub truth-within : (b : Bool) → IsWithin (truth b)
truth-within true = refl
truth-within false = refl

-- ---- literals

abbrev pub FitsLiteral : Literal → Type 0
FitsLiteral l = IsWithin (literal_tree l)

abbrev AllFit : List Literal → Type 0
AllFit [] = Unit {0}
AllFit (l ∷ ls) = FitsLiteral l × AllFit ls

abbrev AnswerFits : OpAnswer Literal → Type 0
AnswerFits (Gives l) = FitsLiteral l
AnswerFits IsStuck = Unit {0}
AnswerFits IsOutOfRange = Unit {0}

pub small-fits : (n : ℕ) → n ≤ 1_048_576 → is_in_range (pos n) ≡ true
small-fits n h = lt-ltb n numbers_limit (omega (arith, h))

-- a number that is tested
number-fits : (z : ℤ) → AnswerFits (number z)
number-fits z = by_range (is_in_range z) refl
  where
    by_range : (b : Bool) → is_in_range z ≡ b → AnswerFits (if b then Gives (Number z) else IsOutOfRange)
    by_range true e = e
    by_range false e = tt

pub bits-fit : (w v : ℕ) → w ≤ bits_limit → v < 2 ^ w → are_bits w v ≡ true
bits-fit w v few low = join (le-leb w bits_limit few) (lt-ltb v (2 ^ w) low)

pub bits-few : (w v : ℕ) → are_bits w v ≡ true → w ≤ bits_limit
bits-few w v h = leb-true w bits_limit (both h).0

pub bits-low : (w v : ℕ) → are_bits w v ≡ true → v < 2 ^ w
bits-low w v h = ltb-true v (2 ^ w) (both h).1

number-below : (bs : List Bool) → number_of bs < 2 ^ length bs
number-below [] = omega arith
number-below (b ∷ bs) = by_bit b (number-below bs)
  where
    twice : 2 ^ suc (length bs) ≡ 2 * 2 ^ length bs
    twice = pow-suc 2 (length bs) ∙ omega arith

    by_bit : (c : Bool) → number_of bs < 2 ^ length bs → (if c then 1 else 0) + 2 * number_of bs < 2 ^ suc (length bs)
    by_bit true rest = omega (arith, rest, twice)
    by_bit false rest = omega (arith, rest, twice)

bit_string-fits : (bs : List Bool) → length bs ≤ bits_limit → FitsLiteral (bit_string bs)
bit_string-fits bs few = bits-fit (length bs) (number_of bs) few (number-below bs)

same-fits : (w x : ℕ) (a : OpAnswer Literal) → AnswerFits a → AnswerFits (if_same_width w x a)
same-fits w x a h = by_test (nat_eq w x)
  where
    by_test : (b : Bool) → AnswerFits (if b then a else IsStuck)
    by_test true = h
    by_test false = tt

-- ---- operators on truth values and bits

ask-fits : (test : Literal → Bool) (ls : List Literal) → AnswerFits (ask test ls)
ask-fits test (a ∷ []) = truth-within (test a)
ask-fits test _ = tt

length-by_bit : (f : Bool → Bool → Bool) (xs ys : List Bool) → length (bit_by_bit f xs ys) ≤ length xs
length-by_bit f (x ∷ xs) (y ∷ ys) = omega (arith, length-by_bit f xs ys)
length-by_bit f [] ys = omega arith
length-by_bit f (x ∷ xs) [] = omega arith

length-mapped : (f : Bool → Bool) (bs : List Bool) → length (map f bs) ≡ length bs
length-mapped f [] = refl
length-mapped f (b ∷ bs) = ap suc (length-mapped f bs)

logical-fits : (f : Bool → Bool → Bool) (ls : List Literal) → AllFit ls → AnswerFits (logical f ls)
logical-fits f (Boolean a ∷ Boolean b ∷ []) h = truth-within (f a b)
logical-fits f (BitString w a ∷ BitString x b ∷ []) h =
    same-fits w x _ (bit_string-fits (bit_by_bit f (bits_of w a) (bits_of w b)) (omega (arith, bits-few w a h.0, length-by_bit f (bits_of w a) (bits_of w b), length-bits_of w a)))
logical-fits f _ h = tt

complement-fits : (ls : List Literal) → AllFit ls → AnswerFits (complement ls)
complement-fits (Boolean a ∷ []) h = truth-within (not a)
complement-fits (BitString w a ∷ []) h =
    bit_string-fits (map not (bits_of w a)) (omega (arith, bits-few w a h.0, length-mapped not (bits_of w a), length-bits_of w a))
complement-fits _ h = tt

-- ---- arithmetic

arithmetic-fits : (f : ℤ → ℤ → ℤ) (g : ℕ → ℕ → ℕ) (ls : List Literal) → AllFit ls → AnswerFits (arithmetic f g ls)
arithmetic-fits f g (Number a ∷ Number b ∷ []) h = number-fits (f a b)
arithmetic-fits f g (BitString w a ∷ BitString x b ∷ []) h =
    same-fits w x _ (bits-fit w (g a b % 2 ^ w) (bits-few w a h.0) (mod_below (g a b) (2 ^ w) (pow_pos w)))
arithmetic-fits f g _ h = tt

negative-fits : (ls : List Literal) → AllFit ls → AnswerFits (negative ls)
negative-fits (Number a ∷ []) h = number-fits (neg_ℤ a)
negative-fits (BitString w a ∷ []) h = bits-fit w ((2 ^ w - a) % 2 ^ w) (bits-few w a h.0) (mod_below (2 ^ w - a) (2 ^ w) (pow_pos w))
negative-fits _ h = tt

division-fits : (f : ℤ → ℤ → ℤ) (g : ℕ → ℕ → ℕ) →
    ((a b : ℤ) → is_in_range b ≡ true → is_zero b ≡ false → is_in_range (quotient a b) ≡ true → is_in_range (f a b) ≡ true) →
    ((a b : ℕ) → nat_eq b 0 ≡ false → g a b ≤ a) → (ls : List Literal) → AllFit ls → AnswerFits (division f g ls)
division-fits f g numbers bits (Number a ∷ Number b ∷ []) h = by_zero (is_zero b) refl
  where
    by_range : (c : Bool) → is_zero b ≡ false → is_in_range (quotient a b) ≡ c → AnswerFits (if c then Gives (Number (f a b)) else IsOutOfRange)
    by_range true e r = numbers a b h.1.0 e r
    by_range false e r = tt

    by_zero : (c : Bool) → is_zero b ≡ c → AnswerFits (if c then IsStuck else (if is_in_range (quotient a b) then Gives (Number (f a b)) else IsOutOfRange))
    by_zero true e = tt
    by_zero false e = by_range (is_in_range (quotient a b)) e refl
division-fits f g numbers bits (BitString w a ∷ BitString x b ∷ []) h = same-fits w x _ (by_zero (nat_eq b 0) refl)
  where
    by_zero : (c : Bool) → nat_eq b 0 ≡ c → AnswerFits (if c then IsStuck else Gives (BitString w (g a b)))
    by_zero true e = tt
    by_zero false e = bits-fit w (g a b) (bits-few w a h.0) (omega (arith, bits a b e, bits-low w a h.0))
division-fits f g numbers bits _ h = tt

quotient-fits : (a b : ℤ) → is_in_range b ≡ true → is_zero b ≡ false → is_in_range (quotient a b) ≡ true → is_in_range (quotient a b) ≡ true
quotient-fits a b h e r = r

remainder-fits : (a b : ℤ) → is_in_range b ≡ true → is_zero b ≡ false → is_in_range (quotient a b) ≡ true → is_in_range (remainder a b) ≡ true
remainder-fits a (pos zero) h e r = absurd (cc)
remainder-fits a (pos (suc m)) h e r =
    lt-ltb (modulo a (suc m)) numbers_limit (omega (arith, modulo-lt a m, ltb-true (suc m) numbers_limit h))
remainder-fits a (negsuc m) h e r =
    lt-ltb (modulo a (suc m)) numbers_limit (omega (arith, modulo-lt a m, ltb-true m numbers_limit h))

divided : (a b : ℕ) → nat_eq b 0 ≡ false → a / b ≤ a
divided a zero e = absurd (cc)
divided a (suc b) e = omega arith

rest-of : (a b : ℕ) → nat_eq b 0 ≡ false → a % b ≤ a
rest-of a zero e = absurd (cc)
rest-of a (suc b) e = omega arith

below_zero-fits : (ls : List Literal) → AnswerFits (below_zero ls)
below_zero-fits (Number a ∷ []) = truth-within _
below_zero-fits _ = tt

greater-fits : (ls : List Literal) → AnswerFits (greater ls)
greater-fits (Number a ∷ Number b ∷ []) = truth-within _
greater-fits (BitString w a ∷ BitString x b ∷ []) = same-fits w x _ (truth-within _)
greater-fits _ = tt

-- ---- texts and parts

text-few : (s : List ℕ) → is_text s ≡ true → length s ≤ characters_limit
text-few s h = leb-true (length s) characters_limit (both h).1

text-fits : (s : List ℕ) → list_all is_character s ≡ true → length s ≤ characters_limit → is_text s ≡ true
text-fits s h few = join h (le-leb (length s) characters_limit few)

length_of-fits : (ls : List Literal) → AllFit ls → AnswerFits (length_of ls)
length_of-fits (BitString w a ∷ []) h = small-fits w (omega (arith, bits-few w a h.0))
length_of-fits (Text s ∷ []) h = small-fits (length s) (omega (arith, text-few s h.0))
length_of-fits _ h = tt

pub text-all : (s : List ℕ) → is_text s ≡ true → list_all is_character s ≡ true
text-all s h = (both h).0

both-hold : (a b : Bool) → a ≡ true → b ≡ true → (a && b) ≡ true
both-hold a b h k = join h k

joined-text : (s t : List ℕ) → is_text s ≡ true → is_text t ≡ true → length s + length t ≤ characters_limit → is_text (s ++ t) ≡ true
joined-text s t h k few =
    text-fits (s ++ t) (list_all-append is_character s t ∙ both-hold (list_all is_character s) (list_all is_character t) (text-all s h) (text-all t k))
    (omega (arith, few, length-append s t))

joined-fits : (ls : List Literal) → AllFit ls → AnswerFits (joined ls)
joined-fits (BitString w a ∷ BitString x b ∷ []) h = by_width (nat_le (w + x) bits_limit) refl
  where
    by_width : (c : Bool) → nat_le (w + x) bits_limit ≡ c → AnswerFits (if c then Gives (bit_string (bits_of x b ++ bits_of w a)) else IsOutOfRange)
    by_width true e =
        bit_string-fits (bits_of x b ++ bits_of w a)
        (omega (arith, leb-true (w + x) bits_limit e, length-append (bits_of x b) (bits_of w a), length-bits_of x b, length-bits_of w a))
    by_width false e = tt
joined-fits (Text s ∷ Text t ∷ []) h = by_length (nat_le (length s + length t) characters_limit) refl
  where
    by_length : (c : Bool) → nat_le (length s + length t) characters_limit ≡ c → AnswerFits (if c then Gives (Text (s ++ t)) else IsOutOfRange)
    by_length true e = joined-text s t h.0 h.1.0 (leb-true (length s + length t) characters_limit e)
    by_length false e = tt
joined-fits _ h = tt

taken-few : {X : Type 0} (n : ℕ) (xs : List X) → length (take n xs) ≤ length xs
taken-few zero xs = omega arith
taken-few (suc n) [] = omega arith
taken-few (suc n) (x ∷ xs) = omega (arith, taken-few n xs)

dropped-few : {X : Type 0} (n : ℕ) (xs : List X) → length (drop n xs) ≤ length xs
dropped-few zero xs = omega arith
dropped-few (suc n) [] = omega arith
dropped-few (suc n) (x ∷ xs) = omega (arith, dropped-few n xs)

part-few : {X : Type 0} (xs : List X) (i j : ℤ) → length (part xs i j) ≤ length xs
part-few xs (pos i) (pos j) = omega (arith, taken-few (suc j - i) (drop i xs), dropped-few i xs)
part-few xs (pos i) (negsuc j) = omega arith
part-few xs (negsuc i) j = omega arith

all-dropped : (p : ℕ → Bool) (n : ℕ) (xs : List ℕ) → list_all p xs ≡ true → list_all p (drop n xs) ≡ true
all-dropped p zero xs h = h
all-dropped p (suc n) [] h = refl
all-dropped p (suc n) (x ∷ xs) h = all-dropped p n xs (both h).1

all-part : (p : ℕ → Bool) (xs : List ℕ) (i j : ℤ) → list_all p xs ≡ true → list_all p (part xs i j) ≡ true
all-part p xs (pos i) (pos j) h = all-front p (suc j - i) (drop i xs) (all-dropped p i xs h)
all-part p xs (pos i) (negsuc j) h = refl
all-part p xs (negsuc i) j h = refl

extracted-fits : (ls : List Literal) → AllFit ls → AnswerFits (extracted ls)
extracted-fits (BitString w a ∷ Number i ∷ Number j ∷ []) h =
    bit_string-fits (part (bits_of w a) i j) (omega (arith, bits-few w a h.0, part-few (bits_of w a) i j, length-bits_of w a))
extracted-fits (Text s ∷ Number i ∷ Number j ∷ []) h =
    text-fits (part s i j) (all-part is_character s i j (both h.0).0) (omega (arith, text-few s h.0, part-few s i j))
extracted-fits _ h = tt

-- a place in a text of so many characters
abbrev PlaceWithin : ℕ → Option ℕ → Type 0
PlaceWithin n None = Unit {0}
PlaceWithin n (Some k) = k ≤ n

place-within : (t s : List ℕ) → PlaceWithin (length s) (place_of t s)
place-within t [] = by_test (starts_with nat_eq [] t)
  where
    by_test : (b : Bool) → PlaceWithin 0 (if b then Some 0 else None)
    by_test true = omega arith
    by_test false = tt
place-within t (c ∷ s) = by_test (starts_with nat_eq (c ∷ s) t) (place_of t s) (place-within t s)
  where
    by_test : (b : Bool) (o : Option ℕ) → PlaceWithin (length s) o → PlaceWithin (suc (length s)) (if b then Some 0 else option_map suc o)
    by_test true o h = omega arith
    by_test false None h = tt
    by_test false (Some k) h = omega (arith, h)

pub place-fits : (n : ℕ) (o : Option ℕ) → n ≤ 1_048_576 → PlaceWithin n o → is_in_range (place_or_none o) ≡ true
place-fits n None few h = refl
place-fits n (Some k) few h = small-fits k (omega (arith, few, h))

found-fits : (ls : List Literal) → AllFit ls → AnswerFits (found ls)
found-fits (Text s ∷ Text t ∷ []) h = place-fits (length s) (place_of t s) (omega (arith, text-few s h.0)) (place-within t s)
found-fits _ h = tt

-- ---- conversions

modulo-below : (a : ℤ) (m : ℕ) → 0 < m → modulo a m < m
modulo-below a zero h = absurd (omega (arith, h))
modulo-below a (suc m) h = modulo-lt a m

as_number-fits : (ls : List Literal) → AllFit ls → AnswerFits (as_number ls)
as_number-fits (Number a ∷ []) h = h.0
as_number-fits (BitString w a ∷ []) h = number-fits (pos a)
as_number-fits (Text (c ∷ []) ∷ []) h = small-fits c (omega (arith, leb-true c 0x2_ffff (both (both h.0).0).0))
as_number-fits _ h = tt

in_width-fits : (w n : ℤ) → AnswerFits (in_width w n)
in_width-fits (pos w) n = by_width (nat_le w bits_limit) refl
  where
    by_width : (b : Bool) → nat_le w bits_limit ≡ b → AnswerFits (if b then Gives (BitString w (modulo n (2 ^ w))) else IsOutOfRange)
    by_width true e = bits-fit w (modulo n (2 ^ w)) (leb-true w bits_limit e) (modulo-below n (2 ^ w) (pow_pos w))
    by_width false e = tt
in_width-fits (negsuc w) n = tt

as_bits-fits : (ls : List Literal) → AnswerFits (as_bits ls)
as_bits-fits (Number w ∷ Number n ∷ []) = in_width-fits w n
as_bits-fits (Number w ∷ BitString x n ∷ []) = in_width-fits w (pos n)
as_bits-fits _ = tt

as_text-fits : (ls : List Literal) → AllFit ls → AnswerFits (as_text ls)
as_text-fits (Number (pos c) ∷ []) h = by_test (nat_le c 0x2_ffff) refl
  where
    by_test : (b : Bool) → nat_le c 0x2_ffff ≡ b → AnswerFits (if b then Gives (Text (c ∷ [])) else IsStuck)
    by_test true e = join (join e refl) refl
    by_test false e = tt
as_text-fits (Text s ∷ []) h = h.0
as_text-fits _ h = tt

-- ---- each operator

op_value-fits : (o : OpName) (ls : List Literal) → AllFit ls → AnswerFits (op_value o ls)
op_value-fits OpName.IsZ ls h = ask-fits is_number ls
op_value-fits OpName.IsBin ls h = ask-fits is_bit_string ls
op_value-fits OpName.IsStr ls h = ask-fits is_text_literal ls
op_value-fits OpName.IsBool ls h = ask-fits is_boolean ls
op_value-fits OpName.IsVar ls h = ask-fits (λ l. false) ls
op_value-fits OpName.And ls h = logical-fits ◌&&◌ ls h
op_value-fits OpName.Or ls h = logical-fits ◌||◌ ls h
op_value-fits OpName.Xor ls h = logical-fits exclusive_or ls h
op_value-fits OpName.Not ls h = complement-fits ls h
op_value-fits OpName.Add ls h = arithmetic-fits ◌+ℤ◌ ◌+◌ ls h
op_value-fits OpName.Mul ls h = arithmetic-fits ◌*ℤ◌ ◌*◌ ls h
op_value-fits OpName.Neg ls h = negative-fits ls h
op_value-fits OpName.Zdiv ls h = division-fits quotient ◌/◌ quotient-fits divided ls h
op_value-fits OpName.Zmod ls h = division-fits remainder ◌%◌ remainder-fits rest-of ls h
op_value-fits OpName.IsNeg ls h = below_zero-fits ls
op_value-fits OpName.Gt ls h = greater-fits ls
op_value-fits OpName.Len ls h = length_of-fits ls h
op_value-fits OpName.Concat ls h = joined-fits ls h
op_value-fits OpName.Extract ls h = extracted-fits ls h
op_value-fits OpName.Find ls h = found-fits ls h
op_value-fits OpName.ToZ ls h = as_number-fits ls h
op_value-fits OpName.ToBin ls h = as_bits-fits ls
op_value-fits OpName.ToStr ls h = as_text-fits ls h
op_value-fits _ ls h = tt

-- ---- trees as literals

abbrev SomeFits : Option Literal → Type 0
SomeFits None = Unit {0}
SomeFits (Some l) = FitsLiteral l

abbrev SomeFit : Option (List Literal) → Type 0
SomeFit None = Unit {0}
SomeFit (Some ls) = AllFit ls

literal-fits : (t : Tree) → IsWithin t → SomeFits (literal t)
literal-fits (Con k) h = by_tests (nat_eq k 2) (nat_eq k 3)
  where
    by_tests : (a b : Bool) → SomeFits (if a then Some (Boolean true) else (if b then Some (Boolean false) else None))
    by_tests true b = refl
    by_tests false true = refl
    by_tests false false = tt
literal-fits (Num z) h = h
literal-fits (Bits w n) h = h
literal-fits (Str s) h = h
literal-fits (Par i) h = tt
literal-fits (Var s t) h = tt
literal-fits (App f x) h = tt
literal-fits (Arr a b) h = tt
literal-fits (Qar i t b) h = tt
literal-fits (Op c ts) h = tt

literals-fit : (ts : List Tree) → AreWithin ts → SomeFit (literals ts)
literals-fit [] h = tt
literals-fit (t ∷ ts) h = first (literal t) (literals ts) (literal-fits t (both h).0) (literals-fit ts (both h).1)
  where
    first : (o : Option Literal) (os : Option (List Literal)) → SomeFits o → SomeFit os → SomeFit (option_and_then (λ l. option_map (λ ls. l ∷ ls) os) o)
    first None os h k = tt
    first (Some l) None h k = tt
    first (Some l) (Some ls) h k = (h, k)

-- what is given for trees
abbrev pub GivesWithin : OpAnswer Tree → Type 0
GivesWithin (Gives t) = IsWithin t
GivesWithin IsStuck = Unit {0}
GivesWithin IsOutOfRange = Unit {0}

kind-within : (o : OpName) (ts : List Tree) → GivesWithin (kind_value o ts)
kind-within OpName.IsZ (t ∷ []) = refl
kind-within OpName.IsBin (t ∷ []) = refl
kind-within OpName.IsStr (t ∷ []) = refl
kind-within OpName.IsBool (t ∷ []) = refl
kind-within OpName.IsVar (t ∷ []) = truth-within (is_variable t)
kind-within _ _ = tt

pub operators-within : (o : OpName) (ts : List Tree) → AreWithin ts → GivesWithin (tree_op_value o ts)
operators-within o ts h = by_literals (literals ts) (literals-fit ts h)
  where
    mapped : (a : OpAnswer Literal) → AnswerFits a → GivesWithin (answer_map literal_tree a)
    mapped (Gives l) f = f
    mapped IsStuck f = tt
    mapped IsOutOfRange f = tt

    by_literals : (ls : Option (List Literal)) → SomeFit ls → GivesWithin (on_literals o ts ls)
    by_literals None f = kind-within o ts
    by_literals (Some ls) f = mapped (op_value o ls) (op_value-fits o ls f)
