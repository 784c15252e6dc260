-- Numbers and pairs, as they are read one by one.
use Rattle.std.proofs.Common.{◌≡◌, ℕ, zero, suc, ◌+◌, ◌-◌, ◌^◌, ◌<◌, ◌≤◌, ◌==◌, Bool, true, false, nat_lt, List, [], ◌∷◌, ◌++◌, Option, Some, None, refl, ap, sym, ◌∙◌, arith, append_assoc, length}
use Rattle.std.proofs.lemmas.Bool.Decides.{nat_tests}
use Rattle.std.specs.Prelude.{option_map, option_and_then, if◌then◌else◌, MatchOption}
use Rattle.eo_lit.specs.Literals.{numeral}
use Rattle.eo_lines.specs.Forms.{Field, field, fields, longer_first, numbers, a_list}
use Rattle.eo_lines.specs.Reading.{left, short}
use Rattle.eo_lines.specs.Lines.{Pairs}

-- a number before those that are read
abbrev joined : (ℕ × List ℕ) × List Field → List ℕ × List Field
joined r = (r.0.0 ∷ r.0.1, r.1)

abbrev beside : ℕ → List ℕ × List Field → (ℕ × List ℕ) × List Field
beside x q = ((x, q.0), q.1)

abbrev ahead : ℕ → List ℕ × List Field → List ℕ × List Field
ahead x q = (x ∷ q.0, q.1)

-- what is read, before these fields
abbrev before : List Field → ℕ → ℕ × List Field
before fs x = (x, fs)

abbrev so_many : ℕ → ℕ × List Field → Option ((ℕ × List ℕ) × List Field)
so_many n r = option_map (beside r.0) (numbers short n r.1)

-- after these
abbrev pub after : List ℕ → Option (List ℕ × List Field) → Option (List ℕ × List Field)
after xs o = option_map (λ r. (xs ++ r.0, r.1)) o

after_cons : (xs : List ℕ) (x : ℕ) (o : Option (List ℕ × List Field))
    → after xs (option_map (ahead x) o) ≡ after (xs ++ x ∷ []) o
after_cons xs x None = refl
after_cons xs x (Some r) = ap (λ ys. Some (ys, r.1)) (sym (append_assoc xs (x ∷ []) r.0))

consed : (x : ℕ) (o : Option (List ℕ × List Field))
    → option_map joined (option_map (beside x) o) ≡ option_map (ahead x) o
consed x None = refl
consed x (Some q) = refl

pub numbers_more : (n : ℕ) (xs : List ℕ) (x : ℕ) (fs rest : List Field) → Some (x, rest) ≡ field short fs
    → after xs (numbers short (suc n) fs) ≡ after (xs ++ x ∷ []) (numbers short n rest)
numbers_more n xs x fs rest e = rw (← e) (ap (after xs) (consed x (numbers short n rest)) ∙ after_cons xs x (numbers short n rest))

pub numbers_none : (n : ℕ) (xs : List ℕ) (fs : List Field) → None ≡ field short fs → None ≡ after xs (numbers short (suc n) fs)
numbers_none n xs fs e = rw (← e) refl

-- pairs after these
abbrev pub pairs_after : Pairs → Option Pairs → Option Pairs
pairs_after qs o = option_map (λ r. qs ++ r) o

pub pairs_more : (qs : Pairs) (i t : ℕ) (o : Option Pairs) → pairs_after qs (option_map (λ r. (i, t) ∷ r) o) ≡ pairs_after (qs ++ (i, t) ∷ []) o
pairs_more qs i t None = refl
pairs_more qs i t (Some r) = ap Some (sym (append_assoc qs ((i, t) ∷ []) r))

-- ---- a list has no more numbers than there are fields

longer_length : (b : ℕ) (fs : List Field) → length (longer_first b fs) ≤ suc (length fs)
longer_length b [] = omega arith
longer_length b (f ∷ fs) = omega arith

fields_step : (t : Bool) (b : ℕ) (xs : List ℕ) → length (fields xs) ≤ suc (length xs)
    → length (if t then [] ∷ fields xs else longer_first b (fields xs)) ≤ suc (suc (length xs))
fields_step true b xs h = omega (arith, h)
fields_step false b xs h = omega (arith, h, longer_length b (fields xs))

fields_few : (xs : List ℕ) → length (fields xs) ≤ suc (length xs)
fields_few [] = omega arith
fields_few (b ∷ xs) = fields_step (b == 32) b xs (fields_few xs)

left_few : (ended : Bool) (xs : List ℕ) → length (left ended xs) ≤ suc (length xs)
left_few true xs = omega arith
left_few false xs = fields_few xs

taken_step : (o : Option (ℕ × List Field)) (n : ℕ) → ((x : ℕ) (rest : List Field) → o ≡ Some (x, rest) → numbers short n rest ≡ None)
    → option_map joined (option_and_then (so_many n) o) ≡ None
taken_step None n h = refl
taken_step (Some r) n h = rw (h r.0 r.1 refl) refl

abbrev rest_of : Option (ℕ × List Field) → List Field
rest_of None = []
rest_of (Some r) = r.1

one_less : (o : Option ℕ) (fs rest : List Field) (x : ℕ) → option_map (before fs) o ≡ Some (x, rest) → fs ≡ rest
one_less None fs rest x e = cc
one_less (Some y) fs rest x e = ap rest_of e

numbers_few : (n : ℕ) (fs : List Field) → length fs < n → numbers short n fs ≡ None
numbers_few zero fs h = absurd (omega (arith, h))
numbers_few (suc n) [] h = refl
numbers_few (suc n) (f ∷ fs) h =
    taken_step (option_map (before fs) (short f)) n
    (λ x rest e. rw (← one_less (short f) fs rest x e) (numbers_few n fs (omega (arith, h))))

large_step : (b : Bool) (n : ℕ) (fs : List Field) → nat_lt n (2 ^ 64) ≡ b → length fs < 2 ^ 64 → None ≡ (if b then Some n else None) → numbers short n fs ≡ None
large_step true n fs d h e = cc
large_step false n fs d h e = numbers_few n fs (grind (arith, nat_tests))

abbrev list_after : ℕ × List Field → Option (List ℕ × List Field)
list_after r = numbers short r.0 r.1

list_from : (o : Option ℕ) (fs : List Field) → length fs < 2 ^ 64 → None ≡ option_and_then (λ n. if nat_lt n (2 ^ 64) then Some n else None) o
    → option_and_then list_after (option_map (before fs) o) ≡ None
list_from None fs h e = refl
list_from (Some n) fs h e = large_step (nat_lt n (2 ^ 64)) n fs refl h e

-- where the length has no 64 bits, no list is read
pub list_none : (f : Field) (fs : List Field) → length fs < 2 ^ 64 → None ≡ short f → a_list short (f ∷ fs) ≡ None
list_none f fs h e = list_from (numeral f) fs h e

pub left_short : (ended : Bool) (xs : List ℕ) → length xs + 1 < 2 ^ 64 → length (left ended xs) < 2 ^ 64
left_short ended xs h = omega (arith, h, left_few ended xs)

short_some : (o : Option ℕ) (n : ℕ) → Some n ≡ option_and_then (λ m. if nat_lt m (2 ^ 64) then Some m else None) o → o ≡ Some n
short_some None n e = cc
short_some (Some m) n e = some_if (nat_lt m (2 ^ 64)) m n e
  where
    some_if : (b : Bool) (m n : ℕ) → Some n ≡ (if b then Some m else None) → Some m ≡ Some n
    some_if true m n e = sym e
    some_if false m n e = cc

-- a list's length is that number, and where there is none no list is read
pub counted : (r : Option ℕ) (f : Field) (old rest : List Field) → old ≡ f ∷ rest → length rest < 2 ^ 64 → r ≡ short f
    → MatchOption r (a_list short old ≡ None) (λ n. field numeral old ≡ Some (n, rest))
counted None f old rest e few h = rw e (list_none f rest few h)
counted (Some n) f old rest e few h = rw e (ap (option_map (before rest)) (short_some (numeral f) n h))
