-- Lines whose numbers are small are those that are read of few bits.
use Rattle.std.proofs.Common.{◌≡◌, ℕ, zero, suc, ◌^◌, Bool, true, false, ◌&&◌, nat_lt, List, [], ◌∷◌, Option, Some, None, refl, ap, ◌∙◌}
use Rattle.std.specs.Prelude.{option_map, option_and_then, if◌then◌else◌, bytes_eq, codes}
use Rattle.eo_lit.specs.Literals.{numeral}
use Rattle.eo_lines.specs.Lines.{OfConstant, OfNumber, OfBits, OfString, OfParameter, OfVariable, OfApplication, OfArrow, OfBoundArrow, OfOperator, OfCall, Pairs, Line, Declares, Refers, States, Evaluates, Calls, Assumes, Cites, Steps}
use Rattle.eo_lines.specs.Forms.{Field, fields, Reader, field, both, mapped, integer, hex_bytes, maybe_number, numbers, a_list, paired, some_pairs, two_numbers, three_numbers, evaluation, call, step_place, step_use, step_end, step, term_form, call_line, form, if_all, formed, line_of}
use Rattle.eo_lines.specs.Reading.{short, wide, short_line}
use Rattle.eo_lines.specs.Sizes.{is_small, is_small_or_none, are_small, are_small_pairs, has_small_term, has_small_evaluation, has_small_call, has_small_step, has_small_numbers, if_small}

-- what is read, where it passes the test
abbrev keep : {A : Type 0} → (A → Bool) → Option (A × List Field) → Option (A × List Field)
keep f o = option_and_then (λ r. if f r.0 then Some r else None) o

-- the first reader reads what the second one does, where it passes the test
record Kept {A : Type 0} (f : A → Bool) (first second : Reader A) : Type 0 where
  pub same : (fs : List Field) → first fs ≡ keep f (second fs)

abbrev and_then : {A B : Type 0} → (A → Bool) → (B → Bool) → A × B → Bool
and_then f g p = f p.0 && g p.1

-- ---- readers of readers

-- what is read, beside what was read before it
abbrev beside : {A B : Type 0} → A → B × List Field → (A × B) × List Field
beside x q = ((x, q.0), q.1)

-- what the second reader reads, beside the first
abbrev second_after : {A B : Type 0} → Reader B → A × List Field → Option ((A × B) × List Field)
second_after second r = option_map (beside r.0) (second r.1)

abbrev made : {A B : Type 0} → (A → B) → A × List Field → B × List Field
made make r = (make r.0, r.1)

-- what is read, before these fields
abbrev before : {A : Type 0} → List Field → A → A × List Field
before fs x = (x, fs)

paired_if : {A B : Type 0} (b c : Bool) (x : A) (y : B) (fs : List Field)
    → (if b then option_map (beside x) (if c then Some (y, fs) else None) else None) ≡ (if b && c then Some ((x, y), fs) else None)
paired_if true true x y fs = refl
paired_if true false x y fs = refl
paired_if false c x y fs = refl

-- nothing is read beside it
abbrev no_second : {A B : Type 0} → A → Option ((A × B) × List Field)
no_second x = None

if_none : {A B : Type 0} (b : Bool) (x : A) → (if b then no_second {A = A} {B = B} x else None) ≡ None
if_none true x = refl
if_none false x = refl

then_if : {A B : Type 0} (second : Reader B) (b : Bool) (r : A × List Field)
    → option_and_then (second_after second) (if b then Some r else None)
    ≡ (if b then option_map (beside r.0) (second r.1) else None)
then_if second true r = refl
then_if second false r = refl

second_kept : {A B : Type 0} (f : A → Bool) (g : B → Bool) (r : A × List Field) (o : Option (B × List Field))
    → (if f r.0 then option_map (beside r.0) (keep g o) else None) ≡ keep (and_then f g) (option_map (beside r.0) o)
second_kept {A} {B} f g r None = if_none {A = A} {B = B} (f r.0) r.0
second_kept f g r (Some q) = paired_if (f r.0) (g q.0) r.0 q.0 q.1

first_kept : {A B : Type 0} (f : A → Bool) (g : B → Bool) (s l : Reader B) → Kept g s l → (o : Option (A × List Field))
    → option_and_then (second_after s) (keep f o)
    ≡ keep (and_then f g) (option_and_then (second_after l) o)
first_kept f g s l h None = refl
first_kept f g s l h (Some r) =
    then_if s (f r.0) r ∙ ((λ i. if f r.0 then option_map (beside r.0) (h.same r.1 i) else None) ∙ second_kept f g r (l r.1))

kept_both : {A B : Type 0} {f : A → Bool} {g : B → Bool} {s l : Reader A} {t m : Reader B} → Kept f s l → Kept g t m → Kept (and_then f g) (both s t) (both l m)
kept_both {A} {B} {f} {g} {s} {l} {t} {m} h k =
    record { same = λ fs. ap (option_and_then (second_after t)) (h.same fs) ∙ first_kept f g t m k (l fs) }

mapped_if : {A B : Type 0} (make : A → B) (b : Bool) (r : A × List Field)
    → option_map (made make) (if b then Some r else None) ≡ (if b then Some (make r.0, r.1) else None)
mapped_if make true r = refl
mapped_if make false r = refl

mapped_kept : {A B : Type 0} (f : A → Bool) (g : B → Bool) (make : A → B) → ((x : A) → f x ≡ g (make x)) → (o : Option (A × List Field))
    → option_map (made make) (keep f o) ≡ keep g (option_map (made make) o)
mapped_kept f g make h None = refl
mapped_kept f g make h (Some r) = mapped_if make (f r.0) r ∙ (λ i. if h r.0 i then Some (make r.0, r.1) else None)

kept_mapped : {A B : Type 0} {f : A → Bool} {s l : Reader A} (g : B → Bool) (make : A → B) → ((x : A) → f x ≡ g (make x)) → Kept f s l
    → Kept g (mapped make s) (mapped make l)
kept_mapped {A} {B} {f} {s} {l} g make h k =
    record { same = λ fs. ap (option_map (made make)) (k.same fs) ∙ mapped_kept f g make h (l fs) }

kept_if : {A : Type 0} {g : A → Bool} (b : Bool) {s l t m : Reader A} → Kept g s l → Kept g t m → Kept g (if b then s else t) (if b then l else m)
kept_if true h k = h
kept_if false h k = k

kept_none : {A : Type 0} (g : A → Bool) → Kept g (λ fs. None) (λ fs. None)
kept_none g = record { same = λ fs. refl }

-- ---- numbers

abbrev any : {A : Type 0} → A → Bool
any x = true

any_from : {A : Type 0} (o : Option (A × List Field)) → o ≡ keep any o
any_from None = refl
any_from (Some r) = refl

kept_any : {A : Type 0} (l : Reader A) → Kept any l l
kept_any l = record { same = λ fs. any_from (l fs) }

field_if : {A : Type 0} (b : Bool) (x : A) (fs : List Field) → option_map (before fs) (if b then Some x else None) ≡ (if b then Some (x, fs) else None)
field_if true x fs = refl
field_if false x fs = refl

field_from : (test : ℕ → Bool) (o : Option ℕ) (fs : List Field)
    → option_map (before fs) (option_and_then (λ n. if test n then Some n else None) o) ≡ keep test (option_map (before fs) o)
field_from test None fs = refl
field_from test (Some n) fs = field_if (test n) n fs

number_same : (fs : List Field) → field short fs ≡ keep is_small (field numeral fs)
number_same [] = refl
number_same (f ∷ fs) = field_from is_small (numeral f) fs

kept_number : Kept is_small (field short) (field numeral)
kept_number = record { same = number_same }

abbrev is_wide : ℕ → Bool
is_wide n = nat_lt n (2 ^ 128)

value_same : (fs : List Field) → field wide fs ≡ keep is_wide (field numeral fs)
value_same [] = refl
value_same (f ∷ fs) = field_from is_wide (numeral f) fs

kept_value : Kept is_wide (field wide) (field numeral)
kept_value = record { same = value_same }

some_if : (b : Bool) (n : ℕ) (fs : List Field) → option_map (before fs) (option_map Some (if b then Some n else None)) ≡ (if b then Some (Some n, fs) else None)
some_if true n fs = refl
some_if false n fs = refl

maybe_from : (o : Option ℕ) (fs : List Field)
    → option_map (before fs) (option_map Some (option_and_then (λ n. if is_small n then Some n else None) o)) ≡ keep is_small_or_none (option_map (before fs) (option_map Some o))
maybe_from None fs = refl
maybe_from (Some n) fs = some_if (is_small n) n fs

maybe_if : (b : Bool) (f : Field) (fs : List Field)
    → option_map (before fs) (if b then Some None else option_map Some (short f)) ≡ keep is_small_or_none (option_map (before fs) (if b then Some None else option_map Some (numeral f)))
maybe_if true f fs = refl
maybe_if false f fs = maybe_from (numeral f) fs

maybe_same : (fs : List Field) → maybe_number short fs ≡ keep is_small_or_none (maybe_number numeral fs)
maybe_same [] = refl
maybe_same (f ∷ fs) = maybe_if (bytes_eq f (codes "-")) f fs

kept_maybe : Kept is_small_or_none (maybe_number short) (maybe_number numeral)
kept_maybe = record { same = maybe_same }

kept_numbers : (n : ℕ) → Kept are_small (numbers short n) (numbers numeral n)
kept_numbers zero = record { same = λ fs. refl }
kept_numbers (suc n) = kept_mapped are_small (λ p. p.0 ∷ p.1) (λ p. refl) (kept_both kept_number (kept_numbers n))

abbrev list_after : (Field → Option ℕ) → ℕ × List Field → Option (List ℕ × List Field)
list_after number r = numbers number r.0 r.1

list_from : (o : Option (ℕ × List Field)) → option_and_then (list_after short) o ≡ keep are_small (option_and_then (list_after numeral) o)
list_from None = refl
list_from (Some r) = (kept_numbers r.0).same r.1

kept_list : Kept are_small (a_list short) (a_list numeral)
kept_list = record { same = λ fs. list_from (field numeral fs) }

assoc : (a b c : Bool) → ((a && b) && c) ≡ (a && (b && c))
assoc true b c = refl
assoc false b c = refl

pairs_cons : (i t : ℕ) (rest : List ℕ) (o : Option Pairs) → option_map are_small_pairs o ≡ option_map (λ qs. are_small rest) o
    → option_map are_small_pairs (option_map (λ qs. (i, t) ∷ qs) o) ≡ option_map (λ qs. are_small (i ∷ t ∷ rest)) (option_map (λ qs. (i, t) ∷ qs) o)
pairs_cons i t rest None h = refl
pairs_cons i t rest (Some qs) h = let e : are_small_pairs qs ≡ are_small rest = cc in ap Some (ap (λ b. (is_small i && is_small t) && b) e ∙ assoc (is_small i) (is_small t) (are_small rest))

pairs_small : (xs : List ℕ) → option_map are_small_pairs (paired xs) ≡ option_map (λ qs. are_small xs) (paired xs)
pairs_small [] = refl
pairs_small (i ∷ []) = refl
pairs_small (i ∷ t ∷ rest) = pairs_cons i t rest (paired rest) (pairs_small rest)

abbrev pairs_after : List ℕ × List Field → Option (Pairs × List Field)
pairs_after r = option_map (before r.1) (paired r.0)

pairs_if : (b : Bool) (o : Option Pairs) (fs : List Field) → option_map are_small_pairs o ≡ option_map (λ qs. b) o
    → (if b then option_map (before fs) o else None) ≡ keep are_small_pairs (option_map (before fs) o)
pairs_if true None fs e = refl
pairs_if false None fs e = refl
pairs_if true (Some qs) fs e = let k : are_small_pairs qs ≡ true = cc in rw k refl
pairs_if false (Some qs) fs e = let k : are_small_pairs qs ≡ false = cc in rw k refl

pairs_then : (b : Bool) (r : List ℕ × List Field)
    → option_and_then pairs_after (if b then Some r else None) ≡ (if b then pairs_after r else None)
pairs_then true r = refl
pairs_then false r = refl

pairs_from : (o : Option (List ℕ × List Field))
    → option_and_then pairs_after (keep are_small o) ≡ keep are_small_pairs (option_and_then pairs_after o)
pairs_from None = refl
pairs_from (Some r) = pairs_then (are_small r.0) r ∙ pairs_if (are_small r.0) (paired r.0) r.1 (pairs_small r.0)

kept_pairs : Kept are_small_pairs (some_pairs short) (some_pairs numeral)
kept_pairs = record { same = λ fs. ap (option_and_then pairs_after) (kept_list.same fs) ∙ pairs_from (a_list numeral fs) }

-- ---- lines by their letters

kept_two : {A : Type 0} (g : A → Bool) (make : ℕ → ℕ → A) → ((p : ℕ × ℕ) → (is_small p.0 && is_small p.1) ≡ g (make p.0 p.1)) → Kept g (two_numbers short make) (two_numbers numeral make)
kept_two g make e = kept_mapped g (λ p. make p.0 p.1) e (kept_both kept_number kept_number)

kept_three : {A : Type 0} (g : A → Bool) (make : ℕ → ℕ → ℕ → A) → ((p : ℕ × (ℕ × ℕ)) → (is_small p.0 && (is_small p.1.0 && is_small p.1.1)) ≡ g (make p.0 p.1.0 p.1.1))
    → Kept g (three_numbers short make) (three_numbers numeral make)
kept_three g make e = kept_mapped g (λ p. make p.0 p.1.0 p.1.1) e (kept_both kept_number (kept_both kept_number kept_number))

kept_evaluation : Kept has_small_evaluation (evaluation short) (evaluation numeral)
kept_evaluation =
    kept_mapped has_small_evaluation (λ p. record { term = p.0; outcome = p.1.0; depth = p.1.1.0; listed = p.1.1.1 }) (λ p. refl)
    (kept_both kept_number (kept_both kept_maybe (kept_both kept_number kept_list)))

kept_call : Kept has_small_call (call short) (call numeral)
kept_call =
    kept_mapped has_small_call (λ p. record { taken = p.0; pairs = p.1.0; body = p.1.1 }) (λ p. refl) (kept_both kept_maybe (kept_both kept_pairs kept_maybe))

abbrev small_place : ℕ × (ℕ × Option ℕ) → Bool
small_place p = is_small p.0 && (is_small p.1.0 && is_small_or_none p.1.1)

abbrev small_use : List ℕ × (List ℕ × Pairs) → Bool
small_use p = are_small p.0 && (are_small p.1.0 && are_small_pairs p.1.1)

abbrev small_end : ℕ × (Option ℕ × ℕ) → Bool
small_end p = is_small p.0 && (is_small_or_none p.1.0 && is_small p.1.1)

kept_place : Kept small_place (step_place short) (step_place numeral)
kept_place = kept_both kept_number (kept_both kept_number kept_maybe)

kept_use : Kept small_use (step_use short) (step_use numeral)
kept_use = kept_both kept_list (kept_both kept_list kept_pairs)

kept_end : Kept small_end (step_end short) (step_end numeral)
kept_end = kept_both kept_number (kept_both kept_maybe kept_number)

kept_step : Kept has_small_step (step short) (step numeral)
kept_step =
    kept_mapped has_small_step (λ p. record {
      context = p.0.0;
      rule = p.0.1.0;
      inner = p.0.1.1;
      premises = p.1.0.0;
      arguments = p.1.0.1.0;
      pairs = p.1.0.1.1;
      guarded = p.1.1.0;
      line = p.1.1.1.0;
      formula = p.1.1.1.1;
    }) (λ p. refl)
    (kept_both kept_place (kept_both kept_use kept_end))

kept_call_line : Kept has_small_numbers (call_line short) (call_line numeral)
kept_call_line = kept_mapped has_small_numbers (λ p. Calls p.0 p.1) (λ p. refl) (kept_both kept_evaluation kept_call)

kept_term : (letter : Field) → Kept has_small_term (term_form short wide letter) (term_form numeral numeral letter)
kept_term letter =
    kept_if (bytes_eq letter (codes "C")) (kept_mapped has_small_term OfConstant (λ p. refl) kept_number)
    (kept_if (bytes_eq letter (codes "N")) (kept_mapped has_small_term OfNumber (λ p. refl) (kept_any (field integer)))
    (kept_if (bytes_eq letter (codes "B")) (kept_mapped has_small_term (λ p. OfBits p.0 p.1) (λ p. refl) (kept_both kept_number kept_value))
    (kept_if (bytes_eq letter (codes "S")) (kept_mapped has_small_term OfString (λ p. refl) kept_list)
    (kept_if (bytes_eq letter (codes "P")) (kept_mapped has_small_term OfParameter (λ p. refl) kept_number)
    (kept_if (bytes_eq letter (codes "V")) (kept_two has_small_term OfVariable (λ p. refl))
    (kept_if (bytes_eq letter (codes "A")) (kept_two has_small_term OfApplication (λ p. refl))
    (kept_if (bytes_eq letter (codes "F")) (kept_two has_small_term OfArrow (λ p. refl))
    (kept_if (bytes_eq letter (codes "Q")) (kept_three has_small_term OfBoundArrow (λ p. refl))
    (kept_if (bytes_eq letter (codes "O")) (kept_mapped has_small_term (λ p. OfOperator p.0 p.1) (λ p. refl) (kept_both (kept_any (field Some)) kept_list))
    (kept_if (bytes_eq letter (codes "G")) (kept_mapped has_small_term (λ p. OfCall p.0 p.1) (λ p. refl) (kept_both kept_number kept_list))
    (kept_none has_small_term)))))))))))

kept_form : (letter : Field) → Kept has_small_numbers (form short wide letter) (form numeral numeral letter)
kept_form letter =
    kept_if (bytes_eq letter (codes "D")) (kept_mapped has_small_numbers Declares (λ p. refl) (kept_any (field hex_bytes)))
    (kept_if (bytes_eq letter (codes "R")) (kept_mapped has_small_numbers Refers (λ p. refl) (kept_any (field hex_bytes)))
    (kept_if (bytes_eq letter (codes "e")) (kept_mapped has_small_numbers Evaluates (λ p. refl) kept_evaluation)
    (kept_if (bytes_eq letter (codes "g")) kept_call_line
    (kept_if (bytes_eq letter (codes "x")) (kept_two has_small_numbers Assumes (λ p. refl))
    (kept_if (bytes_eq letter (codes "u")) (kept_two has_small_numbers Cites (λ p. refl))
    (kept_if (bytes_eq letter (codes "j")) (kept_mapped has_small_numbers Steps (λ p. refl) kept_step)
    (kept_mapped has_small_numbers States (λ p. refl) (kept_term letter))))))))

-- ---- all fields

all_if : (b : Bool) (l : Line) (fs : List Field)
    → option_and_then if_all (if b then Some (l, fs) else None) ≡ option_and_then (λ k. if b then Some k else None) (if_all (l, fs))
all_if true l [] = refl
all_if false l [] = refl
all_if true l (f ∷ fs) = refl
all_if false l (f ∷ fs) = refl

all_same : (l : Line) (fs : List Field) → option_and_then (λ k. if has_small_numbers l then Some k else None) (if_all (l, fs)) ≡ if_small (if_all (l, fs))
all_same l [] = refl
all_same l (f ∷ fs) = refl

all_kept : (o : Option (Line × List Field)) → option_and_then if_all (keep has_small_numbers o) ≡ if_small (option_and_then if_all o)
all_kept None = refl
all_kept (Some r) = all_if (has_small_numbers r.0) r.0 r.1 ∙ all_same r.0 r.1

formed_small : (fs : List Field) → formed short wide fs ≡ if_small (formed numeral numeral fs)
formed_small [] = refl
formed_small (letter ∷ fs) = ap (option_and_then if_all) ((kept_form letter).same fs) ∙ all_kept (form numeral numeral letter fs)

pub short_is_small : (bytes : List ℕ) → short_line (fields bytes) ≡ if_small (line_of bytes)
unfolding short_line line_of
short_is_small bytes = formed_small (fields bytes)
