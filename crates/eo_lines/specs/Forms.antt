-- The forms of lines: fields with one space between them. A number is decimal without leading zeros, `-` means none, bytes are hexadecimal digits, and a list is its length and its members. The forms take how a number is read, so that a reader of few bits has the same ones.
use Rattle.std.specs.Prelude.{ℕ, zero, suc, ℤ, ◌+◌, ◌-◌, ◌*◌, ◌&&◌, ◌==◌, nat_le, if◌then◌else◌, List, [], ◌∷◌, Option, Some, None, option_map, option_and_then, bytes_eq, codes}
use Rattle.eo_lit.specs.Literals.{Literal, Number, BitString, numeral, literal_value}
use Rattle.eo_lines.specs.Lines.{TermLine, OfConstant, OfNumber, OfBits, OfString, OfParameter, OfVariable, OfApplication, OfArrow, OfBoundArrow, OfOperator, OfCall, EvaluationLine, Pairs, CallLine, StepLine, Line, Declares, Refers, States, Evaluates, Calls, Assumes, Cites, Steps}

-- ---- fields

abbrev pub Field : Type 0
Field = List ℕ

-- with one byte more at the front of the first field
abbrev pub longer_first : ℕ → List Field → List Field
longer_first b [] = (b ∷ []) ∷ []
longer_first b (f ∷ fs) = (b ∷ f) ∷ fs

-- the fields of a line
abbrev pub fields : List ℕ → List Field
fields [] = [] ∷ []
fields (b ∷ bytes) = if b == 32 then [] ∷ fields bytes else longer_first b (fields bytes)

-- ---- what a field says

abbrev pub hex_digit : ℕ → Option ℕ
hex_digit b =
    if nat_le 48 b && nat_le b 57 then Some (b - 48)
    else if nat_le 97 b && nat_le b 102 then Some (b - 87)
    else None

-- two hexadecimal digits for each byte, in lower case
abbrev pub hex_bytes : Field → Option (List ℕ)
hex_bytes [] = Some []
hex_bytes (b ∷ []) = None
hex_bytes (b ∷ c ∷ bytes) =
    option_and_then (λ h. option_and_then (λ l. option_map (λ rest. (16 * h + l) ∷ rest) (hex_bytes bytes)) (hex_digit c)) (hex_digit b)

-- how a number is read
abbrev pub Reads : Type 0
Reads = Field → Option ℕ

abbrev pub number_or_none : Reads → Field → Option (Option ℕ)
number_or_none number f = if bytes_eq f (codes "-") then Some None else option_map Some (number f)

abbrev pub as_integer : Literal → Option ℤ
as_integer (Number z) = Some z
as_integer (BitString w v) = None

-- a number, with `-` before its digits where it is below zero
abbrev pub integer : Field → Option ℤ
integer f = option_and_then as_integer (literal_value f)

-- ---- fields in order

-- what the first fields say, and the fields after them
abbrev pub Reader : Type 0 → Type 0
Reader A = List Field → Option (A × List Field)

abbrev pub says : {A : Type 0} → A → Reader A
says x fs = Some (x, fs)

abbrev pub field : {A : Type 0} → (Field → Option A) → Reader A
field read [] = None
field read (f ∷ fs) = option_map (λ x. (x, fs)) (read f)

abbrev pub mapped : {A B : Type 0} → (A → B) → Reader A → Reader B
mapped f read fs = option_map (λ r. (f r.0, r.1)) (read fs)

-- one after the other
abbrev pub both : {A B : Type 0} → Reader A → Reader B → Reader (A × B)
both first second fs = option_and_then (λ r. option_map (λ q. ((r.0, q.0), q.1)) (second r.1)) (first fs)

abbrev pub maybe_number : Reads → Reader (Option ℕ)
maybe_number number = field (number_or_none number)

-- so many numbers
abbrev pub numbers : Reads → ℕ → Reader (List ℕ)
numbers number zero = says []
numbers number (suc n) = mapped (λ p. p.0 ∷ p.1) (both (field number) (numbers number n))

-- as many numbers as the first one says
abbrev pub a_list : Reads → Reader (List ℕ)
a_list number fs = option_and_then (λ r. numbers number r.0 r.1) (field numeral fs)

-- a list as pairs
abbrev pub paired : List ℕ → Option Pairs
paired [] = Some []
paired (i ∷ []) = None
paired (i ∷ t ∷ rest) = option_map (λ qs. (i, t) ∷ qs) (paired rest)

abbrev pub some_pairs : Reads → Reader Pairs
some_pairs number fs = option_and_then (λ r. option_map (λ qs. (qs, r.1)) (paired r.0)) (a_list number fs)

-- ---- lines by their letters

abbrev pub two_numbers : {A : Type 0} → Reads → (ℕ → ℕ → A) → Reader A
two_numbers number make = mapped (λ p. make p.0 p.1) (both (field number) (field number))

abbrev pub three_numbers : {A : Type 0} → Reads → (ℕ → ℕ → ℕ → A) → Reader A
three_numbers number make = mapped (λ p. make p.0 p.1.0 p.1.1) (both (field number) (both (field number) (field number)))

-- a width, and the value of a bit string
abbrev pub bits_use : (number value : Reads) → Reader TermLine
bits_use number value = mapped (λ p. OfBits p.0 p.1) (both (field number) (field value))

abbrev pub operator_use : Reads → Reader TermLine
operator_use number = mapped (λ p. OfOperator p.0 p.1) (both (field Some) (a_list number))

abbrev pub call_use : Reads → Reader TermLine
call_use number = mapped (λ p. OfCall p.0 p.1) (both (field number) (a_list number))

-- a term, its outcome, the depth and the lines of its parts
abbrev pub evaluation : Reads → Reader EvaluationLine
evaluation number =
    mapped (λ p. record { term = p.0; outcome = p.1.0; depth = p.1.1.0; listed = p.1.1.1 })
    (both (field number) (both (maybe_number number) (both (field number) (a_list number))))

-- a case, the terms of its parameters and the line of its body
abbrev pub call : Reads → Reader CallLine
call number =
    mapped (λ p. record { taken = p.0; pairs = p.1.0; body = p.1.1 })
    (both (maybe_number number) (both (some_pairs number) (maybe_number number)))

-- the contexts and the rule of a step
abbrev pub step_place : Reads → Reader (ℕ × (ℕ × Option ℕ))
step_place number = both (field number) (both (field number) (maybe_number number))

-- its premises, its arguments and the terms of the rule's parameters
abbrev pub step_use : Reads → Reader (List ℕ × (List ℕ × Pairs))
step_use number = both (a_list number) (both (a_list number) (some_pairs number))

-- the conclusion under the rule's requirements, its line, and the formula
abbrev pub step_end : Reads → Reader (ℕ × (Option ℕ × ℕ))
step_end number = both (field number) (both (maybe_number number) (field number))

abbrev pub step : Reads → Reader StepLine
step number =
    mapped (λ p. record {
      context = p.0.0;
      rule = p.0.1.0;
      inner = p.0.1.1;
      premises = p.1.0.0;
      arguments = p.1.0.1.0;
      pairs = p.1.0.1.1;
      guarded = p.1.1.0;
      line = p.1.1.1.0;
      formula = p.1.1.1.1;
    })
    (both (step_place number) (both (step_use number) (step_end number)))

-- the terms by their letters
abbrev pub term_form : (number value : Reads) → Field → Reader TermLine
term_form number value letter =
    if bytes_eq letter (codes "C") then mapped OfConstant (field number)
    else if bytes_eq letter (codes "N") then mapped OfNumber (field integer)
    else if bytes_eq letter (codes "B") then bits_use number value
    else if bytes_eq letter (codes "S") then mapped OfString (a_list number)
    else if bytes_eq letter (codes "P") then mapped OfParameter (field number)
    else if bytes_eq letter (codes "V") then two_numbers number OfVariable
    else if bytes_eq letter (codes "A") then two_numbers number OfApplication
    else if bytes_eq letter (codes "F") then two_numbers number OfArrow
    else if bytes_eq letter (codes "Q") then three_numbers number OfBoundArrow
    else if bytes_eq letter (codes "O") then operator_use number
    else if bytes_eq letter (codes "G") then call_use number
    else λ fs. None

abbrev pub call_line : Reads → Reader Line
call_line number = mapped (λ p. Calls p.0 p.1) (both (evaluation number) (call number))

abbrev pub form : (number value : Reads) → Field → Reader Line
form number value letter =
    if bytes_eq letter (codes "D") then mapped Declares (field hex_bytes)
    else if bytes_eq letter (codes "R") then mapped Refers (field hex_bytes)
    else if bytes_eq letter (codes "e") then mapped Evaluates (evaluation number)
    else if bytes_eq letter (codes "g") then call_line number
    else if bytes_eq letter (codes "x") then two_numbers number Assumes
    else if bytes_eq letter (codes "u") then two_numbers number Cites
    else if bytes_eq letter (codes "j") then mapped Steps (step number)
    else mapped States (term_form number value letter)

-- a line takes all its fields
abbrev pub if_all : Line × List Field → Option Line
if_all (line, []) = Some line
if_all (line, f ∷ fs) = None

abbrev pub formed : (number value : Reads) → List Field → Option Line
formed number value [] = None
formed number value (letter ∷ fs) = option_and_then if_all (form number value letter fs)

-- the line that some bytes are, if they have a form
unfoldable pub line_of : List ℕ → Option Line
line_of bytes = formed numeral numeral (fields bytes)
