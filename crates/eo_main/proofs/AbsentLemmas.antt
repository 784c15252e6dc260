-- When a file is said to be absent.
use Rattle.std.proofs.Common.{◌≡◌, ◌≢◌, ℕ, suc, zero, List, ◌∷◌, ◌++◌, length, take, Option, None, Some, refl, sym, ◌∙◌, ap, arith}
use Rattle.std.specs.Prelude.{option_map}
use Rattle.std.proofs.lemmas.List.{append_cancel_left}
use Rattle.std.proofs.Math.Seq.{take-length}
use Rattle.std.specs.Fmt.{digits}
use Rattle.eo_base.specs.Causes.{Rose}
use Rattle.eo_base.specs.Faults.{number}
use Rattle.eo_base.specs.declared.FaultName.{FaultName}
use Rattle.eo_base.specs.declared.FaultName.TheVariants.{FileAbsent}
use Rattle.eo_base.specs.declared.Status.{Status}
use Rattle.eo_base.specs.declared.Status.TheVariants as status
use Rattle.eo_io.specs.Library.{Files}
use Rattle.eo_run.specs.Verdict as verdict
use Rattle.eo_run.specs.Printed.{Due, two_digits, verdict_text}
use Rattle.eo_run.specs.Answer.{AnswerHasCause, answer_due, WritesDue}
use Rattle.eo_run.specs.declared.Verdict.{Verdict}
use Rattle.eo_run.specs.declared.Verdict.TheVariants as answer
use Rattle.eo_main.specs.Ends.{AbsentHasCause}

-- the first of a front of a list, and the others
pub front_head : (n x y : ℕ) (xs ys : List ℕ) → take n (x ∷ xs) ≡ y ∷ ys → x ≡ y
front_head zero x y xs ys e = cc
front_head (suc n) x y xs ys e = cc

front_tail : (n x y : ℕ) (xs ys : List ℕ) → take n (x ∷ xs) ≡ y ∷ ys → (m : ℕ) × (take m xs ≡ ys)
front_tail zero x y xs ys e = cc
front_tail (suc n) x y xs ys e = (n, cc)

two_front : (n x y z t : ℕ) (xs ys : List ℕ) → take n (x ∷ y ∷ xs) ≡ z ∷ t ∷ ys → (x ≡ z) × (y ≡ t)
two_front n x y z t xs ys e =
    let later = front_tail n x z (y ∷ xs) (t ∷ ys) e in
    (front_head n x z (y ∷ xs) (t ∷ ys) e, front_head later.0 y t xs ys later.1)

other_digits : (x y : ℕ) → (x ≡ 51 → y ≢ 53) → (x ≡ 51) × (y ≡ 53) → ⊥
other_digits x y other both = other both.0 both.1

-- only one fault has the number 35
absent_by_number : (name : FaultName) (n : ℕ) (rest end ys : List ℕ) → take n ((two_digits (number name) ++ rest) ++ end) ≡ 51 ∷ 53 ∷ ys → name ≡ FileAbsent
unfolding number digits
absent_by_number FileAbsent n rest end ys e = refl
absent_by_number name n rest end ys e = absurd (other_digits _ _ (λ a b. omega (arith, a, b)) (two_front n _ _ _ _ _ ys e))

-- the line of another fault is no front of the line of an absent file
refused_front : (f r : verdict.Refusal) (n : ℕ) → r.name ≡ FileAbsent → take n (verdict_text (verdict.Refused f)) ≡ verdict_text (verdict.Refused r) → f.name ≡ FileAbsent
unfolding number digits
refused_front f r n absent e =
    let e1 = front_tail n _ _ _ _ (e ∙ ap (λ m. verdict_text (verdict.Refused (record { name = m; file = r.file; line = r.line; offset = r.offset }))) absent) in
    let e2 = front_tail e1.0 _ _ _ _ e1.1 in
    let e3 = front_tail e2.0 _ _ _ _ e2.1 in
    let e4 = front_tail e3.0 _ _ _ _ e3.1 in
    let e5 = front_tail e4.0 _ _ _ _ e4.1 in
    let e6 = front_tail e5.0 _ _ _ _ e5.1 in
    let e7 = front_tail e6.0 _ _ _ _ e6.1 in
    let e8 = front_tail e7.0 _ _ _ _ e7.1 in
    let e9 = front_tail e8.0 _ _ _ _ e8.1 in
    absent_by_number f.name e9.0 _ _ _ e9.1

numbers_differ : (x y : ℕ) → x ≢ y → x ≡ y → ⊥
numbers_differ x y ne e = ne e

-- an answer whose line may be that of an absent file
answer_front : (paths : List (List ℕ)) (a : Verdict) (before now : ℕ) (n : ℕ) (r : verdict.Refusal) → AnswerHasCause {F = Files} a None before now → r.name ≡ FileAbsent
    → take n (answer_due paths a).text ≡ verdict_text (verdict.Refused r) → Rose before now
unfolding answer_due
answer_front paths answer.Correct before now n r cause absent e = absurd (numbers_differ 99 114 (omega arith) (front_head n _ _ _ _ e))
answer_front paths answer.Incomplete before now n r cause absent e = absurd (numbers_differ 105 114 (omega arith) (front_head n _ _ _ _ e))
answer_front paths (answer.Loaded c) before now n r cause absent e = absurd (numbers_differ 108 114 (omega arith) (front_head n _ _ _ _ e))
answer_front paths answer.OutOfMemory before now n r cause absent e = absurd (numbers_differ 111 114 (omega arith) (front_head n _ _ _ _ e))
answer_front paths answer.ReadFault before now n r cause absent e =
    let e1 = front_tail n _ _ _ _ e in
    let e2 = front_tail e1.0 _ _ _ _ e1.1 in
    absurd (numbers_differ 97 102 (omega arith) (front_head e2.0 _ _ _ _ e2.1))
answer_front paths (answer.Refused fault) before now n r cause absent e = cause (refused_front _ r n absent e)

-- ---- what was written

added : (old t u : List ℕ) (w x : Option (List ℕ)) → w ≡ Some old → x ≡ option_map (λ bytes. bytes ++ t) w → x ≡ Some (old ++ u) → t ≡ u
added old t u w x ew ex eu =
    let both : Some (old ++ t) ≡ Some (old ++ u) = sym (ex ∙ ap (option_map (λ bytes. bytes ++ t)) ew) ∙ eu in
    append_cancel_left old t u cc

-- what was written for something due is a front of it
pub front_of_due : (s : Status) (due : Due) (old u : List ℕ) (w x : Option (List ℕ)) → WritesDue s due w x → w ≡ Some old → x ≡ Some (old ++ u) → (n : ℕ) × (take n due.text ≡ u)
front_of_due status.Ok due old u w x h ew eu = (length due.text, take-length due.text ∙ added old due.text u w x ew h.1 eu)
front_of_due status.Incomplete due old u w x h ew eu = (length due.text, take-length due.text ∙ added old due.text u w x ew h.1 eu)
front_of_due status.Refused due old u w x h ew eu = (length due.text, take-length due.text ∙ added old due.text u w x ew h.1 eu)
front_of_due status.Usage due old u w x h ew eu = (length due.text, take-length due.text ∙ added old due.text u w x ew h.1 eu)
front_of_due status.ReadFault due old u w x h ew eu = (length due.text, take-length due.text ∙ added old due.text u w x ew h.1 eu)
front_of_due status.OutOfMemory due old u w x h ew eu = (length due.text, take-length due.text ∙ added old due.text u w x ew h.1 eu)
front_of_due status.WriteFault due old u w x h ew eu = (h.0, added old (take h.0 due.text) u w x ew h.2 eu)

-- after the line of an answer
pub absent_by_answer : (told : Option Files) (paths : List (List ℕ)) (a : Verdict) (s : Status) (w x : Option (List ℕ)) (before now : ℕ)
    → WritesDue s (answer_due paths a) w x → AnswerHasCause a told before now → AbsentHasCause told w x before now
absent_by_answer (Some files) paths a s w x before now h cause = tt
absent_by_answer None paths a s w x before now h cause = λ r absent old ew eu.
    let front = front_of_due s (answer_due paths a) old (verdict_text (verdict.Refused r)) w x h ew eu in
    answer_front paths a before now front.0 r cause absent front.1

-- after a line that begins with another letter
pub absent_by_letter : (told : Option Files) (letter : ℕ) (rest : List ℕ) (s t : Status) (w x : Option (List ℕ)) (before now : ℕ) → letter ≢ 114
    → WritesDue s (record { status = t; text = letter ∷ rest }) w x → AbsentHasCause told w x before now
absent_by_letter (Some files) letter rest s t w x before now other h = tt
absent_by_letter None letter rest s t w x before now other h = λ r absent old ew eu.
    let front = front_of_due s (record { status = t; text = letter ∷ rest }) old (verdict_text (verdict.Refused r)) w x h ew eu in
    absurd (other (front_head front.0 _ _ _ _ front.1))
