-- Lines whose numbers have few bits.
use Rattle.std.specs.Prelude.{ℕ, ◌^◌, Bool, true, ◌&&◌, nat_lt, if◌then◌else◌, List, Option, Some, None, option_and_then}
use Rattle.std.specs.List.{list_all}
use Rattle.eo_lines.specs.Lines.{TermLine, OfConstant, OfNumber, OfBits, OfString, OfParameter, OfVariable, OfApplication, OfArrow, OfBoundArrow, OfOperator, OfCall, EvaluationLine, Pairs, CallLine, StepLine, Line, Declares, Refers, States, Evaluates, Calls, Assumes, Cites, Steps}

-- a number of 64 bits
abbrev pub is_small : ℕ → Bool
is_small n = nat_lt n (2 ^ 64)

abbrev pub is_small_or_none : Option ℕ → Bool
is_small_or_none None = true
is_small_or_none (Some n) = is_small n

abbrev pub are_small : List ℕ → Bool
are_small ns = list_all is_small ns

abbrev pub are_small_pairs : Pairs → Bool
are_small_pairs qs = list_all (λ q. is_small q.0 && is_small q.1) qs

-- the value of a bit string may have 128 bits
abbrev pub has_small_term : TermLine → Bool
has_small_term (OfConstant k) = is_small k
has_small_term (OfNumber z) = true
has_small_term (OfBits w v) = is_small w && nat_lt v (2 ^ 128)
has_small_term (OfString s) = are_small s
has_small_term (OfParameter i) = is_small i
has_small_term (OfVariable s t) = is_small s && is_small t
has_small_term (OfApplication f x) = is_small f && is_small x
has_small_term (OfArrow a b) = is_small a && is_small b
has_small_term (OfBoundArrow i t b) = is_small i && (is_small t && is_small b)
has_small_term (OfOperator name ns) = are_small ns
has_small_term (OfCall p ns) = is_small p && are_small ns

abbrev pub has_small_evaluation : EvaluationLine → Bool
has_small_evaluation e = is_small e.term && (is_small_or_none e.outcome && (is_small e.depth && are_small e.listed))

abbrev pub has_small_call : CallLine → Bool
has_small_call c = is_small_or_none c.taken && (are_small_pairs c.pairs && is_small_or_none c.body)

abbrev pub has_small_step : StepLine → Bool
has_small_step s =
    (is_small s.context && (is_small s.rule && is_small_or_none s.inner))
    && ((are_small s.premises && (are_small s.arguments && are_small_pairs s.pairs))
    && (is_small s.guarded && (is_small_or_none s.line && is_small s.formula)))

abbrev pub has_small_numbers : Line → Bool
has_small_numbers (Declares bytes) = true
has_small_numbers (Refers bytes) = true
has_small_numbers (States t) = has_small_term t
has_small_numbers (Evaluates e) = has_small_evaluation e
has_small_numbers (Calls e c) = has_small_evaluation e && has_small_call c
has_small_numbers (Assumes c t) = is_small c && is_small t
has_small_numbers (Cites c t) = is_small c && is_small t
has_small_numbers (Steps s) = has_small_step s

-- the line, if its numbers are small
abbrev pub if_small : Option Line → Option Line
if_small o = option_and_then (λ l. if has_small_numbers l then Some l else None) o
