-- What is read, against the forms of lines.
use Rattle.std.specs.Prelude.{◌≡◌, ℕ, ◌^◌, Bool, true, false, nat_lt, if◌then◌else◌, List, [], ◌∷◌, ◌+◌, take, drop, Option, Some, None, option_map, option_and_then}
use Rattle.eo_lit.specs.Literals.{numeral}
use Rattle.eo_lit.specs.Reading.{in_128_bits}
use Rattle.eo_lines.specs.Lines as lines
use Rattle.eo_lines.specs.Forms.{Field, fields, Reader, formed}
use Rattle.eo_lines.specs.declared.TermLine.{TermLine}
use Rattle.eo_lines.specs.declared.TermLine.TheVariants as term
use Rattle.eo_lines.specs.declared.EvaluationLine.{EvaluationLine}
use Rattle.eo_lines.specs.declared.CallLine.{CallLine}
use Rattle.eo_lines.specs.declared.StepLine.{StepLine}
use Rattle.eo_lines.specs.declared.Line.{Line}
use Rattle.eo_lines.specs.declared.Line.TheVariants as line

-- ---- the lines that were read

abbrev pub term_line : TermLine → lines.TermLine
term_line (term.Constant k) = lines.OfConstant k
term_line (term.Number z) = lines.OfNumber z
term_line (term.Bits w v) = lines.OfBits w v
term_line (term.String s) = lines.OfString s.items
term_line (term.Parameter i) = lines.OfParameter i
term_line (term.Variable s t) = lines.OfVariable s t
term_line (term.Application f x) = lines.OfApplication f x
term_line (term.Arrow a b) = lines.OfArrow a b
term_line (term.BoundArrow i t b) = lines.OfBoundArrow i t b
term_line (term.Operator name ns) = lines.OfOperator name.items ns.items
term_line (term.Call p ns) = lines.OfCall p ns.items

abbrev pub evaluation_line : EvaluationLine → lines.EvaluationLine
evaluation_line e = record { term = e.term; outcome = e.outcome; depth = e.depth; listed = e.listed.items }

abbrev pub call_line : CallLine → lines.CallLine
call_line c = record { taken = c.taken; pairs = c.pairs.items; body = c.body }

abbrev pub step_line : StepLine → lines.StepLine
step_line s =
    record { context = s.context; rule = s.rule; inner = s.inner; premises = s.premises.items; arguments = s.args.items; pairs = s.pairs.items; guarded = s.guarded; line = s.line; formula = s.formula }

abbrev pub read_line : Line → lines.Line
read_line (line.Declares bytes) = lines.Declares bytes.items
read_line (line.Refers bytes) = lines.Refers bytes.items
read_line (line.States t) = lines.States (term_line t)
read_line (line.Evaluates e) = lines.Evaluates (evaluation_line e)
read_line (line.Calls e c) = lines.Calls (evaluation_line e) (call_line c)
read_line (line.Assumes c t) = lines.Assumes c t
read_line (line.Cites c t) = lines.Cites c t
read_line (line.Steps s) = lines.Steps (step_line s)

-- ---- readers

-- a number of 64 bits
abbrev pub short : Field → Option ℕ
short f = option_and_then (λ n. if nat_lt n (2 ^ 64) then Some n else None) (numeral f)

-- a number of 128 bits
abbrev pub wide : Field → Option ℕ
wide f = in_128_bits (numeral f)

-- the line of these fields, if its numbers are short, and the value of its bit string wide
unfoldable pub short_line : List Field → Option lines.Line
short_line fs = formed short wide fs

-- the fields that are left: none after the last one
abbrev pub left : (ended : Bool) → List ℕ → List Field
left true bytes = []
left false bytes = fields bytes

-- the first field, up to a space at a place, and the fields after it
abbrev pub cut : Option ℕ → List ℕ → List Field
cut None bytes = bytes ∷ []
cut (Some i) bytes = take i bytes ∷ fields (drop (i + 1) bytes)

-- what a reader returns, and the fields that it leaves
abbrev pub Takes : {A B : Type 0} → Reader B → (A → B) → (old : List Field) → Option A → (new : List Field) → Type 0
Takes reader read old result new = option_map (λ x. (read x, new)) result ≡ reader old

abbrev pub itself : {A : Type 0} → A → A
itself x = x
