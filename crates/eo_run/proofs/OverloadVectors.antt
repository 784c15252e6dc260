-- Whole checks in which a name has several constants, and the line that is printed of each.
use Rattle.std.specs.Prelude.{refl, ℕ, List, ◌++◌, codes}
use Rattle.eo_run.proofs.Computed.{computed}
use Rattle.eo_run.proofs.Vectors.{Prints}
use Rattle.eo_run.specs.Printed.{line}

-- p, q and r, of which p is asserted
abbrev asserted : List ℕ
asserted = line (codes "(declare-const p Bool)") ++ line (codes "(declare-const q Bool)") ++ line (codes "(declare-const r Bool)") ++ line (codes "(assert p)")

-- subtraction and the negative
abbrev minus : List ℕ
minus = line (codes "(declare-const Int Type)") ++ line (codes "(declare-consts <numeral> Int)") ++ line (codes "(declare-const and (-> Bool Bool Bool) :right-assoc-nil true)") ++ line (codes "(declare-parameterized-const = ((T Type :implicit)) (-> T T Bool) :chainable and)") ++ line (codes "(declare-rule refl ((T Type) (t T)) :args (t) :conclusion (= t t))") ++ line (codes "(declare-const - (-> Int Int Int) :left-assoc)") ++ line (codes "(declare-const - (-> Int Int))")

one_argument : Prints asserted (minus ++ line (codes "(step @s (= (eo::typeof (- 5)) Int) :rule refl :args (Int))")) (codes "refused F41 NoRefutation p.eo:9:405")
unfolding computed
one_argument = refl

partial : Prints asserted (minus ++ line (codes "(step @s (= (eo::typeof (_ - 5)) (-> Int Int)) :rule refl :args ((-> Int Int)))")) (codes "refused F41 NoRefutation p.eo:9:425")
unfolding computed
partial = refl

three_arguments : Prints asserted (minus ++ line (codes "(step @s (= (- 5 2 1) (- (- 5 2) 1)) :rule refl :args ((- (- 5 2) 1)))")) (codes "refused F41 NoRefutation p.eo:9:416")
unfolding computed
three_arguments = refl

not_the_other : Prints asserted (minus ++ line (codes "(step @s (= (_ - 5) (- 5)) :rule refl :args ((- 5)))")) (codes "refused F26 ConclusionDiffers p.eo:8:345")
unfolding computed
not_the_other = refl

count_taken : Prints asserted (minus ++ line (codes "(declare-const - (-> Int Bool))")) (codes "refused F12 Redeclared p.eo:8:345")
unfolding computed
count_taken = refl

no_macro : Prints asserted (minus ++ line (codes "(define - () p)")) (codes "refused F12 Redeclared p.eo:8:345")
unfolding computed
no_macro = refl

no_program : Prints asserted (minus ++ line (codes "(program - ((x Int)) :signature (Int) Int (((- x) x)))")) (codes "refused F12 Redeclared p.eo:8:345")
unfolding computed
no_program = refl

head_of_none : Prints asserted (line (codes "(declare-const f Bool)") ++ line (codes "(declare-const f (-> Bool Bool))") ++ line (codes "(assume @a (f f))")) (codes "refused F28 NotAsserted p.eo:3:56")
unfolding computed
head_of_none = refl

no_count : Prints asserted (line (codes "(declare-const f Bool)") ++ line (codes "(declare-const f (-> Bool Bool))") ++ line (codes "(assume @a (f p q))")) (codes "refused F15 IllTyped p.eo:3:56")
unfolding computed
no_count = refl

type_first : Prints asserted (line (codes "(declare-const p zz)")) (codes "refused F13 UnknownSymbol p.eo:1:0")
unfolding computed
type_first = refl

taken_last : Prints asserted (line (codes "(declare-const p Int)")) (codes "refused F13 UnknownSymbol p.eo:1:0")
unfolding computed
taken_last = refl

known_type_taken : Prints asserted (line (codes "(declare-const Int Type)") ++ line (codes "(declare-const p Int)")) (codes "refused F12 Redeclared p.eo:2:25")
unfolding computed
known_type_taken = refl

macro_first : Prints asserted (line (codes "(define m () p)") ++ line (codes "(declare-const m zz)")) (codes "refused F12 Redeclared p.eo:2:16")
unfolding computed
macro_first = refl

reserved_first : Prints asserted (line (codes "(declare-const true zz)")) (codes "refused F12 Redeclared p.eo:1:0")
unfolding computed
reserved_first = refl

alone_is_first : Prints asserted (minus ++ line (codes "(declare-const - Int)") ++ line (codes "(step @s (= (eo::typeof -) (-> Int Int Int)) :rule refl :args ((-> Int Int Int)))")) (codes "refused F41 NoRefutation p.eo:10:449")
unfolding computed
alone_is_first = refl

explicit_parameter : Prints asserted (minus ++ line (codes "(declare-parameterized-const - ((x Int)) Int)")) (codes "refused F12 Redeclared p.eo:8:345")
unfolding computed
explicit_parameter = refl

explicit_parameters : Prints asserted (minus ++ line (codes "(declare-parameterized-const - ((x Int)) (-> Int Int Int))")) (codes "refused F12 Redeclared p.eo:8:345")
unfolding computed
explicit_parameters = refl

repeat_of_first : Prints asserted (line (codes "(declare-const p (-> Bool Bool))") ++ line (codes "(declare-const p Bool)") ++ line (codes "(assume @a p)")) (codes "refused F41 NoRefutation p.eo:4:70")
unfolding computed
repeat_of_first = refl

repeat_of_second : Prints (line (codes "(declare-const p (-> Bool Bool))") ++ line (codes "(declare-const p Bool)") ++ line (codes "(assert true)")) (line (codes "(declare-const p Bool)") ++ line (codes "(declare-const p (-> Bool Bool))") ++ line (codes "(assume @a (p p))")) (codes "refused F15 IllTyped p.eo:3:56")
unfolding computed
repeat_of_second = refl

reference_name : Prints asserted (line (codes "(declare-const p (-> Bool Bool))") ++ line (codes "(define p () zz)")) (codes "refused F13 UnknownSymbol p.eo:2:33")
unfolding computed
reference_name = refl

reference_name_second : Prints (line (codes "(declare-const f Bool)") ++ line (codes "(assert true)")) (line (codes "(declare-const f (-> Bool Bool))") ++ line (codes "(define f () true)")) (codes "refused F12 Redeclared p.eo:2:33")
unfolding computed
reference_name_second = refl

nil_and_none : Prints asserted (line (codes "(declare-const o (-> Bool Bool Bool) :right-assoc-nil false)") ++ line (codes "(declare-const o Bool)") ++ line (codes "(assume @a (o p))")) (codes "refused F28 NotAsserted p.eo:3:84")
unfolding computed
nil_and_none = refl

nil_and_one : Prints asserted (line (codes "(declare-const o (-> Bool Bool Bool) :right-assoc-nil false)") ++ line (codes "(declare-const o (-> Bool Bool))")) (codes "refused F12 Redeclared p.eo:2:61")
unfolding computed
nil_and_one = refl

from_behind_exact : Prints asserted (line (codes "(declare-const o (-> Bool Bool Bool))") ++ line (codes "(declare-const o (-> Bool Bool Bool) :left-assoc)")) (codes "refused F12 Redeclared p.eo:2:38")
unfolding computed
from_behind_exact = refl

terminator_before : Prints asserted (line (codes "(declare-const o Bool)") ++ line (codes "(declare-const o Bool :right-assoc-nil (eo::not true))")) (codes "refused F22 BadPattern p.eo:2:23")
unfolding computed
terminator_before = refl

local_hides : Prints asserted (line (codes "(declare-const f Bool)") ++ line (codes "(declare-const f (-> Bool Bool))") ++ line (codes "(assume @a (let ((f q)) (f p)))")) (codes "refused F15 IllTyped p.eo:3:56")
unfolding computed
local_hides = refl
