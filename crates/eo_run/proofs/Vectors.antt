-- Whole checks, and the line that is printed of each.
use Rattle.std.specs.Prelude.{◌≡◌, refl, ℕ, false, List, [], ◌∷◌, ◌++◌, None, Some, codes}
use Rattle.eo_io.specs.Library.{Files}
use Rattle.eo_run.proofs.Computed.{computed}
use Rattle.eo_run.specs.Check.{verdict}
use Rattle.eo_run.specs.Printed.{line, verdict_text}
use Rattle.eo_run.specs.declared.CheckJob.{CheckJob}

-- the files `r.smt2` and `p.eo`
abbrev pub files : (reference proof : List ℕ) → Files
files reference proof = (codes "r.smt2", reference) ∷ (codes "p.eo", proof) ∷ []

abbrev pub job : CheckJob
job = record { include = None; reference = Some (codes "r.smt2"); proof = codes "p.eo"; closed = false }

-- the check of r.smt2 and p.eo with these bytes prints this line
abbrev pub Prints : (reference proof text : List ℕ) → Type 0
Prints reference proof text = verdict_text (verdict (files reference proof) job) ≡ line text

assumed : Prints (line (codes "(assert false)")) (line (codes "(assume @p1 false)")) (codes "correct")
unfolding computed
assumed = refl

not_asserted : Prints (line (codes "(assert true)")) (line (codes "(assume @p1 false)")) (codes "refused F28 NotAsserted p.eo:1:0")
unfolding computed
not_asserted = refl

no_refutation : Prints (line (codes "(assert true)")) (line (codes "(assume @p1 true)")) (codes "refused F41 NoRefutation p.eo:2:18")
unfolding computed
no_refutation = refl

no_bytes : Prints (line (codes "(assert true)")) ([]) (codes "refused F41 NoRefutation p.eo:1:0")
unfolding computed
no_bytes = refl

no_bytes_either : Prints (line (codes "(assert false)")) ([]) (codes "refused F41 NoRefutation p.eo:1:0")
unfolding computed
no_bytes_either = refl

-- the outer pair is not closed
open_pair : Prints (line (codes "(assert false)")) (line (codes "(") ++ line (codes "(assume @p1 false)")) (codes "refused F02 Unclosed p.eo:3:21")
unfolding computed
open_pair = refl

-- a token after the outer pair
behind_pair : Prints (line (codes "(assert false)")) (codes "()x") (codes "refused F03 ExtraClose p.eo:1:2")
unfolding computed
behind_pair = refl

open_string : Prints (line (codes "(assert true)")) (codes "(include \"b") (codes "refused F02 Unclosed p.eo:1:11")
unfolding computed
open_string = refl

extra_close : Prints (line (codes "(assert true)")) (codes "(assume @p1 true))") (codes "refused F03 ExtraClose p.eo:1:17")
unfolding computed
extra_close = refl

-- the word `unsat` at the start
unsat_alone : Prints (line (codes "(assert true)")) (line (codes "unsat")) (codes "refused F41 NoRefutation p.eo:2:6")
unfolding computed
unsat_alone = refl

unsat_twice : Prints (line (codes "(assert true)")) (codes "unsat unsat") (codes "refused F11 BadCommand p.eo:1:6")
unfolding computed
unsat_twice = refl

-- both wrappings, and quoted symbols
wrapped : Prints (line (codes "(assert false)")) (line (codes "unsat") ++ line (codes "(") ++ line (codes "(assume |@p1| |false|)") ++ line (codes ")")) (codes "correct")
unfolding computed
wrapped = refl

unknown_command : Prints (line (codes "(assert true)")) (codes "(frob)") (codes "refused F10 UnknownCommand p.eo:1:0")
unfolding computed
unknown_command = refl

no_list : Prints (line (codes "(assert true)")) (codes "assume") (codes "refused F11 BadCommand p.eo:1:0")
unfolding computed
no_list = refl

no_symbol : Prints (line (codes "(assert true)")) (codes "(:assume a true)") (codes "refused F11 BadCommand p.eo:1:0")
unfolding computed
no_symbol = refl

no_name : Prints (line (codes "(assert true)")) (codes "(assume 1 true)") (codes "refused F11 BadCommand p.eo:1:0")
unfolding computed
no_name = refl

one_formula_more : Prints (line (codes "(assert true)")) (codes "(assume a true true)") (codes "refused F11 BadCommand p.eo:1:0")
unfolding computed
one_formula_more = refl

-- the name is tested before the formula
repeated_name : Prints (line (codes "(assert true)")) (line (codes "(assume a true)") ++ line (codes "(assume |a| zz)")) (codes "refused F12 Redeclared p.eo:2:16")
unfolding computed
repeated_name = refl

unknown_symbol : Prints (line (codes "(assert true)")) (codes "(assume a zz)") (codes "refused F13 UnknownSymbol p.eo:1:0")
unfolding computed
unknown_symbol = refl

literal_formula : Prints (line (codes "(assert true)")) (codes "(assume a \"true\")") (codes "refused F15 IllTyped p.eo:1:0")
unfolding computed
literal_formula = refl

-- a reference file has assertions alone
other_head : Prints (line (codes "(assert true)") ++ codes "(assume a true)") ([]) (codes "refused F10 UnknownCommand r.smt2:2:14")
unfolding computed
other_head = refl

unknown_assertion : Prints (codes "(assert p)") ([]) (codes "refused F13 UnknownSymbol r.smt2:1:0")
unfolding computed
unknown_assertion = refl

-- a fault of the text counts once the commands before it are accepted
commands_first : Prints (line (codes "(assert true)")) (line (codes "(assume a false)") ++ 1 ∷ []) (codes "refused F28 NotAsserted p.eo:1:0")
unfolding computed
commands_first = refl

absent : verdict_text (verdict ((codes "r.smt2", []) ∷ []) job) ≡ line (codes "refused F35 FileAbsent p.eo:1:0")
unfolding computed
absent = refl

absent_reference : verdict_text (verdict [] job) ≡ line (codes "refused F35 FileAbsent r.smt2:1:0")
unfolding computed
absent_reference = refl

-- ---- declarations

abbrev Refuses : (proof text : List ℕ) → Type 0
Refuses proof text = Prints (line (codes "(assert true)")) proof text

declared_twice : Refuses (codes "(declare-const p Bool)(declare-const p Bool)") (codes "refused F12 Redeclared p.eo:1:22")
unfolding computed
declared_twice = refl

open_terminator : Refuses (codes "(declare-const and (-> Bool Bool Bool) :right-assoc-nil (eo::not true))") (codes "refused F22 BadPattern p.eo:1:0")
unfolding computed
open_terminator = refl

implicit_nowhere : Refuses (codes "(declare-parameterized-const k ((T Type :implicit)) Bool)") (codes "refused F21 UnboundParam p.eo:1:0")
unfolding computed
implicit_nowhere = refl

macro_of_itself : Refuses (codes "(define d () (d))") (codes "refused F14 BadArity p.eo:1:0")
unfolding computed
macro_of_itself = refl

reserved_name : Refuses (codes "(declare-const let Bool)") (codes "refused F12 Redeclared p.eo:1:0")
unfolding computed
reserved_name = refl

reserved_fact : Refuses (codes "(assume let true)") (codes "refused F12 Redeclared p.eo:1:0")
unfolding computed
reserved_fact = refl

-- the declared type is the value of the type
valued_type : Refuses (codes "(declare-const p (eo::ite true Bool Type))(assume a p)") (codes "refused F28 NotAsserted p.eo:1:42")
unfolding computed
valued_type = refl

stuck_type : Refuses (codes "(declare-const p (eo::ite Bool Bool Bool))") (codes "refused F16 Stuck p.eo:1:0")
unfolding computed
stuck_type = refl

class_twice : Refuses (codes "(declare-consts <numeral> Bool)(declare-consts <numeral> (zz))") (codes "refused F12 Redeclared p.eo:1:31")
unfolding computed
class_twice = refl

-- a formula is the value of its term
operator_formula : Prints (line (codes "(assert false)")) (codes "(assume a (eo::not true))") (codes "correct")
unfolding computed
operator_formula = refl

stuck_formula : Refuses (codes "(assume a (eo::not Bool))") (codes "refused F16 Stuck p.eo:1:0")
unfolding computed
stuck_formula = refl

-- the greatest number, and one more
great_number : Refuses (codes "(assume a (eo::is_ok (eo::add 170141183460469231731687303715884105727 1)))") (codes "refused F17 NumberRange p.eo:1:0")
unfolding computed
great_number = refl

-- a test of a call that is stuck, and that call
stuck_call_tested : Prints (line (codes "(assert false)")) (line (codes "(program $g ((x Bool)) :signature (Bool) Bool ((($g false) true)))") ++ codes "(assume @p1 (eo::is_ok ($g true)))") (codes "correct")
unfolding computed
stuck_call_tested = refl

stuck_call : Refuses (line (codes "(program $g ((x Bool)) :signature (Bool) Bool ((($g false) true)))") ++ codes "(assume @p1 ($g true))") (codes "refused F16 Stuck p.eo:2:67")
unfolding computed
stuck_call = refl

-- a term is not asserted where another one is
other_formula : Refuses (codes "(declare-const p Bool)(assume a p)") (codes "refused F28 NotAsserted p.eo:1:22")
unfolding computed
other_formula = refl

-- a macro means its tree, and a `let` its body
macro_formula : Prints (line (codes "(assert false)")) (codes "(define f ((x Bool)) x)(assume a (let ((y (f false))) y))") (codes "correct")
unfolding computed
macro_formula = refl

-- ---- types

-- bit strings, equality and parts of bit strings
abbrev typed_names : List ℕ
typed_names =
    line (codes "(declare-const Int Type)(declare-consts <numeral> Int)(declare-parameterized-const BitVec ((w Int)) Type)")
    ++ line (codes "(declare-consts <binary> (BitVec (eo::len eo::self)))(declare-const and (-> Bool Bool Bool) :right-assoc-nil true)")
    ++ line (codes "(declare-parameterized-const = ((T Type :implicit)) (-> T T Bool) :chainable and)")
    ++ line (codes "(declare-parameterized-const extract ((n Int :implicit) (h Int) (l Int)) (-> (BitVec n) (BitVec (eo::add (eo::add h 1) (eo::neg l)))))")

right_width : Refuses (typed_names ++ codes "(assume @a (= (extract 7 4 #xA5) #x5))") (codes "refused F28 NotAsserted p.eo:5:438")
unfolding computed
right_width = refl

wrong_width : Refuses (typed_names ++ codes "(assume @a (= (extract 7 4 #xA5) #xA5))") (codes "refused F15 IllTyped p.eo:5:438")
unfolding computed
wrong_width = refl

number_formula : Refuses (typed_names ++ codes "(assume @a 5)") (codes "refused F27 NotBool p.eo:5:438")
unfolding computed
number_formula = refl

type_of_no_type : Refuses (codes "(declare-const c true)") (codes "refused F15 IllTyped p.eo:1:0")
unfolding computed
type_of_no_type = refl
