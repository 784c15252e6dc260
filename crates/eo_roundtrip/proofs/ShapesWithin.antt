-- The texts of a command fit where those of its s-expression do.
use Rattle.std.specs.Prelude.{◌≡◌, ℕ, Bool, true, false, not, ◌&&◌, List, [], ◌∷◌, if◌then◌else◌, Option, Some, None, option_map, option_and_then, bytes_eq, codes, Ok}
use Rattle.std.specs.List.{list_all}
use Rattle.std.proofs.Common.{subst}
use Rattle.std.proofs.lemmas.Option.{same_Some}
use Rattle.eo_base.proofs.ChecksLemmas.{bind_ok, value_or_ok}
use Rattle.eo_base.specs.Checks.{◌>>=◌, value_or}
use Rattle.eo_base.specs.declared.FaultName.TheVariants.{UnknownCommand, BadCommand}
use Rattle.eo_base.specs.Limits.{limits}
use Rattle.eo_sexp.specs.AtomKind as kind
use Rattle.eo_sexp.specs.Sexp.{Sexp, Atom, Listed, Sexps, NoSexp, Next, children_of}
use Rattle.eo_shape.specs.Words.{symbol_of, string_of, is_some_word}
use Rattle.eo_shape.specs.Shapes.{ParameterShape, AttributeShape, NoAttribute, RightNilShape, LeftNilShape, RightShape, LeftShape, ChainShape, PairsShape, BinderShape, CaseShape, StepShape, Command, DeclareConst, DeclareFun, DeclareSort, DeclareParameterized, DeclareLiterals, Define, DefineProgram, DeclareRule, Assume, AssumePush, Step, StepPop, Include, Refer, DefineFun, DefineSort, Assert, Form, form_of, forms, reference_forms, command_of, declare_const, declare_fun, declare_sort, declare_parameterized, declare_literals, define, define_program, declare_rule, one_string, named_formula, step, declare_plain, define_fun, define_sort, assert, exit, skip, skipped, skipping_forms, marked_attribute, valued_attribute, attribute_of, list_of, list_of_each, every, arity_of, parameters_of, parameter_of, with_marks, program_with, signed_program, cases_of, case_of, applied_case, inputs_of, rule_of, step_of, is_keyword, unmarked_of, if_unmarked, is_unmarked, symbols_of, class_named}
use Rattle.eo_roundtrip.proofs.Texts.{TextsFit, AllTextsFit}

-- ---- what may be there

abbrev SomeHolds : {A : Type 0} → (A → Type 0) → Option A → Type 0
SomeHolds P None = Unit {0}
SomeHolds P (Some a) = P a

abbrev Any : {A : Type 0} → A → Type 0
Any a = Unit {0}

any : {A : Type 0} (o : Option A) → SomeHolds Any o
any None = tt
any (Some a) = tt

mapped : {A B : Type 0} (P : A → Type 0) (Q : B → Type 0) (f : A → B) (o : Option A) → SomeHolds P o → ((a : A) → P a → Q (f a)) → SomeHolds Q (option_map f o)
mapped P Q f None h k = tt
mapped P Q f (Some a) h k = k a h

chained : {A B : Type 0} (P : A → Type 0) (Q : B → Type 0) (f : A → Option B) (o : Option A) → SomeHolds P o → ((a : A) → P a → SomeHolds Q (f a)) → SomeHolds Q (option_and_then f o)
chained P Q f None h k = tt
chained P Q f (Some a) h k = k a h

tested : {A : Type 0} (P : A → Type 0) (b : Bool) (o other : Option A) → SomeHolds P o → SomeHolds P other → SomeHolds P (if b then o else other)
tested P true o other h k = h
tested P false o other h k = k

abbrev pub Each : {A : Type 0} → (A → Type 0) → List A → Type 0
Each P [] = Unit {0}
Each P (x ∷ xs) = P x × Each P xs

-- ---- parts

abbrev pub Fits : Sexp → Type 0
Fits s = TextsFit limits s

abbrev pub ParameterFits : ParameterShape → Type 0
ParameterFits p = Fits p.type

abbrev pub AttributeFits : AttributeShape → Type 0
AttributeFits (RightNilShape n) = Fits n
AttributeFits (LeftNilShape n) = Fits n
AttributeFits NoAttribute = Unit {0}
AttributeFits RightShape = Unit {0}
AttributeFits LeftShape = Unit {0}
AttributeFits (ChainShape g) = Fits g
AttributeFits (PairsShape g) = Fits g
AttributeFits (BinderShape b) = Fits b

abbrev pub CaseFits : CaseShape → Type 0
CaseFits c = Fits c.body

-- what its declaration keeps
abbrev pub CommandFits : Command → Type 0
CommandFits (DeclareConst name type shape) = Fits type × AttributeFits shape
CommandFits (DeclareFun name inputs output) = Each Fits inputs × Fits output
CommandFits (DeclareParameterized name params type shape) = Each ParameterFits params × (Fits type × AttributeFits shape)
CommandFits (DeclareLiterals class type) = Fits type
CommandFits (Define name params body) = Each ParameterFits params × Fits body
CommandFits (DefineProgram s) = Each ParameterFits s.parameters × Each CaseFits s.cases
CommandFits (DefineFun name params output body) = Each ParameterFits params × Fits body
CommandFits (DefineSort name params type) = Fits type
CommandFits (Assert s) = Fits s
CommandFits command = Unit {0}

abbrev Declares : Option Command → Type 0
Declares o = SomeHolds CommandFits o

parts-fit : (ss : Sexps) → AllTextsFit limits ss → Each Fits (children_of ss)
parts-fit NoSexp h = tt
parts-fit (Next s rest) h = (h.0, parts-fit rest h.1)

list-fits : (s : Sexp) → Fits s → SomeHolds (Each Fits) (list_of s)
list-fits (Atom k text span) h = tt
list-fits (Listed ss span) h = parts-fit ss h

every-fits : {B : Type 0} (P : B → Type 0) (f : Sexp → Option B) → ((s : Sexp) → Fits s → SomeHolds P (f s)) → (ss : List Sexp) → Each Fits ss → SomeHolds (Each P) (every f ss)
every-fits P f h [] k = tt
every-fits P f h (s ∷ ss) k =
    chained P (Each P) (λ y. option_map (λ ys. y ∷ ys) (every f ss)) (f s) (h s k.0)
    (λ y p. mapped (Each P) (Each P) (λ ys. y ∷ ys) (every f ss) (every-fits P f h ss k.1) (λ ys q. (p, q)))

each-fits : {B : Type 0} (P : B → Type 0) (f : Sexp → Option B) → ((s : Sexp) → Fits s → SomeHolds P (f s)) → (s : Sexp) → Fits s → SomeHolds (Each P) (list_of_each f s)
each-fits P f h s k = chained (Each Fits) (Each P) (every f) (list_of s) (list-fits s k) (λ ss l. every-fits P f h ss l)

-- ---- parameters and attributes

marks-fit : (p : ParameterShape) (marks : List Sexp) → ParameterFits p → SomeHolds ParameterFits (with_marks p marks)
marks-fit p [] h = h
marks-fit p (s ∷ rest) h =
    tested ParameterFits (is_keyword (codes ":implicit") s && not p.implicit) (with_marks (record p { implicit = true }) rest) _
    (marks-fit (record p { implicit = true }) rest h)
    (tested ParameterFits (is_keyword (codes ":list") s && not p.list) (with_marks (record p { list = true }) rest) None (marks-fit (record p { list = true }) rest h) tt)

parameter-fits : (ss : List Sexp) → Each Fits ss → SomeHolds ParameterFits (parameter_of ss)
parameter-fits [] h = tt
parameter-fits (x ∷ []) h = tt
parameter-fits (x ∷ t ∷ marks) h =
    chained Any ParameterFits (λ name. with_marks (record { name = name; type = t; implicit = false; list = false }) marks) (symbol_of x) (any (symbol_of x))
    (λ name u. marks-fit (record { name = name; type = t; implicit = false; list = false }) marks h.1.0)

parameters-fit : (s : Sexp) → Fits s → SomeHolds (Each ParameterFits) (parameters_of s)
parameters-fit s h =
    each-fits ParameterFits (λ p. option_and_then parameter_of (list_of p)) (λ p k. chained (Each Fits) ParameterFits parameter_of (list_of p) (list-fits p k) parameter-fits) s h

marked-fits : (k : Sexp) → SomeHolds AttributeFits (marked_attribute k)
marked-fits k = by_tests (is_keyword (codes ":right-assoc") k) (is_keyword (codes ":left-assoc") k)
  where
    by_tests : (a b : Bool) → SomeHolds AttributeFits (if a then Some RightShape else if b then Some LeftShape else None)
    by_tests true b = tt
    by_tests false true = tt
    by_tests false false = tt

valued-fits : (k v : Sexp) → Fits v → SomeHolds AttributeFits (valued_attribute k v)
valued-fits k v h =
    tested AttributeFits (is_keyword (codes ":right-assoc-nil") k) (Some (RightNilShape v)) _ h
    (tested AttributeFits (is_keyword (codes ":left-assoc-nil") k) (Some (LeftNilShape v)) _ h
    (tested AttributeFits (is_keyword (codes ":chainable") k) (Some (ChainShape v)) _ h
    (tested AttributeFits (is_keyword (codes ":pairwise") k) (Some (PairsShape v)) _ h
    (tested AttributeFits (is_keyword (codes ":binder") k) (Some (BinderShape v)) None h tt))))

attribute-fits : (ss : List Sexp) → Each Fits ss → SomeHolds AttributeFits (attribute_of ss)
attribute-fits [] h = tt
attribute-fits (k ∷ []) h = marked-fits k
attribute-fits (k ∷ v ∷ []) h = valued-fits k v h.1.0
attribute-fits (k ∷ v ∷ x ∷ rest) h = tt

-- ---- each command

abbrev FormGood : (List Sexp → Option Command) → Type 0
FormGood f = (parts : List Sexp) → Each Fits parts → Declares (f parts)

const-good : FormGood declare_const
const-good [] h = tt
const-good (s ∷ []) h = tt
const-good (s ∷ t ∷ rest) h =
    chained Any CommandFits (λ name. option_map (DeclareConst name t) (attribute_of rest)) (symbol_of s) (any (symbol_of s))
    (λ name u. mapped AttributeFits CommandFits (DeclareConst name t) (attribute_of rest) (attribute-fits rest h.1.1) (λ a k. (h.1.0, k)))

fun-good : FormGood declare_fun
fun-good [] h = tt
fun-good (s ∷ []) h = tt
fun-good (s ∷ i ∷ []) h = tt
fun-good (s ∷ i ∷ o ∷ []) h =
    chained Any CommandFits (λ name. option_map (λ ts. DeclareFun name ts o) (list_of i)) (symbol_of s) (any (symbol_of s))
    (λ name u. mapped (Each Fits) CommandFits (λ ts. DeclareFun name ts o) (list_of i) (list-fits i h.1.0) (λ ts k. (k, h.1.1.0)))
fun-good (s ∷ i ∷ o ∷ x ∷ rest) h = tt

sort-good : FormGood declare_sort
sort-good [] h = tt
sort-good (s ∷ []) h = tt
sort-good (s ∷ n ∷ []) h =
    chained Any CommandFits (λ name. option_map (DeclareSort name) (arity_of n)) (symbol_of s) (any (symbol_of s))
    (λ name u. mapped Any CommandFits (DeclareSort name) (arity_of n) (any (arity_of n)) (λ a k. tt))
sort-good (s ∷ n ∷ x ∷ rest) h = tt

parameterized-good : FormGood declare_parameterized
parameterized-good [] h = tt
parameterized-good (s ∷ []) h = tt
parameterized-good (s ∷ ps ∷ []) h = tt
parameterized-good (s ∷ ps ∷ t ∷ rest) h =
    chained Any CommandFits (λ name. option_and_then (λ parameters. option_map (DeclareParameterized name parameters t) (attribute_of rest)) (parameters_of ps)) (symbol_of s) (any (symbol_of s))
    (λ name u. chained (Each ParameterFits) CommandFits (λ parameters. option_map (DeclareParameterized name parameters t) (attribute_of rest)) (parameters_of ps) (parameters-fit ps h.1.0)
    (λ parameters k. mapped AttributeFits CommandFits (DeclareParameterized name parameters t) (attribute_of rest) (attribute-fits rest h.1.1.1) (λ a l. (k, (h.1.1.0, l)))))

literals-good : FormGood declare_literals
literals-good [] h = tt
literals-good (c ∷ []) h = tt
literals-good (c ∷ t ∷ []) h =
    mapped Any CommandFits (λ class. DeclareLiterals class t) (option_and_then class_named (symbol_of c)) (any (option_and_then class_named (symbol_of c))) (λ a k. h.1.0)
literals-good (c ∷ t ∷ x ∷ rest) h = tt

define-good : FormGood define
define-good [] h = tt
define-good (s ∷ []) h = tt
define-good (s ∷ ps ∷ []) h = tt
define-good (s ∷ ps ∷ b ∷ []) h =
    chained Any CommandFits (λ name. option_map (λ parameters. Define name parameters b) (parameters_of ps)) (symbol_of s) (any (symbol_of s))
    (λ name u. mapped (Each ParameterFits) CommandFits (λ parameters. Define name parameters b) (parameters_of ps) (parameters-fit ps h.1.0) (λ parameters k. (k, h.1.1.0)))
define-good (s ∷ ps ∷ b ∷ x ∷ rest) h = tt

applied-fits : (name : List ℕ) (body : Sexp) (ss : List Sexp) → Fits body → SomeHolds CaseFits (applied_case name body ss)
applied-fits name body [] h = tt
applied-fits name body (x ∷ patterns) h = tested CaseFits (is_some_word name (symbol_of x)) (Some (record { patterns = patterns; body = body })) None h tt

case-fits : (name : List ℕ) (ss : List Sexp) → Each Fits ss → SomeHolds CaseFits (case_of name ss)
case-fits name [] h = tt
case-fits name (left ∷ []) h = tt
case-fits name (left ∷ body ∷ []) h = chained Any CaseFits (applied_case name body) (list_of left) (any (list_of left)) (λ ss u. applied-fits name body ss h.1.0)
case-fits name (left ∷ body ∷ x ∷ rest) h = tt

cases-fit : (name : List ℕ) (s : Sexp) → Fits s → SomeHolds (Each CaseFits) (cases_of name s)
cases-fit name s h =
    each-fits CaseFits (λ c. option_and_then (case_of name) (list_of c)) (λ c k. chained (Each Fits) CaseFits (case_of name) (list_of c) (list-fits c k) (case-fits name)) s h

with-good : (name : List ℕ) (parameters : List ParameterShape) (rest : List Sexp) → Each ParameterFits parameters → Each Fits rest → Declares (program_with name parameters rest)
with-good name parameters [] k h = tt
with-good name parameters (i ∷ []) k h = tt
with-good name parameters (i ∷ o ∷ []) k h = tt
with-good name parameters (i ∷ o ∷ c ∷ []) k h =
    chained Any CommandFits (λ ts. option_map (λ cs. DefineProgram (record { name = name; parameters = parameters; inputs = ts; output = o; cases = cs })) (cases_of name c)) (inputs_of i) (any (inputs_of i))
    (λ ts u. mapped (Each CaseFits) CommandFits (λ cs. DefineProgram (record { name = name; parameters = parameters; inputs = ts; output = o; cases = cs })) (cases_of name c) (cases-fit name c h.1.1.0) (λ cs l. (k, l)))
with-good name parameters (i ∷ o ∷ c ∷ x ∷ rest) k h = tt

program-good : FormGood define_program
program-good [] h = tt
program-good (s ∷ []) h = tt
program-good (s ∷ ps ∷ []) h = tt
program-good (s ∷ ps ∷ k ∷ rest) h =
    chained Any CommandFits (λ name. option_and_then (λ parameters. signed_program name parameters k rest) (parameters_of ps)) (symbol_of s) (any (symbol_of s))
    (λ name u. chained (Each ParameterFits) CommandFits (λ parameters. signed_program name parameters k rest) (parameters_of ps) (parameters-fit ps h.1.0)
    (λ parameters l. tested CommandFits (is_keyword (codes ":signature") k) (program_with name parameters rest) None (with-good name parameters rest l h.1.1.1) tt))

rule-good : FormGood declare_rule
rule-good [] h = tt
rule-good (s ∷ []) h = tt
rule-good (s ∷ ps ∷ parts) h =
    chained Any CommandFits (λ name. option_and_then (λ parameters. option_map DeclareRule (rule_of name parameters parts)) (parameters_of ps)) (symbol_of s) (any (symbol_of s))
    (λ name u. chained Any CommandFits (λ parameters. option_map DeclareRule (rule_of name parameters parts)) (parameters_of ps) (any (parameters_of ps))
    (λ parameters k. mapped Any CommandFits DeclareRule (rule_of name parameters parts) (any (rule_of name parameters parts)) (λ r l. tt)))

string-good : (mk : List ℕ → Command) → ((a : List ℕ) → CommandFits (mk a)) → FormGood (one_string mk)
string-good mk g [] h = tt
string-good mk g (s ∷ []) h = mapped Any CommandFits mk (string_of s) (any (string_of s)) (λ a k. g a)
string-good mk g (s ∷ x ∷ rest) h = tt

formula-good : (mk : List ℕ → Sexp → Command) → ((a : List ℕ) (t : Sexp) → CommandFits (mk a t)) → FormGood (named_formula mk)
formula-good mk g [] h = tt
formula-good mk g (s ∷ []) h = tt
formula-good mk g (s ∷ t ∷ []) h = mapped Any CommandFits (λ name. mk name t) (symbol_of s) (any (symbol_of s)) (λ a k. g a t)
formula-good mk g (s ∷ t ∷ x ∷ rest) h = tt

step-good : (mk : StepShape → Command) → ((a : StepShape) → CommandFits (mk a)) → FormGood (step mk)
step-good mk g parts h = mapped Any CommandFits mk (step_of parts) (any (step_of parts)) (λ a k. g a)

plain-good : FormGood declare_plain
plain-good [] h = tt
plain-good (s ∷ []) h = tt
plain-good (s ∷ t ∷ []) h = const-good (s ∷ t ∷ []) h
plain-good (s ∷ t ∷ x ∷ rest) h = tt

unmarked-fits : (s : Sexp) → Fits s → SomeHolds (Each ParameterFits) (unmarked_of s)
unmarked-fits s h =
    chained (Each ParameterFits) (Each ParameterFits) if_unmarked (parameters_of s) (parameters-fit s h) (λ ps k. tested (Each ParameterFits) (list_all is_unmarked ps) (Some ps) None k tt)

define_fun-good : FormGood define_fun
define_fun-good [] h = tt
define_fun-good (s ∷ []) h = tt
define_fun-good (s ∷ ps ∷ []) h = tt
define_fun-good (s ∷ ps ∷ o ∷ []) h = tt
define_fun-good (s ∷ ps ∷ o ∷ b ∷ []) h =
    chained Any CommandFits (λ name. option_map (λ parameters. DefineFun name parameters o b) (unmarked_of ps)) (symbol_of s) (any (symbol_of s))
    (λ name u. mapped (Each ParameterFits) CommandFits (λ parameters. DefineFun name parameters o b) (unmarked_of ps) (unmarked-fits ps h.1.0) (λ parameters k. (k, h.1.1.1.0)))
define_fun-good (s ∷ ps ∷ o ∷ b ∷ x ∷ rest) h = tt

define_sort-good : FormGood define_sort
define_sort-good [] h = tt
define_sort-good (s ∷ []) h = tt
define_sort-good (s ∷ ps ∷ []) h = tt
define_sort-good (s ∷ ps ∷ t ∷ []) h =
    chained Any CommandFits (λ name. option_map (λ parameters. DefineSort name parameters t) (symbols_of ps)) (symbol_of s) (any (symbol_of s))
    (λ name u. mapped Any CommandFits (λ parameters. DefineSort name parameters t) (symbols_of ps) (any (symbols_of ps)) (λ parameters k. h.1.1.0))
define_sort-good (s ∷ ps ∷ t ∷ x ∷ rest) h = tt

assert-good : FormGood assert
assert-good [] h = tt
assert-good (t ∷ []) h = h.0
assert-good (t ∷ x ∷ rest) h = tt

exit-good : FormGood exit
exit-good [] h = tt
exit-good (x ∷ rest) h = tt

skip-good : FormGood skip
skip-good parts h = tt

abbrev AllGood : List Form → Type 0
AllGood [] = Unit {0}
AllGood (f ∷ fs) = FormGood f.1 × AllGood fs

skips-good : (words : List (List ℕ)) → AllGood (skipping_forms words)
skips-good [] = tt
skips-good (w ∷ words) = (skip-good, skips-good words)

forms-good : AllGood forms
forms-good = (
  const-good,
  (
    fun-good,
    (
      sort-good,
      (
        parameterized-good,
        (
          literals-good,
          (
            define-good,
            (
              program-good,
              (
                rule-good,
                (
                  string-good Include (λ a. tt),
                  (
                    string-good Refer (λ a. tt),
                    (formula-good Assume (λ a t. tt), (formula-good AssumePush (λ a t. tt), (step-good Step (λ a. tt), (step-good StepPop (λ a. tt), tt)))),
                  ),
                ),
              ),
            ),
          ),
        ),
      ),
    ),
  ),
)

reference-good : AllGood reference_forms
reference-good = (plain-good, (fun-good, (sort-good, (define_fun-good, (define_sort-good, (assert-good, (exit-good, skips-good skipped)))))))

found-good : (fs : List Form) → AllGood fs → (word : List ℕ) (f : List Sexp → Option Command) → form_of fs word ≡ Some f → FormGood f
found-good [] h word f e = cc
found-good (g ∷ fs) h word f e = go (bytes_eq g.0 word) e (found-good fs h.1 word f)
  where
    go : (b : Bool) → (if b then Some g.1 else form_of fs word) ≡ Some f → (form_of fs word ≡ Some f → FormGood f) → FormGood f
    go true k later = subst FormGood (same_Some g.1 f k) h.0
    go false k later = later k

shaped-good : (fs : List Form) → AllGood fs → (word : List ℕ) (parts : List Sexp) (command : Command) → Each Fits parts → (value_or UnknownCommand (form_of fs word) >>= λ shape. value_or BadCommand (shape parts)) ≡ Ok command → CommandFits command
shaped-good fs good word parts command h e =
    let f = bind_ok (value_or UnknownCommand (form_of fs word)) _ command e in
    let found = value_or_ok UnknownCommand (form_of fs word) f.0 f.1 in
    let made = value_or_ok BadCommand (f.0 parts) command f.2 in
    subst Declares made (found-good fs good word f.0 found parts h)

-- the texts of a command fit
pub command-fits : (in_reference : Bool) (s : Sexp) (command : Command) → Fits s → command_of in_reference s ≡ Ok command → CommandFits command
unfolding command_of
command-fits true (Listed (Next (Atom kind.Symbol word at) parts) span) command h e = shaped-good reference_forms reference-good word (children_of parts) command (parts-fit parts h.1) e
command-fits false (Listed (Next (Atom kind.Symbol word at) parts) span) command h e = shaped-good forms forms-good word (children_of parts) command (parts-fit parts h.1) e
command-fits b (Listed (Next (Atom k word at) parts) span) command h e = cc
command-fits b (Listed (Next (Listed ss at) parts) span) command h e = cc
command-fits b (Listed NoSexp span) command h e = cc
command-fits b (Atom k text span) command h e = cc
