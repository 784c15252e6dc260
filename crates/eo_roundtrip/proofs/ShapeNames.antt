-- The names that a command declares are symbols of it.
use Rattle.std.specs.Prelude.{◌≡◌, refl, ℕ, Bool, true, false, List, [], ◌∷◌, if◌then◌else◌, Option, Some, None, option_map, option_and_then, bytes_eq, codes, Ok}
use Rattle.std.proofs.Common.{subst}
use Rattle.std.proofs.lemmas.Option.{same_Some}
use Rattle.eo_base.proofs.ChecksLemmas.{bind_ok, value_or_ok}
use Rattle.eo_base.specs.Checks.{◌>>=◌, value_or}
use Rattle.eo_base.specs.declared.FaultName.TheVariants.{UnknownCommand, BadCommand}
use Rattle.eo_base.specs.Limits.{limits}
use Rattle.eo_sexp.specs.AtomKind as kind
use Rattle.eo_sexp.specs.Sexp.{Sexp, Atom, Listed, Sexps, NoSexp, Next, children_of}
use Rattle.eo_sexp.specs.ReadNames.{SymbolsFit, AllSymbolsFit}
use Rattle.eo_shape.specs.Words.{symbol_of, string_of}
use Rattle.eo_shape.specs.Shapes.{Command, DeclareConst, DeclareFun, DeclareSort, DeclareParameterized, Assume, AssumePush, Step, StepPop, Include, Refer, DeclareRule, StepShape, ParameterShape, Form, form_of, forms, reference_forms, command_of, declare_const, declare_fun, declare_sort, declare_parameterized, declare_literals, define, define_program, declare_rule, one_string, named_formula, step, declare_plain, define_fun, define_sort, assert, exit, skip, skipped, skipping_forms, attribute_of, list_of, arity_of, parameters_of, program_with, cases_of, inputs_of, rule_of, step_of, is_keyword, unmarked_of, symbols_of, class_named}
use Rattle.eo_show.specs.Printable.{IsPrintedName}
use Rattle.eo_session.specs.State.{State}
use Rattle.eo_session.specs.Origin.{Origin}
use Rattle.eo_session.specs.Step.{is_in_reference}
use Rattle.eo_session.specs.Commands.{uncounted, step as session_step}
use Rattle.eo_session.specs.declared.Next.{Next as ANext}
use Rattle.eo_roundtrip.proofs.Names.{DeclaresPrinted, NamesKept, step-names}

abbrev GoodParts : List Sexp → Type 0
GoodParts [] = Unit {0}
GoodParts (s ∷ ss) = SymbolsFit limits s × GoodParts ss

abbrev Declares : Option Command → Type 0
Declares None = Unit {0}
Declares (Some c) = DeclaresPrinted c

mapped : {A : Type 0} (o : Option A) (mk : A → Command) → ((a : A) → DeclaresPrinted (mk a)) → Declares (option_map mk o)
mapped None mk h = tt
mapped (Some a) mk h = h a

chained : {A : Type 0} (o : Option A) (f : A → Option Command) → ((a : A) → o ≡ Some a → Declares (f a)) → Declares (option_and_then f o)
chained None f h = tt
chained (Some a) f h = h a refl

tested : (b : Bool) (o : Option Command) → Declares o → Declares (if b then o else None)
tested true o h = h
tested false o h = tt

symbol-good : (s : Sexp) (name : List ℕ) → SymbolsFit limits s → symbol_of s ≡ Some name → IsPrintedName name
symbol-good (Atom kind.Symbol text span) name h e = subst IsPrintedName (same_Some text name e) h
symbol-good (Atom kind.Keyword text span) name h e = cc
symbol-good (Atom kind.Literal text span) name h e = cc
symbol-good (Atom kind.String text span) name h e = cc
symbol-good (Listed ss span) name h e = cc

abbrev FormGood : (List Sexp → Option Command) → Type 0
FormGood f = (parts : List Sexp) → GoodParts parts → Declares (f parts)

const-good : FormGood declare_const
const-good [] h = tt
const-good (s ∷ []) h = tt
const-good (s ∷ t ∷ rest) h = chained (symbol_of s) _ (λ name e. mapped (attribute_of rest) (DeclareConst name t) (λ a. symbol-good s name h.0 e))

fun-good : FormGood declare_fun
fun-good [] h = tt
fun-good (s ∷ []) h = tt
fun-good (s ∷ i ∷ []) h = tt
fun-good (s ∷ i ∷ o ∷ []) h = chained (symbol_of s) _ (λ name e. mapped (list_of i) (λ ts. DeclareFun name ts o) (λ a. symbol-good s name h.0 e))
fun-good (s ∷ i ∷ o ∷ x ∷ rest) h = tt

sort-good : FormGood declare_sort
sort-good [] h = tt
sort-good (s ∷ []) h = tt
sort-good (s ∷ n ∷ []) h = chained (symbol_of s) _ (λ name e. mapped (arity_of n) (DeclareSort name) (λ a. symbol-good s name h.0 e))
sort-good (s ∷ n ∷ x ∷ rest) h = tt

parameterized-good : FormGood declare_parameterized
parameterized-good [] h = tt
parameterized-good (s ∷ []) h = tt
parameterized-good (s ∷ ps ∷ []) h = tt
parameterized-good (s ∷ ps ∷ t ∷ rest) h =
    chained (symbol_of s) _ (λ name e. chained (parameters_of ps) _ (λ parameters f. mapped (attribute_of rest) (DeclareParameterized name parameters t) (λ a. symbol-good s name h.0 e)))

literals-good : FormGood declare_literals
literals-good [] h = tt
literals-good (c ∷ []) h = tt
literals-good (c ∷ t ∷ []) h = mapped (option_and_then class_named (symbol_of c)) _ (λ a. tt)
literals-good (c ∷ t ∷ x ∷ rest) h = tt

define-good : FormGood define
define-good [] h = tt
define-good (s ∷ []) h = tt
define-good (s ∷ ps ∷ []) h = tt
define-good (s ∷ ps ∷ b ∷ []) h = chained (symbol_of s) _ (λ name e. mapped (parameters_of ps) _ (λ a. tt))
define-good (s ∷ ps ∷ b ∷ x ∷ rest) h = tt

with-good : (name : List ℕ) (parameters : List ParameterShape) (rest : List Sexp) → Declares (program_with name parameters rest)
with-good name parameters [] = tt
with-good name parameters (i ∷ []) = tt
with-good name parameters (i ∷ o ∷ []) = tt
with-good name parameters (i ∷ o ∷ c ∷ []) = chained (inputs_of i) _ (λ ts e. mapped (cases_of name c) _ (λ a. tt))
with-good name parameters (i ∷ o ∷ c ∷ x ∷ rest) = tt

program-good : FormGood define_program
program-good [] h = tt
program-good (s ∷ []) h = tt
program-good (s ∷ ps ∷ []) h = tt
program-good (s ∷ ps ∷ k ∷ rest) h =
    chained (symbol_of s) _ (λ name e. chained (parameters_of ps) _ (λ parameters f. tested (is_keyword (codes ":signature") k) (program_with name parameters rest) (with-good name parameters rest)))

rule-good : FormGood declare_rule
rule-good [] h = tt
rule-good (s ∷ []) h = tt
rule-good (s ∷ ps ∷ parts) h = chained (symbol_of s) _ (λ name e. chained (parameters_of ps) _ (λ parameters f. mapped (rule_of name parameters parts) DeclareRule (λ a. tt)))

string-good : (mk : List ℕ → Command) → ((a : List ℕ) → DeclaresPrinted (mk a)) → FormGood (one_string mk)
string-good mk g [] h = tt
string-good mk g (s ∷ []) h = mapped (string_of s) mk g
string-good mk g (s ∷ x ∷ rest) h = tt

formula-good : (mk : List ℕ → Sexp → Command) → ((a : List ℕ) (t : Sexp) → DeclaresPrinted (mk a t)) → FormGood (named_formula mk)
formula-good mk g [] h = tt
formula-good mk g (s ∷ []) h = tt
formula-good mk g (s ∷ t ∷ []) h = mapped (symbol_of s) (λ name. mk name t) (λ a. g a t)
formula-good mk g (s ∷ t ∷ x ∷ rest) h = tt

step-good : (mk : StepShape → Command) → ((a : StepShape) → DeclaresPrinted (mk a)) → FormGood (step mk)
step-good mk g parts h = mapped (step_of parts) mk g

plain-good : FormGood declare_plain
plain-good [] h = tt
plain-good (s ∷ []) h = tt
plain-good (s ∷ t ∷ []) h = const-good (s ∷ t ∷ []) h
plain-good (s ∷ t ∷ x ∷ rest) h = tt

define_fun-good : FormGood define_fun
define_fun-good [] h = tt
define_fun-good (s ∷ []) h = tt
define_fun-good (s ∷ ps ∷ []) h = tt
define_fun-good (s ∷ ps ∷ o ∷ []) h = tt
define_fun-good (s ∷ ps ∷ o ∷ b ∷ []) h = chained (symbol_of s) _ (λ name e. mapped (unmarked_of ps) _ (λ a. tt))
define_fun-good (s ∷ ps ∷ o ∷ b ∷ x ∷ rest) h = tt

define_sort-good : FormGood define_sort
define_sort-good [] h = tt
define_sort-good (s ∷ []) h = tt
define_sort-good (s ∷ ps ∷ []) h = tt
define_sort-good (s ∷ ps ∷ t ∷ []) h = chained (symbol_of s) _ (λ name e. mapped (symbols_of ps) _ (λ a. tt))
define_sort-good (s ∷ ps ∷ t ∷ x ∷ rest) h = tt

assert-good : FormGood assert
assert-good [] h = tt
assert-good (t ∷ []) h = tt
assert-good (t ∷ x ∷ rest) h = tt

exit-good : FormGood exit
exit-good [] h = tt
exit-good (x ∷ rest) h = tt

skip-good : FormGood skip
skip-good parts h = tt

abbrev AllGood : List Form → Type 0
AllGood [] = Unit {0}
AllGood (f ∷ fs) = FormGood f.1 × AllGood fs

skips-good : (words : List (List ℕ)) → AllGood (skipping_forms words)
skips-good [] = tt
skips-good (w ∷ words) = (skip-good, skips-good words)

forms-good : AllGood forms
forms-good = (
  const-good,
  (
    fun-good,
    (
      sort-good,
      (
        parameterized-good,
        (
          literals-good,
          (
            define-good,
            (
              program-good,
              (
                rule-good,
                (
                  string-good Include (λ a. tt),
                  (
                    string-good Refer (λ a. tt),
                    (formula-good Assume (λ a t. tt), (formula-good AssumePush (λ a t. tt), (step-good Step (λ a. tt), (step-good StepPop (λ a. tt), tt)))),
                  ),
                ),
              ),
            ),
          ),
        ),
      ),
    ),
  ),
)

reference-good : AllGood reference_forms
reference-good = (plain-good, (fun-good, (sort-good, (define_fun-good, (define_sort-good, (assert-good, (exit-good, skips-good skipped)))))))

found-good : (fs : List Form) → AllGood fs → (word : List ℕ) (f : List Sexp → Option Command) → form_of fs word ≡ Some f → FormGood f
found-good [] h word f e = cc
found-good (g ∷ fs) h word f e = go (bytes_eq g.0 word) e (found-good fs h.1 word f)
  where
    go : (b : Bool) → (if b then Some g.1 else form_of fs word) ≡ Some f → (form_of fs word ≡ Some f → FormGood f) → FormGood f
    go true k later = subst FormGood (same_Some g.1 f k) h.0
    go false k later = later k

parts-good : (ss : Sexps) → AllSymbolsFit limits ss → GoodParts (children_of ss)
parts-good NoSexp h = tt
parts-good (Next s rest) h = (h.0, parts-good rest h.1)

shaped-good : (fs : List Form) → AllGood fs → (word : List ℕ) (parts : List Sexp) (command : Command) → GoodParts parts → (value_or UnknownCommand (form_of fs word) >>= λ shape. value_or BadCommand (shape parts)) ≡ Ok command → DeclaresPrinted command
shaped-good fs good word parts command h e =
    let f = bind_ok (value_or UnknownCommand (form_of fs word)) _ command e in
    let found = value_or_ok UnknownCommand (form_of fs word) f.0 f.1 in
    let made = value_or_ok BadCommand (f.0 parts) command f.2 in
    subst Declares made (found-good fs good word f.0 found parts h)

-- what a command declares as a constant can be printed, where its symbols can
pub declares-printed : (in_reference : Bool) (s : Sexp) (command : Command) → SymbolsFit limits s → command_of in_reference s ≡ Ok command → DeclaresPrinted command
unfolding command_of
declares-printed true (Listed (Next (Atom kind.Symbol word at) parts) span) command h e = shaped-good reference_forms reference-good word (children_of parts) command (parts-good parts h.1) e
declares-printed false (Listed (Next (Atom kind.Symbol word at) parts) span) command h e = shaped-good forms forms-good word (children_of parts) command (parts-good parts h.1) e
declares-printed b (Listed (Next (Atom k word at) parts) span) command h e = cc
declares-printed b (Listed (Next (Listed ss at) parts) span) command h e = cc
declares-printed b (Listed NoSexp span) command h e = cc
declares-printed b (Atom k text span) command h e = cc

-- A command whose symbols can be printed again leaves the constants with names that can be read and printed, where it is accepted.
pub read-step-names : (s : Sexp) → SymbolsFit limits s → (st : State) (from : Origin) (new : State) (what : ANext) → session_step st from s ≡ Ok (new, what) → NamesKept st new
unfolding session_step uncounted
read-step-names s fits st from new what e =
    let whole = bind_ok (uncounted st from s) _ (new, what) e in
    let shape = bind_ok (command_of (is_in_reference from) s) _ whole.0 whole.1 in
    step-names st from s shape.0 new what shape.1 (declares-printed (is_in_reference from) s shape.0 fits shape.1) e
