-- The shape of each command. A command is a list that begins with a symbol, the word of the command.
use Rattle.std.specs.Prelude.{ℕ, Bool, true, false, not, ◌&&◌, nat_le, if◌then◌else◌, List, [], ◌∷◌, map, Option, Some, None, option_map, option_and_then, bytes_eq, codes, Err}
use Rattle.std.specs.List.{list_all}
use Rattle.eo_base.specs.declared.FaultName.TheVariants.{UnknownCommand, BadCommand}
use Rattle.eo_base.specs.Checks.{Checked, ◌>>=◌, value_or}
use Rattle.eo_sexp.specs.AtomKind as kind
use Rattle.eo_sexp.specs.Sexp.{Sexp, Atom, Listed, Next, children_of, only_two}
pub use Rattle.eo_sexp.specs.Sexp.{list_of}
use Rattle.eo_lit.specs.declared.LiteralClass.{LiteralClass}
use Rattle.eo_lit.specs.declared.LiteralClass.TheVariants.{Numeral, Binary, String}
use Rattle.eo_shape.specs.Words.{symbol_of, keyword_of, numeral_of, string_of, is_some_word}

-- ---- parts

-- (x T), with `:implicit` and `:list` after it
pub record ParameterShape : Type 0 where
  pub name : List ℕ
  pub type : Sexp
  pub implicit : Bool
  pub list : Bool

pub data AttributeShape : Type 0 where
  NoAttribute : AttributeShape
  RightNilShape : (terminator : Sexp) → AttributeShape
  LeftNilShape : (terminator : Sexp) → AttributeShape
  RightShape : AttributeShape
  LeftShape : AttributeShape
  ChainShape : (joiner : Sexp) → AttributeShape
  PairsShape : (joiner : Sexp) → AttributeShape
  BinderShape : (collector : Sexp) → AttributeShape

-- ((S p ..) body): what the program S is applied to, and the body
pub record CaseShape : Type 0 where
  pub patterns : List Sexp
  pub body : Sexp

pub record ProgramShape : Type 0 where
  pub name : List ℕ
  pub parameters : List ParameterShape
  pub inputs : List Sexp
  pub output : Sexp
  pub cases : List CaseShape

-- a pattern for each premise, or one for all, with what joins them
pub data PremisesShape : Type 0 where
  EachShape : (patterns : List Sexp) → PremisesShape
  JoinedShape : (pattern joiner : Sexp) → PremisesShape

pub record RuleShape : Type 0 where
  pub name : List ℕ
  pub parameters : List ParameterShape
  pub assumed : Option Sexp
  pub premises : PremisesShape
  pub arguments : List Sexp
  pub requirements : List (Sexp × Sexp)
  pub conclusion : Sexp
  pub sorry : Bool

-- (S [t] :rule R [:premises (S ..)] [:args (t ..)])
pub record StepShape : Type 0 where
  pub name : List ℕ
  pub stated : Option Sexp
  pub rule : List ℕ
  pub premises : List (List ℕ)
  pub arguments : List Sexp

pub data Command : Type 0 where
  DeclareConst : (name : List ℕ) (type : Sexp) (attribute : AttributeShape) → Command
  DeclareFun : (name : List ℕ) (inputs : List Sexp) (output : Sexp) → Command
  DeclareSort : (name : List ℕ) (arity : ℕ) → Command
  DeclareParameterized : (name : List ℕ) (parameters : List ParameterShape) (type : Sexp) (attribute : AttributeShape) → Command
  DeclareLiterals : (class : LiteralClass) (type : Sexp) → Command
  Define : (name : List ℕ) (parameters : List ParameterShape) (body : Sexp) → Command
  DefineProgram : (program : ProgramShape) → Command
  DeclareRule : (rule : RuleShape) → Command
  Assume : (name : List ℕ) (formula : Sexp) → Command
  AssumePush : (name : List ℕ) (formula : Sexp) → Command
  Step : (step : StepShape) → Command
  StepPop : (step : StepShape) → Command
  -- a file by its path, as it is written between the quotes
  Include : (path : List ℕ) → Command
  Refer : (path : List ℕ) → Command
  -- in reference files alone
  DefineFun : (name : List ℕ) (parameters : List ParameterShape) (output body : Sexp) → Command
  DefineSort : (name : List ℕ) (parameters : List (List ℕ)) (type : Sexp) → Command
  Assert : (formula : Sexp) → Command
  Exit : Command
  Skip : Command

-- ---- lists of parts

-- the parts of each, where each has the shape
abbrev pub every : {A B : Type 0} → (A → Option B) → List A → Option (List B)
every f [] = Some []
every f (x ∷ xs) = option_and_then (λ y. option_map (λ ys. y ∷ ys) (every f xs)) (f x)

abbrev pub list_of_each : {B : Type 0} → (Sexp → Option B) → Sexp → Option (List B)
list_of_each f s = option_and_then (every f) (list_of s)

abbrev pub is_keyword : List ℕ → Sexp → Bool
is_keyword word s = is_some_word word (keyword_of s)

-- the part after a keyword, where the keyword comes first with a part after it; and what follows
abbrev pub optional : List ℕ → List Sexp → Option Sexp × List Sexp
optional word (k ∷ v ∷ rest) = if is_keyword word k then (Some v, rest) else (None, k ∷ v ∷ rest)
optional word ss = (None, ss)

-- what a keyword's thing lists, or nothing where there is no such keyword; and what follows
abbrev pub optional_list : {B : Type 0} → (Sexp → Option (List B)) → List ℕ → List Sexp → Option (List B × List Sexp)
optional_list f word (k ∷ v ∷ rest) = if is_keyword word k then option_map (λ xs. (xs, rest)) (f v) else Some ([], k ∷ v ∷ rest)
optional_list f word ss = Some ([], ss)

-- each of them (t t)
abbrev pub pairs_of : Sexp → Option (List (Sexp × Sexp))
pairs_of s = list_of_each (λ q. option_and_then only_two (list_of q)) s

abbrev pub symbols_of : Sexp → Option (List (List ℕ))
symbols_of s = list_of_each symbol_of s

-- ---- parameters and attributes

-- each mark at most once
abbrev pub with_marks : ParameterShape → List Sexp → Option ParameterShape
with_marks p [] = Some p
with_marks p (s ∷ rest) =
    if is_keyword (codes ":implicit") s && not p.implicit then with_marks (record p { implicit = true }) rest
    else if is_keyword (codes ":list") s && not p.list then with_marks (record p { list = true }) rest
    else None

abbrev pub parameter_of : List Sexp → Option ParameterShape
parameter_of (x ∷ t ∷ marks) = option_and_then (λ name. with_marks (record { name = name; type = t; implicit = false; list = false }) marks) (symbol_of x)
parameter_of ss = None

abbrev pub parameters_of : Sexp → Option (List ParameterShape)
parameters_of s = list_of_each (λ p. option_and_then parameter_of (list_of p)) s

abbrev pub marked_attribute : Sexp → Option AttributeShape
marked_attribute k =
    if is_keyword (codes ":right-assoc") k then Some RightShape
    else if is_keyword (codes ":left-assoc") k then Some LeftShape
    else None

abbrev pub valued_attribute : Sexp → Sexp → Option AttributeShape
valued_attribute k v =
    if is_keyword (codes ":right-assoc-nil") k then Some (RightNilShape v)
    else if is_keyword (codes ":left-assoc-nil") k then Some (LeftNilShape v)
    else if is_keyword (codes ":chainable") k then Some (ChainShape v)
    else if is_keyword (codes ":pairwise") k then Some (PairsShape v)
    else if is_keyword (codes ":binder") k then Some (BinderShape v)
    else None

abbrev pub attribute_of : List Sexp → Option AttributeShape
attribute_of [] = Some NoAttribute
attribute_of (k ∷ []) = marked_attribute k
attribute_of (k ∷ v ∷ []) = valued_attribute k v
attribute_of ss = None

-- ---- one command each, by what follows its word

abbrev pub declare_const : List Sexp → Option Command
declare_const (s ∷ t ∷ rest) = option_and_then (λ name. option_map (DeclareConst name t) (attribute_of rest)) (symbol_of s)
declare_const ss = None

abbrev pub declare_fun : List Sexp → Option Command
declare_fun (s ∷ inputs ∷ output ∷ []) = option_and_then (λ name. option_map (λ ts. DeclareFun name ts output) (list_of inputs)) (symbol_of s)
declare_fun ss = None

abbrev pub arity_of : Sexp → Option ℕ
arity_of s = option_and_then (λ n. if nat_le n 64 then Some n else None) (numeral_of s)

abbrev pub declare_sort : List Sexp → Option Command
declare_sort (s ∷ n ∷ []) = option_and_then (λ name. option_map (DeclareSort name) (arity_of n)) (symbol_of s)
declare_sort ss = None

abbrev pub declare_parameterized : List Sexp → Option Command
declare_parameterized (s ∷ ps ∷ t ∷ rest) =
    option_and_then (λ name. option_and_then (λ parameters. option_map (DeclareParameterized name parameters t) (attribute_of rest)) (parameters_of ps)) (symbol_of s)
declare_parameterized ss = None

abbrev pub class_named : List ℕ → Option LiteralClass
class_named word =
    if bytes_eq word (codes "<numeral>") then Some Numeral
    else if bytes_eq word (codes "<binary>") then Some Binary
    else if bytes_eq word (codes "<string>") then Some String
    else None

abbrev pub declare_literals : List Sexp → Option Command
declare_literals (c ∷ t ∷ []) = option_map (λ class. DeclareLiterals class t) (option_and_then class_named (symbol_of c))
declare_literals ss = None

abbrev pub define : List Sexp → Option Command
define (s ∷ ps ∷ body ∷ []) = option_and_then (λ name. option_map (λ parameters. Define name parameters body) (parameters_of ps)) (symbol_of s)
define ss = None

-- the left side applies the program's own name
abbrev pub applied_case : List ℕ → Sexp → List Sexp → Option CaseShape
applied_case name body [] = None
applied_case name body (h ∷ patterns) =
    if is_some_word name (symbol_of h) then Some (record { patterns = patterns; body = body }) else None

abbrev pub case_of : List ℕ → List Sexp → Option CaseShape
case_of name (left ∷ body ∷ []) = option_and_then (applied_case name body) (list_of left)
case_of name ss = None

abbrev pub cases_of : List ℕ → Sexp → Option (List CaseShape)
cases_of name s = list_of_each (λ c. option_and_then (case_of name) (list_of c)) s

abbrev pub not_empty : List Sexp → Option (List Sexp)
not_empty [] = None
not_empty (t ∷ ts) = Some (t ∷ ts)

abbrev pub inputs_of : Sexp → Option (List Sexp)
inputs_of s = option_and_then not_empty (list_of s)

-- a program by what follows `:signature`: the types of its inputs and its output, and its cases
abbrev pub program_with : List ℕ → List ParameterShape → List Sexp → Option Command
program_with name parameters (inputs ∷ output ∷ cases ∷ []) =
    option_and_then (λ ts. option_map (λ cs. DefineProgram (record { name = name; parameters = parameters; inputs = ts; output = output; cases = cs })) (cases_of name cases)) (inputs_of inputs)
program_with name parameters ss = None

abbrev pub signed_program : List ℕ → List ParameterShape → Sexp → List Sexp → Option Command
signed_program name parameters k rest =
    if is_keyword (codes ":signature") k then program_with name parameters rest else None

abbrev pub define_program : List Sexp → Option Command
define_program (s ∷ ps ∷ k ∷ rest) =
    option_and_then (λ name. option_and_then (λ parameters. signed_program name parameters k rest) (parameters_of ps)) (symbol_of s)
define_program ss = None

-- ---- rules, by their parts in order

abbrev pub premises_of : List Sexp → Option (PremisesShape × List Sexp)
premises_of (k ∷ p ∷ f ∷ rest) =
    if is_keyword (codes ":premise-list") k then Some (JoinedShape p f, rest)
    else if is_keyword (codes ":premises") k then option_map (λ ps. (EachShape ps, f ∷ rest)) (list_of p)
    else Some (EachShape [], k ∷ p ∷ f ∷ rest)
premises_of ss = Some (EachShape [], ss)

abbrev pub sorry_of : List Sexp → Option Bool
sorry_of [] = Some false
sorry_of (k ∷ []) = if is_keyword (codes ":sorry") k then Some true else None
sorry_of ss = None

-- :conclusion t [:sorry]
abbrev pub conclusion_of : List Sexp → Option (Sexp × Bool)
conclusion_of (k ∷ t ∷ rest) = if is_keyword (codes ":conclusion") k then option_map (λ sorry. (t, sorry)) (sorry_of rest) else None
conclusion_of ss = None

-- a rule by what follows its premises
abbrev pub rule_with : List ℕ → List ParameterShape → Option Sexp → PremisesShape → List Sexp → Option RuleShape
rule_with name parameters assumed premises parts =
    option_and_then (λ a. option_and_then (λ q. option_map (λ c. record {
      name = name;
      parameters = parameters;
      assumed = assumed;
      premises = premises;
      arguments = a.0;
      requirements = q.0;
      conclusion = c.0;
      sorry = c.1;
    }) (conclusion_of q.1)) (optional_list pairs_of (codes ":requires") a.1)) (optional_list list_of (codes ":args") parts)

abbrev pub rule_of : List ℕ → List ParameterShape → List Sexp → Option RuleShape
rule_of name parameters parts =
    let a = optional (codes ":assumption") parts in
    option_and_then (λ p. rule_with name parameters a.0 p.0 p.1) (premises_of a.1)

abbrev pub declare_rule : List Sexp → Option Command
declare_rule (s ∷ ps ∷ parts) =
    option_and_then (λ name. option_and_then (λ parameters. option_map DeclareRule (rule_of name parameters parts)) (parameters_of ps)) (symbol_of s)
declare_rule ss = None

-- ---- assumptions and steps

abbrev pub named_formula : (List ℕ → Sexp → Command) → List Sexp → Option Command
named_formula command (s ∷ t ∷ []) = option_map (λ name. command name t) (symbol_of s)
named_formula command ss = None

-- the arguments, after which nothing follows
abbrev pub last_arguments : List Sexp → Option (List Sexp)
last_arguments [] = Some []
last_arguments (k ∷ v ∷ []) = if is_keyword (codes ":args") k then list_of v else None
last_arguments ss = None

abbrev pub premise_names : List Sexp → Option (List (List ℕ) × List Sexp)
premise_names parts = optional_list symbols_of (codes ":premises") parts

-- a step by what follows its rule
abbrev pub step_with : List ℕ → Option Sexp → List ℕ → List Sexp → Option StepShape
step_with name stated rule parts =
    option_and_then (λ p. option_map (λ ts. record {
      name = name;
      stated = stated;
      rule = rule;
      premises = p.0;
      arguments = ts;
    }) (last_arguments p.1)) (premise_names parts)

abbrev pub step_by_rule : List ℕ → Option Sexp → List Sexp → Option StepShape
step_by_rule name stated (k ∷ r ∷ parts) =
    if is_keyword (codes ":rule") k then option_and_then (λ rule. step_with name stated rule parts) (symbol_of r) else None
step_by_rule name stated ss = None

-- a formula may be stated before the rule; and what follows it
abbrev pub stated_of : List Sexp → Option Sexp × List Sexp
stated_of (t ∷ parts) = if is_keyword (codes ":rule") t then (None, t ∷ parts) else (Some t, parts)
stated_of [] = (None, [])

abbrev pub step_of : List Sexp → Option StepShape
step_of (s ∷ parts) = option_and_then (λ name. step_by_rule name (stated_of parts).0 (stated_of parts).1) (symbol_of s)
step_of [] = None

abbrev pub step : (StepShape → Command) → List Sexp → Option Command
step command parts = option_map command (step_of parts)

abbrev pub one_string : (List ℕ → Command) → List Sexp → Option Command
one_string command (s ∷ []) = option_map command (string_of s)
one_string command ss = None

-- ---- in reference files alone

-- a constant without attribute
abbrev pub declare_plain : List Sexp → Option Command
declare_plain (s ∷ t ∷ []) = declare_const (s ∷ t ∷ [])
declare_plain ss = None

abbrev pub is_unmarked : ParameterShape → Bool
is_unmarked p = not p.implicit && not p.list

abbrev pub if_unmarked : List ParameterShape → Option (List ParameterShape)
if_unmarked ps = if list_all is_unmarked ps then Some ps else None

-- ((x T) ..)
abbrev pub unmarked_of : Sexp → Option (List ParameterShape)
unmarked_of s = option_and_then if_unmarked (parameters_of s)

abbrev pub define_fun : List Sexp → Option Command
define_fun (s ∷ ps ∷ output ∷ body ∷ []) = option_and_then (λ name. option_map (λ parameters. DefineFun name parameters output body) (unmarked_of ps)) (symbol_of s)
define_fun ss = None

abbrev pub define_sort : List Sexp → Option Command
define_sort (s ∷ ps ∷ t ∷ []) = option_and_then (λ name. option_map (λ parameters. DefineSort name parameters t) (symbols_of ps)) (symbol_of s)
define_sort ss = None

abbrev pub assert : List Sexp → Option Command
assert (t ∷ []) = Some (Assert t)
assert ss = None

abbrev pub exit : List Sexp → Option Command
exit [] = Some Exit
exit ss = None

-- whatever it holds
abbrev pub skip : List Sexp → Option Command
skip ss = Some Skip

-- ---- the words of commands

abbrev pub Form : Type 0
Form = List ℕ × (List Sexp → Option Command)

-- what assumes and what proves
abbrev pub proving_forms : List Form
proving_forms =
    (codes "assume", named_formula Assume) ∷ (codes "assume-push", named_formula AssumePush)
    ∷ (codes "step", step Step) ∷ (codes "step-pop", step StepPop) ∷ []

-- in signatures and proofs (Ethos manual, full syntax of the commands)
abbrev pub forms : List Form
forms =
    (codes "declare-const", declare_const) ∷ (codes "declare-fun", declare_fun) ∷ (codes "declare-sort", declare_sort)
    ∷ (codes "declare-parameterized-const", declare_parameterized) ∷ (codes "declare-consts", declare_literals)
    ∷ (codes "define", define) ∷ (codes "program", define_program) ∷ (codes "declare-rule", declare_rule)
    ∷ (codes "include", one_string Include) ∷ (codes "reference", one_string Refer) ∷ proving_forms

-- commands of reference files that say nothing here
abbrev pub skipped : List (List ℕ)
skipped =
    codes "set-logic" ∷ codes "set-info" ∷ codes "set-option" ∷ codes "check-sat" ∷ codes "get-model" ∷ codes "get-proof"
    ∷ codes "get-unsat-core" ∷ codes "get-info" ∷ codes "get-option" ∷ codes "get-value" ∷ codes "get-assertions"
    ∷ codes "get-assignment" ∷ codes "echo" ∷ []

abbrev pub skipping_forms : List (List ℕ) → List Form
skipping_forms words = map (λ word. (word, skip)) words

-- in reference files (SMT-LIB 2.6, section 4.2 "Commands")
abbrev pub reference_forms : List Form
reference_forms =
    (codes "declare-const", declare_plain) ∷ (codes "declare-fun", declare_fun) ∷ (codes "declare-sort", declare_sort)
    ∷ (codes "define-fun", define_fun) ∷ (codes "define-sort", define_sort) ∷ (codes "assert", assert) ∷ (codes "exit", exit)
    ∷ skipping_forms skipped

abbrev pub form_of : List Form → List ℕ → Option (List Sexp → Option Command)
form_of [] word = None
form_of (f ∷ fs) word = if bytes_eq f.0 word then Some f.1 else form_of fs word

abbrev pub shaped_by : List Form → List ℕ → List Sexp → Checked Command
shaped_by fs word parts = value_or UnknownCommand (form_of fs word) >>= λ shape. value_or BadCommand (shape parts)

-- The command that an s-expression is, or what is wrong with its shape.
unfoldable pub command_of : (in_reference : Bool) → Sexp → Checked Command
command_of in_reference (Listed (Next (Atom kind.Symbol word at) parts) span) =
    shaped_by (if in_reference then reference_forms else forms) word (children_of parts)
command_of in_reference s = Err BadCommand
