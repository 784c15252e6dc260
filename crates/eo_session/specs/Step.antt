-- What each kind of command does to a state, or its first fault.
use Rattle.std.specs.Prelude.{ℕ, Bool, true, false, not, ◌&&◌, ◌||◌, nat_eq, nat_lt, ◌==◌, if◌then◌else◌, List, [], ◌∷◌, ◌++◌, map, length, Option, Some, None, is_none, option_and_then, slice_get, Ok}
use Rattle.std.specs.Option.{option_map_or}
use Rattle.eo_base.specs.declared.FaultName.TheVariants.{Redeclared, UnknownSymbol, ProofDeclares, IllTyped, UnknownRule, UnknownPremise, NotBool, NotAsserted, NoReference, NoScope, ScopeDepth}
use Rattle.eo_base.specs.Checks.{Checked, Passed, ◌>>=◌, require, no_fault, value_or}
use Rattle.eo_sexp.specs.Sexp.{Sexp}
use Rattle.eo_lit.specs.declared.LiteralClass.{LiteralClass}
use Rattle.eo_sig.specs.Signature.{IsConstant, IsProgram, IsRule, IsLiteralType, Attribute, Plain, Constant, Macro, Program, Rule, Signature, Named, NamesMacro, lookup, constant_named, constant_taking, constant_at, argument_types, counts_of, is_apart, rule_at, rule_named, is_reserved, constant_fault, program_fault, rule_fault, literal_type_fault}
use Rattle.eo_shape.specs.Shapes.{ParameterShape, AttributeShape, ProgramShape, RuleShape, StepShape}
use Rattle.eo_term.specs.Tree.{Tree, type_tree, bool_tree, tree_eq}
use Rattle.eo_stack.specs.Evaluation.{eval0}
use Rattle.eo_eval.specs.Faults.{value_or_fault}
use Rattle.eo_names.specs.Contexts.{FileKind, InProof, InReference, InAssert, Naming, Several, One}
use Rattle.eo_names.specs.Readers.{NamedTerm}
use Rattle.eo_elab.specs.Meaning.{means, meaning}
use Rattle.eo_declare.specs.Declarations.{is_reference_name, declared_const, declared_fun, declared_sort, declared_parameterized, declared_literals, defined, defined_fun, defined_sort, declared_program, declared_rule}
use Rattle.eo_proof.specs.Scopes.{depth, scope_limit, is_live, is_free_outside, fact_named, innermost_hypothesis}
use Rattle.eo_rule.specs.Uses.{Use, conclusion}
use Rattle.eo_rule.specs.Uses as rule
use Rattle.eo_session.specs.State.{State, context, context_in, with_entry, with_macro, with_assertion, with_fact, with_scope, without_scope, is_asserted}
use Rattle.eo_session.specs.Origin.{Origin}
use Rattle.eo_session.specs.Origin as origin

-- ---- the file that a command is in

abbrev pub is_in_reference : Origin → Bool
is_in_reference origin.Signature = false
is_in_reference origin.Proof = false
is_in_reference origin.Reference = true

abbrev pub is_in_proof : Origin → Bool
is_in_proof origin.Signature = false
is_in_proof origin.Proof = true
is_in_proof origin.Reference = false

-- the kind of file, as the meaning of terms sees it
abbrev pub file_kind_of : Origin → FileKind
file_kind_of origin.Signature = InProof
file_kind_of origin.Proof = InProof
file_kind_of origin.Reference = InReference

-- ---- checks

-- the value of a tree, or the fault of an evaluation that gives none
unfoldable pub evaluated : State → Tree → Checked Tree
evaluated st t = value_or_fault (eval0 st.signature t)

-- the value of a term
unfoldable pub value : State → Sexp → Checked Tree
value st s = do
  t ← meaning (context st) [] s
  evaluated st t

-- the type of a value, which is a value
abbrev pub typed : State → Tree → Checked Tree
typed st v = rule.typed st.signature v

-- the values of terms in order
unfoldable pub values : State → List Sexp → Checked (List Tree)
values st [] = Ok []
values st (s ∷ ss) = do
  v ← value st s
  vs ← values st ss
  Ok (v ∷ vs)

abbrev pub optional_value : State → Option Sexp → Checked (Option Tree)
optional_value st None = Ok None
optional_value st (Some s) = do
  v ← value st s
  Ok (Some v)

-- the value of a tree, which is a formula
unfoldable pub formula_of : State → Tree → Checked Tree
formula_of st t = do
  v ← evaluated st t
  type ← typed st v
  _ ← require (tree_eq type bool_tree) NotBool
  Ok v

-- the value of a term, which is a formula
unfoldable pub formula : State → Sexp → Checked Tree
formula st s = do
  t ← meaning (context st) [] s
  formula_of st t

-- a macro without parameters is its tree
abbrev pub plain_tree : Macro → Option Tree
plain_tree m = if length m.parameters == 0 then Some m.tree else None

-- the tree of what a name means, where that is a macro without parameters
abbrev pub macro_tree : List Macro → Option Named → Option Tree
macro_tree macros (Some (NamesMacro k)) = option_and_then plain_tree (slice_get macros k)
macro_tree macros n = None

-- the value of the macro without parameters that has this name
unfoldable pub value_named : State → List ℕ → Checked Tree
value_named st name = do
  t ← value_or UnknownSymbol (macro_tree st.macros (lookup st.signature st.macros name))
  evaluated st t

abbrev pub is_free_fact : State → List ℕ → Bool
is_free_fact st name = not (is_reserved name) && not (is_live st.scopes name)

-- ---- constants

abbrev pub is_plain : Attribute → Bool
is_plain Plain = true
is_plain a = false

-- whether the constant of this number is one of the reference file, with the same type
abbrev pub repeats : State → Constant → Option ℕ → Bool
repeats st d None = false
repeats st d (Some k) = option_map_or (λ old. old.from_reference && tree_eq old.type d.type) (constant_at st.signature k) false

-- the same name and type as a constant of the reference file, without attribute
abbrev pub repeats_constant : State → Constant → Bool
repeats_constant st d =
    is_plain d.attribute && repeats st d (constant_taking st.signature d.name (length (argument_types d.type)))

-- no constant of its name takes a number of arguments that this one takes
abbrev pub named_apart : Naming → Signature → Constant → Checked Passed
named_apart Several S d = require (is_apart S d.name (counts_of d)) Redeclared
named_apart (One refusal) S d = require (is_none (constant_named S d.name)) refusal

-- the constant is added, where its name may have it
abbrev pub apart_constant : State → Constant → Checked State
apart_constant st d = do
  _ ← named_apart st.naming st.signature d
  Ok (with_entry st (IsConstant d (counts_of d)))

-- A constant of the reference file is accepted again; nothing changes.
unfoldable pub added_constant : State → Constant → Checked State
added_constant st d = if repeats_constant st d then Ok st else apart_constant st d

-- the value of a type, which has type `Type`
unfoldable pub type_value : State → Tree → Checked Tree
type_value st t = do
  v ← evaluated st t
  type ← typed st v
  _ ← require (tree_eq type type_tree) IllTyped
  Ok v

-- the declared type is the value of the type
unfoldable pub typed_constant : State → Constant → Checked State
typed_constant st d = do
  v ← type_value st d.type
  added_constant st (record d { type = v })

-- the constant is added, unless its declaration has a fault
abbrev pub checked_constant : State → Constant → Checked State
checked_constant st d = do
  _ ← no_fault (constant_fault d)
  apart_constant st d

-- and so is the type of a class of literals
abbrev pub checked_literals : State → LiteralClass → Tree → Checked State
checked_literals st class t = do
  _ ← no_fault (literal_type_fault st.signature class t)
  Ok (with_entry st (IsLiteralType class t))

abbrev pub declare_const : State → FileKind → List ℕ → Sexp → AttributeShape → Checked State
declare_const st file_kind name type shape = do
  d ← declared_const (context_in st file_kind) name type shape
  typed_constant st d

abbrev pub declare_fun : State → FileKind → List ℕ → List Sexp → Sexp → Checked State
declare_fun st file_kind name inputs output = do
  d ← declared_fun (context_in st file_kind) name inputs output
  typed_constant st d

abbrev pub declare_sort : State → FileKind → List ℕ → ℕ → Checked State
declare_sort st file_kind name arity = do
  d ← declared_sort (context_in st file_kind) name arity
  typed_constant st d

abbrev pub declare_parameterized : State → List ℕ → List ParameterShape → Sexp → AttributeShape → Checked State
declare_parameterized st name shapes type shape = do
  d ← declared_parameterized (context st) name shapes type shape
  checked_constant st d

abbrev pub declare_literals : State → LiteralClass → Sexp → Checked State
declare_literals st class type = do
  t ← declared_literals (context st) class type
  checked_literals st class t

-- ---- macros

-- the same name, number of parameters and tree as a macro of the reference file
abbrev pub repeats_macro : State → Macro → Option Named → Bool
repeats_macro st m (Some (NamesMacro k)) =
    option_map_or (λ old. old.from_reference && nat_eq (length old.parameters) (length m.parameters) && tree_eq old.tree m.tree) (slice_get st.macros k) false
repeats_macro st m n = false

unfoldable pub added_macro : State → Macro → Checked State
added_macro st m =
    if is_reference_name (context st) m.name then (do
      _ ← require (repeats_macro st m (lookup st.signature st.macros m.name)) Redeclared
      Ok st
    ) else Ok (with_macro st m)

abbrev pub define : State → List ℕ → List ParameterShape → Sexp → Checked State
define st name shapes body = do
  m ← defined (context st) name shapes body
  added_macro st m

-- the macros of a reference file
abbrev pub define_fun : State → List ℕ → List ParameterShape → (output body : Sexp) → Checked State
define_fun st name shapes output body = do
  m ← defined_fun (context_in st InReference) name shapes output body
  added_macro st m

abbrev pub define_sort : State → List ℕ → List (List ℕ) → Sexp → Checked State
define_sort st name names type = do
  m ← defined_sort (context_in st InReference) name names type
  added_macro st m

-- ---- programs and rules

-- a closed proof declares no rules and programs
abbrev pub may_declare : State → Origin → Checked Passed
may_declare st from = require (not (st.closed && is_in_proof from)) ProofDeclares

-- the program is added, unless its declaration has a fault
abbrev pub checked_program : State → Program → Checked State
checked_program st p = do
  _ ← no_fault (program_fault p)
  Ok (with_entry st (IsProgram p))

abbrev pub added_program : State → ProgramShape → Checked State
added_program st shape = do
  p ← declared_program (context st) shape
  checked_program st p

unfoldable pub define_program : State → Origin → ProgramShape → Checked State
define_program st from shape = do
  _ ← may_declare st from
  added_program st shape

-- the rule is added, unless its declaration has a fault
abbrev pub checked_rule : State → Rule → Checked State
checked_rule st r = do
  _ ← no_fault (rule_fault st.signature r)
  Ok (with_entry st (IsRule r))

abbrev pub added_rule : State → RuleShape → Checked State
added_rule st shape = do
  r ← declared_rule (context st) shape
  checked_rule st r

unfoldable pub declare_rule : State → Origin → RuleShape → Checked State
declare_rule st from shape = do
  _ ← may_declare st from
  added_rule st shape

-- ---- assumptions

-- the name is free, the formula is one, and it is asserted
unfoldable pub assume : State → List ℕ → Sexp → Checked State
assume st name s = do
  _ ← require (is_free_fact st name) Redeclared
  v ← formula st s
  _ ← require st.has_reference NoReference
  _ ← require (is_asserted st v) NotAsserted
  Ok (with_fact st name v)

-- a scope is opened, whose first fact is its assumption
unfoldable pub assume_push : State → List ℕ → Sexp → Checked State
assume_push st name s = do
  _ ← require (nat_lt (depth st.scopes) scope_limit) ScopeDepth
  _ ← require (is_free_fact st name) Redeclared
  v ← formula st s
  Ok (with_scope st name v)

-- ---- assertions

-- a name that a term of an assertion gives itself
abbrev pub named_term_macro : NamedTerm → Macro
named_term_macro l = record { name = l.name; parameters = []; tree = l.tree; from_reference = true }

abbrev pub with_named_terms : State → List NamedTerm → State
with_named_terms st named_terms = record st { macros = st.macros ++ map named_term_macro named_terms }

-- the value of a formula is asserted, and then the names of its terms are macros
unfoldable pub assert : State → Sexp → Checked State
assert st s = do
  r ← means (context_in st InAssert) [] s []
  v ← formula_of st r.0
  Ok (with_named_terms (with_assertion st v) r.1)

-- ---- steps

-- the facts of these names
unfoldable pub premises : State → List (List ℕ) → Checked (List Tree)
premises st [] = Ok []
premises st (name ∷ names) = do
  t ← value_or UnknownPremise (fact_named st.scopes name)
  ts ← premises st names
  Ok (t ∷ ts)

-- what a rule is used on, with an assumption or without one
unfoldable pub use_of : State → Option Tree → StepShape → Checked Use
use_of st assumed s = do
  ps ← premises st s.premises
  stated ← optional_value st s.stated
  arguments ← values st s.arguments
  Ok (record { assumed = assumed; premises = ps; arguments = arguments; stated = stated })

-- what a rule concludes, and whether the rule is marked as unproved
pub record Concluded : Type 0 where
  pub formula : Tree
  pub sorry : Bool

-- whether the rule of this number is marked as unproved
abbrev pub is_sorry : State → ℕ → Bool
is_sorry st number = option_map_or (λ r. r.sorry) (rule_at st.signature number) false

-- what the rule of this number concludes
unfoldable pub concluded_by : State → ℕ → Option Tree → StepShape → Checked Concluded
concluded_by st number assumed s = do
  given ← use_of st assumed s
  f ← conclusion st.signature number given
  Ok (record { formula = f; sorry = is_sorry st number })

unfoldable pub concluded : State → Option Tree → StepShape → Checked Concluded
concluded st assumed s = do
  number ← value_or UnknownRule (rule_named st.signature s.rule)
  concluded_by st number assumed s

abbrev pub with_conclusion : State → List ℕ → Concluded → State
with_conclusion st name k = record (with_fact st name k.formula) { sorry = st.sorry || k.sorry }

unfoldable pub step_plain : State → StepShape → Checked State
step_plain st s = do
  _ ← require (is_free_fact st s.name) Redeclared
  k ← concluded st None s
  Ok (with_conclusion st s.name k)

abbrev pub is_free_outer_fact : State → List ℕ → Bool
is_free_outer_fact st name = not (is_reserved name) && is_free_outside st.scopes name

-- the innermost scope is closed; the name is free outside it, and the fact is one of the scope around it
unfoldable pub step_pop : State → StepShape → Checked State
step_pop st s = do
  a ← value_or NoScope (innermost_hypothesis st.scopes)
  _ ← require (is_free_outer_fact st s.name) Redeclared
  k ← concluded st (Some a) s
  Ok (with_conclusion (without_scope st) s.name k)
