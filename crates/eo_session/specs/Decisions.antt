-- What is decided of a command: what it does, or its first fault.
use Rattle.std.specs.Prelude.{◌≡◌, ℕ, true, false, not, ◌||◌, nat_lt, if◌then◌else◌, List, [], Some, None, Ok}
use Rattle.eo_base.specs.declared.FaultName.TheVariants.{Redeclared, NoScope, ScopeDepth, InScope}
use Rattle.eo_base.specs.Checks.{Checked, ◌>>=◌, require, no_fault, value_or}
use Rattle.eo_lit.specs.declared.LiteralClass.{LiteralClass}
use Rattle.eo_sexp.specs.Sexp.{Sexp}
use Rattle.eo_sig.specs.Adding.{entry_fault}
use Rattle.eo_sig.specs.Signature.{SignatureEntry, IsConstant, IsProgram, IsRule, IsLiteralType, Constant, Macro, lookup, counts_of, constant_fault}
use Rattle.eo_shape.specs.Shapes.{ParameterShape, AttributeShape, ProgramShape, RuleShape, StepShape, Command, DeclareConst, DeclareFun, DeclareSort, DeclareParameterized, DeclareLiterals, Define, DefineProgram, DeclareRule, Assume, AssumePush, Step, StepPop, Include, Refer, DefineFun, DefineSort, Assert, Exit, Skip}
use Rattle.eo_declare.specs.Declarations.{is_reference_name, declared_const, declared_fun, declared_sort, declared_parameterized, declared_literals, defined, defined_fun, defined_sort, declared_program, declared_rule}
use Rattle.eo_elab.specs.Meaning.{means}
use Rattle.eo_names.specs.Contexts.{FileKind, InReference, InAssert}
use Rattle.eo_names.specs.Readers.{NamedTerm}
use Rattle.eo_proof.specs.Scopes.{depth, scope_limit, innermost_hypothesis}
use Rattle.eo_term.specs.Tree.{Tree}
use Rattle.eo_session.specs.Commands.{by_command, may_be_in_scope, next_by, placed_command}
use Rattle.eo_session.specs.Effects.{Effect, Declares, Defines, Asserts, Opens, Adds, Nothing, after}
use Rattle.eo_session.specs.Origin.{Origin}
use Rattle.eo_session.specs.State.{State, context, context_in, is_in_scope}
use Rattle.eo_session.specs.Step.{file_kind_of, is_free_fact, is_free_outer_fact, repeats_constant, named_apart, repeats_macro, type_value, may_declare, formula_of, formula, concluded}
use Rattle.eo_session.specs.Using.{asserted_formula}
use Rattle.eo_session.specs.declared.Next.{Next}

-- ---- declarations

-- an entry, unless its declaration has a fault
abbrev pub entry_effect : State → SignatureEntry → Checked Effect
entry_effect st entry = do
  _ ← no_fault (entry_fault st.signature entry)
  Ok (Declares entry)

-- a constant, unless one of its name takes a number of arguments that it takes
abbrev pub apart_effect : State → Constant → Checked Effect
apart_effect st d = do
  _ ← named_apart st.naming st.signature d
  Ok (Declares (IsConstant d (counts_of d)))

-- a constant, whose type is a value; one of the reference file may be repeated
abbrev pub constant_effect : State → Constant → Checked Effect
constant_effect st d = if repeats_constant st d then Ok Nothing else apart_effect st d

abbrev pub checked_effect : State → Constant → Checked Effect
checked_effect st d = do
  _ ← no_fault (constant_fault d)
  apart_effect st d

abbrev pub typed_effect : State → Constant → Checked Effect
typed_effect st d = do
  v ← type_value st d.type
  constant_effect st (record d { type = v })

abbrev pub const_effect : State → FileKind → List ℕ → Sexp → AttributeShape → Checked Effect
const_effect st file_kind name type shape = declared_const (context_in st file_kind) name type shape >>= typed_effect st

abbrev pub fun_effect : State → FileKind → List ℕ → List Sexp → Sexp → Checked Effect
fun_effect st file_kind name inputs output = declared_fun (context_in st file_kind) name inputs output >>= typed_effect st

abbrev pub sort_effect : State → FileKind → List ℕ → ℕ → Checked Effect
sort_effect st file_kind name arity = declared_sort (context_in st file_kind) name arity >>= typed_effect st

abbrev pub parameterized_effect : State → List ℕ → List ParameterShape → Sexp → AttributeShape → Checked Effect
parameterized_effect st name shapes type shape = declared_parameterized (context st) name shapes type shape >>= checked_effect st

abbrev pub literals_effect : State → LiteralClass → Sexp → Checked Effect
literals_effect st class type = declared_literals (context st) class type >>= λ t. entry_effect st (IsLiteralType class t)

-- a program, which may be declared here
abbrev pub added_program_effect : State → ProgramShape → Checked Effect
added_program_effect st shape = declared_program (context st) shape >>= λ p. entry_effect st (IsProgram p)

abbrev pub program_effect : State → Origin → ProgramShape → Checked Effect
program_effect st from shape = do
  _ ← may_declare st from
  added_program_effect st shape

-- a rule, which may be declared here
abbrev pub added_rule_effect : State → RuleShape → Checked Effect
added_rule_effect st shape = declared_rule (context st) shape >>= λ r. entry_effect st (IsRule r)

abbrev pub rule_effect : State → Origin → RuleShape → Checked Effect
rule_effect st from shape = do
  _ ← may_declare st from
  added_rule_effect st shape

-- a macro; one of the reference file may be repeated
abbrev pub macro_effect : State → Macro → Checked Effect
macro_effect st m =
    if is_reference_name (context st) m.name then (do
      _ ← require (repeats_macro st m (lookup st.signature st.macros m.name)) Redeclared
      Ok Nothing
    ) else Ok (Defines m)

abbrev pub define_effect : State → List ℕ → List ParameterShape → Sexp → Checked Effect
define_effect st name shapes body = defined (context st) name shapes body >>= macro_effect st

abbrev pub define_fun_effect : State → List ℕ → List ParameterShape → Sexp → Sexp → Checked Effect
define_fun_effect st name shapes output body = defined_fun (context_in st InReference) name shapes output body >>= macro_effect st

abbrev pub define_sort_effect : State → List ℕ → List (List ℕ) → Sexp → Checked Effect
define_sort_effect st name names type = defined_sort (context_in st InReference) name names type >>= macro_effect st

-- ---- facts

-- a fact of no rule
abbrev pub assumed_fact : List ℕ → Tree → Effect
assumed_fact name v = Adds name (record { formula = v; sorry = false }) false

abbrev pub assume_effect : State → List ℕ → Sexp → Checked Effect
assume_effect st name s = do
  _ ← require (is_free_fact st name) Redeclared
  v ← asserted_formula st s
  Ok (assumed_fact name v)

abbrev pub push_effect : State → List ℕ → Sexp → Checked Effect
push_effect st name s = do
  _ ← require (nat_lt (depth st.scopes) scope_limit) ScopeDepth
  _ ← require (is_free_fact st name) Redeclared
  v ← formula st s
  Ok (Opens name v)

abbrev pub step_effect : State → StepShape → Checked Effect
step_effect st s = do
  _ ← require (is_free_fact st s.name) Redeclared
  k ← concluded st None s
  Ok (Adds s.name k false)

-- a step out of the innermost scope, which has this assumption. Its name is free outside
abbrev pub outside_effect : State → Tree → StepShape → Checked Effect
outside_effect st a s = do
  k ← concluded st (Some a) s
  Ok (Adds s.name k true)

abbrev pub pop_effect : State → StepShape → Checked Effect
pop_effect st s = do
  a ← value_or NoScope (innermost_hypothesis st.scopes)
  _ ← require (is_free_outer_fact st s.name) Redeclared
  outside_effect st a s

-- ---- assertions

-- a formula that was read, with the names of its terms
abbrev pub asserted_effect : State → Tree → List NamedTerm → Checked Effect
asserted_effect st t named_terms = do
  v ← formula_of st t
  Ok (Asserts v named_terms)

abbrev pub assert_effect : State → Sexp → Checked Effect
assert_effect st s = do
  r ← means (context_in st InAssert) [] s []
  asserted_effect st r.0 r.1

-- ---- commands

-- What is decided of each kind of command.
abbrev pub decided : State → Origin → Command → Checked Effect
decided st from (DeclareConst name type shape) = const_effect st (file_kind_of from) name type shape
decided st from (DeclareFun name inputs output) = fun_effect st (file_kind_of from) name inputs output
decided st from (DeclareSort name arity) = sort_effect st (file_kind_of from) name arity
decided st from (DeclareParameterized name shapes type shape) = parameterized_effect st name shapes type shape
decided st from (DeclareLiterals class type) = literals_effect st class type
decided st from (Define name shapes body) = define_effect st name shapes body
decided st from (DefineProgram shape) = program_effect st from shape
decided st from (DeclareRule shape) = rule_effect st from shape
decided st from (Assume name s) = assume_effect st name s
decided st from (AssumePush name s) = push_effect st name s
decided st from (Step shape) = step_effect st shape
decided st from (StepPop shape) = pop_effect st shape
decided st from (Include written) = Ok Nothing
decided st from (Refer written) = Ok Nothing
decided st from (DefineFun name shapes output body) = define_fun_effect st name shapes output body
decided st from (DefineSort name names type) = define_sort_effect st name names type
decided st from (Assert s) = assert_effect st s
decided st from Exit = Ok Nothing
decided st from Skip = Ok Nothing

-- the rule on scopes, and then the checks of its own
unfoldable pub scoped_decision : State → Origin → Command → Checked Effect
scoped_decision st from command = do
  _ ← require (not (is_in_scope st) || may_be_in_scope command) InScope
  decided st from command

-- What a command does in its place, and what is done next.
unfoldable pub placed_decision : State → Origin → Command → Checked (Effect × Next)
placed_decision st from command = do
  e ← scoped_decision st from command
  what ← next_by st command
  Ok (e, what)

-- ---- what is done

-- The state after what is decided.
abbrev pub done : State → Checked Effect → Checked State
done st m = do
  e ← m
  Ok (after st e)

-- A command does what is decided of it.
abbrev pub AreDecided : Type 0
AreDecided = (st : State) (from : Origin) (k : Command) → by_command st from k ≡ done st (decided st from k)

-- The state after what is decided, and what is done next.
abbrev pub done_next : State → Checked (Effect × Next) → Checked (State × Next)
done_next st m = do
  r ← m
  Ok (after st r.0, r.1)

-- The same in the command's place.
abbrev pub AreDecidedPlaced : Type 0
AreDecidedPlaced = (st : State) (from : Origin) (k : Command) → placed_command st from k ≡ done_next st (placed_decision st from k)
