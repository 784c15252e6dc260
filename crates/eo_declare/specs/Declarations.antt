-- What a declaring command declares, or its first fault. The checks of a whole declaration (patterns, unbound parameters) and of types follow when it is added.
use Rattle.std.specs.Prelude.{ℕ, zero, suc, Bool, false, not, ◌&&◌, ◌||◌, ◌==◌, nat_le, if◌then◌else◌, List, [], ◌∷◌, ◌++◌, length, Option, Some, None, is_none, is_some, slice_get, bytes_eq, codes, Ok, Err}
use Rattle.std.specs.List.{list_any}
use Rattle.std.specs.Option.{option_map_or}
use Rattle.eo_base.specs.declared.FaultName.TheVariants.{Redeclared, UnknownSymbol, BadArity, BadPattern, TermHeight, Parameters}
use Rattle.eo_base.specs.Checks.{Checked, ◌>>=◌, require, no_fault, Passed}
use Rattle.eo_base.specs.Limits.{parameters_limit}
use Rattle.eo_sexp.specs.Sexp.{Sexp}
use Rattle.eo_lit.specs.declared.LiteralClass.{LiteralClass}
use Rattle.eo_sig.specs.Signature.{Parameter, Attribute, Plain, RightNil, LeftNil, Right, Left, Chain, Pairs, Binder, Constant, Macro, Case, Program, PremiseShape, Each, Joined, Rule, Signature, IsProgram, Named, NamesConstant, NamesMacro, NamesProgram, lookup, constants, is_free, may_name_constant, is_free_rule, terminator, literal_type, constant_fault}
use Rattle.eo_term.specs.Tree.{Tree, Con, Par, Arr, Qar, type_tree, is_tall}
use Rattle.eo_names.specs.Contexts.{Context, Local, is_reference}
use Rattle.eo_elab.specs.Meaning.{meaning}
use Rattle.eo_shape.specs.Shapes.{ParameterShape, AttributeShape, NoAttribute, RightNilShape, LeftNilShape, RightShape, LeftShape, ChainShape, PairsShape, BinderShape, CaseShape, ProgramShape, PremisesShape, EachShape, JoinedShape, RuleShape, Command, DeclareConst, DeclareFun, DeclareSort, DeclareParameterized, DeclareLiterals, Define, DefineProgram, DeclareRule, DefineFun, DefineSort}

pub data Declaration : Type 0 where
  AConstant : (constant : Constant) → Declaration
  ALiteralType : (class : LiteralClass) (type : Tree) → Declaration
  AMacro : (macro : Macro) → Declaration
  AProgram : (program : Program) → Declaration
  ARule : (rule : Rule) → Declaration

-- the meanings of terms in order
unfoldable pub meanings : Context → List Local → List Sexp → Checked (List Tree)
meanings c locals [] = Ok []
meanings c locals (s ∷ ss) = do
  t ← meaning c locals s
  ts ← meanings c locals ss
  Ok (t ∷ ts)

-- ---- names

module _ (c : Context) where
  abbrev pub is_free_name : List ℕ → Bool
  is_free_name name = is_free c.signature c.macros name

  -- a name that a constant may have, as far as other constants do not matter, which are compared at the end
  abbrev pub may_be_constant : List ℕ → Bool
  may_be_constant name = may_name_constant c.signature c.macros name

  abbrev pub is_reference_constant : List ℕ → Bool
  is_reference_constant name = list_any (λ d. bytes_eq name d.name && d.from_reference) (constants c.signature)

  abbrev pub is_named_by_reference : List ℕ → Option Named → Bool
  is_named_by_reference name None = false
  is_named_by_reference name (Some (NamesConstant k)) = is_reference_constant name
  is_named_by_reference name (Some (NamesMacro m)) = option_map_or (λ d. d.from_reference) (slice_get c.macros m) false
  is_named_by_reference name (Some (NamesProgram p)) = false

  -- a name that the reference file declared
  abbrev pub is_reference_name : List ℕ → Bool
  is_reference_name name = is_named_by_reference name (lookup c.signature c.macros name)

  -- a name that a macro may have, or one of the reference file, which is compared at the end
  abbrev pub is_free_or_reference : List ℕ → Bool
  is_free_or_reference name = is_free_name name || is_reference_name name

-- ---- types

abbrev pub function_type : List Tree → Tree → Tree
function_type [] output = output
function_type (t ∷ ts) output = Arr t (function_type ts output)

abbrev pub sort_type : ℕ → Tree
sort_type zero = type_tree
sort_type (suc n) = Arr type_tree (sort_type n)

-- a Qar for each explicit parameter in order, the first of which has number i
abbrev pub bound_type : ℕ → List Parameter → Tree → Tree
bound_type i [] t = t
bound_type i (p ∷ ps) t = if p.implicit then bound_type (suc i) ps t else Qar i p.type (bound_type (suc i) ps t)

-- ---- parts

abbrev pub not_tall : Tree → Checked Tree
not_tall t = if is_tall t then Err TermHeight else Ok t

-- the number of a constant, where a term means one
abbrev pub constant_number : Tree → Checked ℕ
constant_number (Con k) = Ok k
constant_number t = Err UnknownSymbol

-- parameters that were read, and their names as locals
pub record Bound : Type 0 where
  pub parameters : List Parameter
  pub locals : List Local

abbrev pub unbound : Bound
unbound = record { parameters = []; locals = [] }

abbrev pub is_bound : Bound → List ℕ → Bool
is_bound b name = list_any (λ p. bytes_eq p.name name) b.parameters

-- one parameter more; its number is its place
abbrev pub with_parameter : Bound → Parameter → Bound
with_parameter b p = record {
  parameters = b.parameters ++ p ∷ [];
  locals = record { name = p.name; tree = Par (length b.parameters); list = p.list } ∷ b.locals;
}

abbrev pub few : ℕ → Checked Passed
few n = require (nat_le n parameters_limit) Parameters

-- parameters of a sort, which are types
abbrev pub bind_types : Bound → List (List ℕ) → Checked Bound
bind_types b [] = Ok b
bind_types b (name ∷ names) = do
  _ ← require (not (is_bound b name)) Redeclared
  bind_types (with_parameter b (record { name = name; type = type_tree; implicit = false; list = false })) names

module _ (c : Context) where
  -- A parameter's type may use earlier parameters.
  abbrev pub bind : Bound → List ParameterShape → Checked Bound
  bind b [] = Ok b
  bind b (p ∷ ps) = do
    _ ← require (not (is_bound b p.name)) Redeclared
    t ← meaning c b.locals p.type
    bind (with_parameter b (record { name = p.name; type = t; implicit = p.implicit; list = p.list })) ps

  abbrev pub constant_meant : List Local → Sexp → Checked ℕ
  constant_meant locals s = meaning c locals s >>= constant_number

  abbrev pub attribute : List Local → AttributeShape → Checked Attribute
  attribute locals NoAttribute = Ok Plain
  attribute locals (RightNilShape n) = do
    t ← meaning c locals n
    Ok (RightNil t)
  attribute locals (LeftNilShape n) = do
    t ← meaning c locals n
    Ok (LeftNil t)
  attribute locals RightShape = Ok Right
  attribute locals LeftShape = Ok Left
  attribute locals (ChainShape g) = do
    k ← constant_meant locals g
    Ok (Chain k)
  attribute locals (PairsShape g) = do
    k ← constant_meant locals g
    Ok (Pairs k)
  attribute locals (BinderShape b) = do
    k ← constant_meant locals b
    Ok (Binder k)

  -- ---- constants

  abbrev pub constant : List ℕ → List Parameter → Tree → Attribute → Constant
  constant name parameters type a =
      record { name = name; parameters = parameters; type = type; attribute = a; from_reference = is_reference c.file_kind }

  -- a constant whose terminator is a value and whose type holds what it may
  abbrev pub plain_constant : List ℕ → Tree → Attribute → Checked Constant
  plain_constant name type a = do
    _ ← no_fault (constant_fault (constant name [] type a))
    Ok (constant name [] type a)

  -- (declare-const S T attr)
  unfoldable pub declared_const : List ℕ → Sexp → AttributeShape → Checked Constant
  declared_const name type shape = do
    _ ← require (may_be_constant c name) Redeclared
    t ← meaning c [] type
    a ← attribute [] shape
    plain_constant name t a

  -- (declare-fun S (T ..) T)
  unfoldable pub declared_fun : List ℕ → List Sexp → Sexp → Checked Constant
  declared_fun name inputs output = do
    _ ← require (may_be_constant c name) Redeclared
    ts ← meanings c [] inputs
    t ← meaning c [] output
    type ← not_tall (function_type ts t)
    plain_constant name type Plain

  -- (declare-sort S n)
  unfoldable pub declared_sort : List ℕ → ℕ → Checked Constant
  declared_sort name arity = do
    _ ← require (may_be_constant c name) Redeclared
    plain_constant name (sort_type arity) Plain

  -- (declare-parameterized-const S (p ..) T attr)
  unfoldable pub declared_parameterized : List ℕ → List ParameterShape → Sexp → AttributeShape → Checked Constant
  declared_parameterized name shapes type shape = do
    _ ← require (may_be_constant c name) Redeclared
    _ ← few (length shapes)
    b ← bind unbound shapes
    t ← meaning c b.locals type
    whole ← not_tall (bound_type 0 b.parameters t)
    a ← attribute b.locals shape
    Ok (constant name b.parameters whole a)

  -- ---- types of literals

  abbrev pub self : List Local
  self = record { name = codes "eo::self"; tree = Par 0; list = false } ∷ []

  -- (declare-consts C T)
  unfoldable pub declared_literals : LiteralClass → Sexp → Checked Tree
  declared_literals class type = do
    _ ← require (is_none (literal_type c.signature class)) Redeclared
    meaning c self type

  -- ---- macros

  abbrev pub macro : List ℕ → List Parameter → Tree → Macro
  macro name parameters tree =
      record { name = name; parameters = parameters; tree = tree; from_reference = is_reference c.file_kind }

  -- (define S (p ..) t)
  unfoldable pub defined : List ℕ → List ParameterShape → Sexp → Checked Macro
  defined name shapes body = do
    _ ← require (is_free_or_reference c name) Redeclared
    _ ← few (length shapes)
    b ← bind unbound shapes
    t ← meaning c b.locals body
    Ok (macro name b.parameters t)

  -- a macro over parameters, by a type that is read and says nothing, and then its body
  abbrev pub typed_macro : List ℕ → Bound → (output body : Sexp) → Checked Macro
  typed_macro name b output body = do
    _ ← meaning c b.locals output
    t ← meaning c b.locals body
    Ok (macro name b.parameters t)

  -- (define-fun S ((x A) ..) B t)
  unfoldable pub defined_fun : List ℕ → List ParameterShape → (output body : Sexp) → Checked Macro
  defined_fun name shapes output body = do
    _ ← require (is_free_or_reference c name) Redeclared
    _ ← few (length shapes)
    b ← bind unbound shapes
    typed_macro name b output body

  -- (define-sort S (A ..) T)
  unfoldable pub defined_sort : List ℕ → List (List ℕ) → Sexp → Checked Macro
  defined_sort name names type = do
    _ ← require (is_free_or_reference c name) Redeclared
    _ ← few (length names)
    b ← bind_types unbound names
    t ← meaning c b.locals type
    Ok (macro name b.parameters t)

-- ---- programs

-- a case of a program with so many inputs
unfoldable pub declared_case : Context → List Local → ℕ → CaseShape → Checked Case
declared_case c locals inputs s = do
  _ ← require (length s.patterns == inputs) BadArity
  ps ← meanings c locals s.patterns
  t ← meaning c locals s.body
  Ok (record { patterns = ps; body = t })

unfoldable pub declared_cases : Context → List Local → ℕ → List CaseShape → Checked (List Case)
declared_cases c locals inputs [] = Ok []
declared_cases c locals inputs (s ∷ ss) = do
  case ← declared_case c locals inputs s
  cases ← declared_cases c locals inputs ss
  Ok (case ∷ cases)

abbrev pub program : List ℕ → List Parameter → List Tree → Tree → List Case → Program
program name parameters inputs output cases =
    record { name = name; parameters = parameters; inputs = inputs; output = output; cases = cases }

-- while its cases are read, the program's name means the program
abbrev pub with_program : Context → Program → Context
with_program c p = record c { signature = c.signature ++ IsProgram p ∷ [] }

-- a program with its cases, which has none before they are read
abbrev pub with_cases : Context → List Local → Program → List CaseShape → Checked Program
with_cases c locals p shapes = do
  cases ← declared_cases (with_program c p) locals (length p.inputs) shapes
  Ok (record p { cases = cases })

-- a program over parameters
abbrev pub program_over : Context → Bound → ProgramShape → Checked Program
program_over c b s = do
  ts ← meanings c b.locals s.inputs
  t ← meaning c b.locals s.output
  with_cases c b.locals (program s.name b.parameters ts t []) s.cases

-- (program S (p ..) :signature (T ..) T (case ..))
unfoldable pub declared_program : Context → ProgramShape → Checked Program
declared_program c s = do
  _ ← require (is_free_name c s.name) Redeclared
  _ ← few (length s.parameters)
  _ ← few (length s.inputs)
  b ← bind c unbound s.parameters
  program_over c b s

-- ---- rules

-- what the premises are matched with, before it is known whether the second tree can join them
pub data PremisesMeant : Type 0 where
  EachMeant : (patterns : List Tree) → PremisesMeant
  JoinedMeant : (pattern joiner : Tree) → PremisesMeant

-- a constant with a terminator
abbrev pub joiner : Signature → Tree → Checked ℕ
joiner S (Con k) = require (is_some (terminator S k)) BadPattern >>= λ _. Ok k
joiner S t = Err BadPattern

abbrev pub premise_shape : Signature → PremisesMeant → Checked PremiseShape
premise_shape S (EachMeant ps) = Ok (Each ps)
premise_shape S (JoinedMeant p f) = joiner S f >>= λ k. Ok (Joined p k)

module _ (c : Context) (locals : List Local) where
  abbrev pub optional_meaning : Option Sexp → Checked (Option Tree)
  optional_meaning None = Ok None
  optional_meaning (Some s) = do
    t ← meaning c locals s
    Ok (Some t)

  abbrev pub premises_meant : PremisesShape → Checked PremisesMeant
  premises_meant (EachShape ps) = do
    ts ← meanings c locals ps
    Ok (EachMeant ts)
  premises_meant (JoinedShape p f) = do
    t ← meaning c locals p
    u ← meaning c locals f
    Ok (JoinedMeant t u)

  unfoldable pub requirements_meant : List (Sexp × Sexp) → Checked (List (Tree × Tree))
  requirements_meant [] = Ok []
  requirements_meant (q ∷ qs) = do
    a ← meaning c locals q.0
    b ← meaning c locals q.1
    rest ← requirements_meant qs
    Ok ((a, b) ∷ rest)

-- a rule over parameters
abbrev pub rule_over : Context → Bound → RuleShape → Checked Rule
rule_over c b s = do
  assumed ← optional_meaning c b.locals s.assumed
  premises ← premises_meant c b.locals s.premises
  arguments ← meanings c b.locals s.arguments
  requirements ← requirements_meant c b.locals s.requirements
  conclusion ← meaning c b.locals s.conclusion
  shape ← premise_shape c.signature premises
  Ok (record { name = s.name; parameters = b.parameters; assumed = assumed; premises = shape; arguments = arguments; requirements = requirements; conclusion = conclusion; sorry = s.sorry })

-- (declare-rule S (p ..) ..)
unfoldable pub declared_rule : Context → RuleShape → Checked Rule
declared_rule c s = do
  _ ← require (is_free_rule c.signature s.name) Redeclared
  _ ← few (length s.parameters)
  b ← bind c unbound s.parameters
  rule_over c b s

-- ---- each declaring command

abbrev pub as_constant : Constant → Checked Declaration
as_constant d = Ok (AConstant d)

abbrev pub as_macro : Macro → Checked Declaration
as_macro m = Ok (AMacro m)

abbrev pub as_program : Program → Checked Declaration
as_program p = Ok (AProgram p)

abbrev pub as_rule : Rule → Checked Declaration
as_rule r = Ok (ARule r)

-- What a declaring command of a signature or a proof declares. Other commands declare nothing.
unfoldable pub declaration : Context → Command → Option (Checked Declaration)
declaration c (DeclareConst name type shape) = Some (declared_const c name type shape >>= as_constant)
declaration c (DeclareFun name inputs output) = Some (declared_fun c name inputs output >>= as_constant)
declaration c (DeclareSort name arity) = Some (declared_sort c name arity >>= as_constant)
declaration c (DeclareParameterized name shapes type shape) = Some (declared_parameterized c name shapes type shape >>= as_constant)
declaration c (DeclareLiterals class type) = Some (declared_literals c class type >>= λ t. Ok (ALiteralType class t))
declaration c (Define name shapes body) = Some (defined c name shapes body >>= as_macro)
declaration c (DefineProgram shape) = Some (declared_program c shape >>= as_program)
declaration c (DeclareRule shape) = Some (declared_rule c shape >>= as_rule)
declaration c command = None

-- What a declaring command of a reference file declares. Other commands declare nothing.
unfoldable pub reference_declaration : Context → Command → Option (Checked Declaration)
reference_declaration c (DeclareConst name type shape) = Some (declared_const c name type shape >>= as_constant)
reference_declaration c (DeclareFun name inputs output) = Some (declared_fun c name inputs output >>= as_constant)
reference_declaration c (DeclareSort name arity) = Some (declared_sort c name arity >>= as_constant)
reference_declaration c (DefineFun name shapes output body) = Some (defined_fun c name shapes output body >>= as_macro)
reference_declaration c (DefineSort name names type) = Some (defined_sort c name names type >>= as_macro)
reference_declaration c command = None
