-- What is read of a declaring command, over the terms of a table.
use Rattle.std.specs.Prelude.{◌≡◌, ℕ, ◌<◌, true, false, List, [], map, length, All, Option, Some, None, is_none, Ok, Err}
use Rattle.eo_base.specs.declared.FaultName.TheVariants.{BadCommand}
use Rattle.eo_base.specs.Checks.{Checked, ◌>>=◌}
use Rattle.eo_sexp.specs.Sexp.{Sexp}
use Rattle.eo_sig.specs.Reading.{Kept, read_parameter, read_attribute, read_constant, read_macro, read_program, read_rule, AttributeBelow, ConstBelow, MacroBelow, ProgramBelow, RuleBelow}
use Rattle.eo_lit.specs.declared.LiteralClass.{LiteralClass}
use Rattle.eo_sig.specs.Signature.{Attribute, Constant, Macro, Case, Program, Rule, literal_type, constant_fault}
use Rattle.eo_sig.specs.declared.records.Param.{Param}
use Rattle.eo_sig.specs.declared.records.Attribute as code_attribute
use Rattle.eo_sig.specs.declared.records.Declaration as code
use Rattle.eo_sig.specs.declared.records.ProgramDecl.{ProgramDecl}
use Rattle.eo_sig.specs.declared.records.Declaration.TheVariants as variant
use Rattle.eo_shape.specs.Shapes.{AttributeShape, ParameterShape, CaseShape, ProgramShape, RuleShape, Command, command_of}
use Rattle.eo_shape.specs.declared.AttributeShape as code_shape
use Rattle.eo_shape.specs.declared.Command as code_command
use Rattle.eo_shape.specs.declared.Command.TheVariants as command
use Rattle.eo_shape.specs.Reading.{read_attribute as read_shape}
use Rattle.eo_term.specs.Tree.{Tree}
use Rattle.eo_term.specs.Terms.{Terms, tree_at}
use Rattle.eo_declare.specs.declared.parameters.Bound as code_bound
use Rattle.eo_declare.specs.Declarations.{Declaration, AConstant, ALiteralType, AMacro, AProgram, ARule, Bound, declaration, meanings, attribute, bound_type, function_type, not_tall, plain_constant, typed_macro, declared_const, declared_fun, declared_sort, declared_parameterized, as_constant, declared_cases, declared_program, program_over, declared_rule, rule_over, with_cases, with_program, is_free_name, may_be_constant, is_free_or_reference}
use Rattle.eo_names.specs.Contexts.{Context, Local}
use Rattle.eo_elab.specs.Meaning.{meaning}
use Rattle.eo_names.specs.Names.{read_locals, AreBelow}
use Rattle.eo_names.specs.Worlds.{World}
use Rattle.eo_names.specs.declared.locals.LocalName.{LocalName}
use Rattle.eo_names.specs.Ready.{context, IsReady}
use Rattle.eo_names.specs.declared.scope.FileKind.{FileKind}
use Rattle.eo_elab.specs.Worlds.{context_at, meaning_in}
use Rattle.eo_declare.specs.Worlds.{reference_context}

abbrev pub read_bound : List Tree → code_bound.Bound → Bound
read_bound ts b = record { parameters = map (read_parameter ts) b.params; locals = read_locals ts b.locals }

abbrev pub read_declaration : List Tree → code.Declaration → Declaration
read_declaration ts (variant.Const d) = AConstant (read_constant ts d)
read_declaration ts (variant.Literal class ty) = ALiteralType class (tree_at ts ty)
read_declaration ts (variant.Macro d) = AMacro (read_macro ts d)
read_declaration ts (variant.Program d) = AProgram (read_program ts d)
read_declaration ts (variant.Rule d) = ARule (read_rule ts d)

-- its terms are below n
abbrev pub DeclarationBelow : ℕ → code.Declaration → Type 0
DeclarationBelow n (variant.Const d) = ConstBelow n d
DeclarationBelow n (variant.Literal class ty) = ty < n
DeclarationBelow n (variant.Macro d) = MacroBelow n d
DeclarationBelow n (variant.Program d) = ProgramBelow n d
DeclarationBelow n (variant.Rule d) = RuleBelow n d

-- the types of parameters are below n, and their names mean terms below n
pub record BoundBelow (n : ℕ) (k : Kept) (b : code_bound.Bound) : Type 0 where
  pub params : All (λ p. p.ty < n) b.params
  pub ready : IsReady n k b.locals

-- the same without the signature that the names come before
pub record TypesBelow (n : ℕ) (b : code_bound.Bound) : Type 0 where
  pub params : All (λ p. p.ty < n) b.params
  pub locals : AreBelow n b.locals

-- a type and an attribute
pub record TypedBelow (n : ℕ) (r : ℕ × code_attribute.Attribute) : Type 0 where
  pub type : r.0 < n
  pub attribute : AttributeBelow n r.1

abbrev pub read_typed : List Tree → ℕ × code_attribute.Attribute → Tree × Attribute
read_typed ts r = (tree_at ts r.0, read_attribute ts r.1)

-- ---- what an s-expression declares, in a signature or a proof

-- the declaration, where there is one
abbrev pub or_bad : Option (Checked Declaration) → Checked Declaration
or_bad (Some d) = d
or_bad None = Err BadCommand

abbrev pub declared : Context → Sexp → Checked Declaration
declared c s = do
  k ← command_of false s
  or_bad (declaration c k)

-- a command, or one of a wrong shape; no unknown word
abbrev pub IsKnown : Checked Command → Type 0
IsKnown (Ok k) = Unit {0}
IsKnown (Err fault) = fault ≡ BadCommand

abbrev pub IsCommand : Sexp → Type 0
IsCommand s = IsKnown (command_of false s)

-- ---- parts of declarations

abbrev pub typed : Context → List Local → Sexp → AttributeShape → Checked (Tree × Attribute)
typed c locals type shape = do
  t ← meaning c locals type
  a ← attribute c locals shape
  Ok (t, a)

-- a type over parameters
abbrev pub typed_over : Context → Bound → Sexp → AttributeShape → Checked (Tree × Attribute)
typed_over c b type shape = do
  t ← meaning c b.locals type
  whole ← not_tall (bound_type 0 b.parameters t)
  a ← attribute c b.locals shape
  Ok (whole, a)

-- the type of a function of these types, to an output that is read
abbrev pub function_to : World → List Tree → Sexp → Checked Tree
function_to w ts output = do
  t ← meaning_in w output
  not_tall (function_type ts t)

abbrev pub type_of_function : Context → List Sexp → Sexp → Checked Tree
type_of_function c inputs output = do
  ts ← meanings c [] inputs
  t ← meaning c [] output
  not_tall (function_type ts t)

-- the definitions at an attribute as the program has it
module _ (c : Context) where
  abbrev pub const_by : List ℕ → Sexp → code_shape.AttributeShape → Checked Constant
  const_by name type shape = declared_const c name type (read_shape shape)

-- the constant that a command declares; others declare none
abbrev pub constant_of : Context → code_command.Command → Checked Constant
constant_of c (command.DeclareConst name ty a) = declared_const c name.now ty (read_shape a)
constant_of c (command.DeclareFun name inputs output) = declared_fun c name.now inputs output
constant_of c (command.DeclareSort name arity) = declared_sort c name.now arity
constant_of c (command.DeclareParameterized name params ty a) = declared_parameterized c name.now params ty (read_shape a)
constant_of c k = Err BadCommand

abbrev pub declared_constant : Context → code_command.Command → Checked Declaration
declared_constant c k = constant_of c k >>= as_constant

-- the same over a table and a signature
abbrev pub parameterized_in : Terms → Kept → List ℕ → List ParameterShape → Sexp → code_shape.AttributeShape → Checked Constant
parameterized_in t k name params type shape = declared_parameterized (context t.trees k) name params type (read_shape shape)

abbrev pub typed_over_in : Terms → Kept → code_bound.Bound → Sexp → code_shape.AttributeShape → Checked (Tree × Attribute)
typed_over_in t k b type shape = typed_over (context t.trees k) (read_bound t.trees b) type (read_shape shape)

-- a program, one over parameters, the cases of one that has none yet, and it with them
abbrev pub program_in : Terms → Kept → ProgramShape → Checked Program
program_in t k shape = declared_program (context t.trees k) shape

abbrev pub program_over_in : Terms → Kept → code_bound.Bound → ProgramShape → Checked Program
program_over_in t k b shape = program_over (context t.trees k) (read_bound t.trees b) shape

abbrev pub own_cases_in : Terms → Kept → List LocalName → ProgramDecl → List CaseShape → Checked (List Case)
own_cases_in t k ls d cases =
    let p = read_program t.trees d in
    declared_cases (with_program (context t.trees k) p) (read_locals t.trees ls) (length p.inputs) cases

abbrev pub with_cases_in : Terms → Kept → List LocalName → ProgramDecl → List CaseShape → Checked Program
with_cases_in t k ls d cases = with_cases (context t.trees k) (read_locals t.trees ls) (read_program t.trees d) cases

-- a rule, and one over parameters
abbrev pub rule_in : Terms → Kept → RuleShape → Checked Rule
rule_in t k shape = declared_rule (context t.trees k) shape

abbrev pub rule_over_in : Terms → Kept → code_bound.Bound → RuleShape → Checked Rule
rule_over_in t k b shape = rule_over (context t.trees k) (read_bound t.trees b) shape

-- a macro of a reference file over parameters
abbrev pub typed_macro_in : Terms → Kept → List ℕ → code_bound.Bound → (output body : Sexp) → Checked Macro
typed_macro_in t k name b output body = typed_macro (reference_context t k) name (read_bound t.trees b) output body

-- the type over parameters of which the first has this number
abbrev pub bound_type_in : Terms → ℕ → List Param → ℕ → Tree
bound_type_in t first params type = bound_type first (map (read_parameter t.trees) params) (tree_at t.trees type)

-- a constant without parameters, by the id of its type
abbrev pub plain_constant_in : Terms → Kept → FileKind → List ℕ → Terms → ℕ → code_attribute.Attribute → Checked Constant
plain_constant_in old k x name t type a = plain_constant (context_at old k x) name (tree_at t.trees type) (read_attribute t.trees a)

-- ---- whose name may be declared, or is one that the reference file declared

-- a constant without parameters, which is sound
pub record MayRepeat (c : Context) (d : Constant) : Type 0 where
  pub sound : constant_fault d ≡ None
  pub name : may_be_constant c d.name ≡ true

abbrev pub MayBeMacro : Context → Macro → Type 0
MayBeMacro c d = is_free_or_reference c d.name ≡ true

-- the class has no type
abbrev pub MayBeLiterals : Context → LiteralClass → Type 0
MayBeLiterals c class = is_none (literal_type c.signature class) ≡ true

-- what a reference file declares: a constant without parameters, or a macro
abbrev pub MayBeReferred : Context → Declaration → Type 0
MayBeReferred c (AConstant d) = MayRepeat c d
MayBeReferred c (AMacro d) = MayBeMacro c d
MayBeReferred c d = ⊥

abbrev pub MayBeDeclared : Context → Declaration → Type 0
MayBeDeclared c (AConstant d) = may_be_constant c d.name ≡ true
MayBeDeclared c (ALiteralType class type) = MayBeLiterals c class
MayBeDeclared c (AMacro d) = MayBeMacro c d
MayBeDeclared c (AProgram d) = is_free_name c d.name ≡ true
MayBeDeclared c (ARule d) = Unit {0}
