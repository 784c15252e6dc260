-- Where no two constants have one name, declarations declare the same whether a name may have several constants or one.
use Rattle.std.specs.Prelude.{◌≡◌, ℕ, not, is_none, ◌==◌, List, [], ◌∷◌, ◌++◌, length, Option, Some, None, Ok, refl}
use Rattle.eo_base.specs.declared.FaultName.{FaultName}
use Rattle.eo_base.specs.declared.FaultName.TheVariants.{Redeclared, BadArity}
use Rattle.eo_base.specs.Checks.{◌>>=◌, require}
use Rattle.eo_lit.specs.declared.LiteralClass.{LiteralClass}
use Rattle.eo_sexp.specs.Sexp.{Sexp}
use Rattle.eo_shape.specs.Shapes.{ParameterShape, AttributeShape, NoAttribute, RightNilShape, LeftNilShape, RightShape, LeftShape, ChainShape, PairsShape, BinderShape, CaseShape, ProgramShape, PremisesShape, EachShape, JoinedShape, RuleShape}
use Rattle.eo_sig.specs.Signature.{Signature, Macro, Program, IsProgram, Plain, RightNil, LeftNil, Chain, Pairs, Binder, literal_type, is_free_rule}
use Rattle.eo_sig.proofs.Single.{IsSingle, single_other}
use Rattle.eo_names.specs.Contexts.{FileKind, Several, One, Context, Local}
use Rattle.eo_elab.specs.Meaning.{meaning}
use Rattle.eo_elab.proofs.SingleNames.{meaning_same}
use Rattle.eo_declare.specs.Declarations.{Bound, unbound, is_bound, with_parameter, few, bind, bind_types, meanings, may_be_constant, is_free_name, is_free_or_reference, function_type, bound_type, not_tall, constant_number, attribute, constant, plain_constant, declared_const, declared_fun, declared_sort, declared_parameterized, self, declared_literals, macro, defined, defined_fun, defined_sort, declared_case, declared_cases, program, with_cases, declared_program, EachMeant, JoinedMeant, premise_shape, optional_meaning, premises_meant, requirements_meant, declared_rule}

module _ (ms : List Macro) (file_kind : FileKind) (f : FaultName) where
  abbrev several : Signature → Context
  several S = record { signature = S; macros = ms; file_kind = file_kind; naming = Several }

  abbrev one : Signature → Context
  one S = record { signature = S; macros = ms; file_kind = file_kind; naming = One f }

  module _ (S : Signature) (single : IsSingle S) where
    same : (locals : List Local) (s : Sexp) → meaning (several S) locals s ≡ meaning (one S) locals s
    same locals s = meaning_same S ms file_kind f single locals s

    meanings_same : (locals : List Local) (ss : List Sexp) → meanings (several S) locals ss ≡ meanings (one S) locals ss
    unfolding meanings
    meanings_same locals [] = refl
    meanings_same locals (s ∷ ss) = λ i. same locals s i >>= λ t. meanings_same locals ss i >>= λ ts. Ok (t ∷ ts)

    bind_same : (b : Bound) (ps : List ParameterShape) → bind (several S) b ps ≡ bind (one S) b ps
    bind_same b [] = refl
    bind_same b (p ∷ ps) =
        λ i. require (not (is_bound b p.name)) Redeclared >>= λ _. same b.locals p.type i >>= λ t.
        bind_same (with_parameter b (record { name = p.name; type = t; implicit = p.implicit; list = p.list })) ps i

    attribute_same : (locals : List Local) (shape : AttributeShape) → attribute (several S) locals shape ≡ attribute (one S) locals shape
    attribute_same locals NoAttribute = refl
    attribute_same locals (RightNilShape n) = λ i. same locals n i >>= λ t. Ok (RightNil t)
    attribute_same locals (LeftNilShape n) = λ i. same locals n i >>= λ t. Ok (LeftNil t)
    attribute_same locals RightShape = refl
    attribute_same locals LeftShape = refl
    attribute_same locals (ChainShape g) = λ i. (same locals g i >>= constant_number) >>= λ k. Ok (Chain k)
    attribute_same locals (PairsShape g) = λ i. (same locals g i >>= constant_number) >>= λ k. Ok (Pairs k)
    attribute_same locals (BinderShape g) = λ i. (same locals g i >>= constant_number) >>= λ k. Ok (Binder k)

    module _ (name : List ℕ) where
      pub const_same : (type : Sexp) (shape : AttributeShape) → declared_const (several S) name type shape ≡ declared_const (one S) name type shape
      unfolding declared_const
      const_same type shape =
          λ i. require (may_be_constant (several S) name) Redeclared >>= λ _. same [] type i >>= λ t. attribute_same [] shape i >>= λ a. plain_constant (several S) name t a

      pub fun_same : (inputs : List Sexp) (output : Sexp) → declared_fun (several S) name inputs output ≡ declared_fun (one S) name inputs output
      unfolding declared_fun
      fun_same inputs output =
          λ i. require (may_be_constant (several S) name) Redeclared >>= λ _. meanings_same [] inputs i >>= λ ts. same [] output i >>= λ t.
          not_tall (function_type ts t) >>= λ type. plain_constant (several S) name type Plain

      pub sort_same : (arity : ℕ) → declared_sort (several S) name arity ≡ declared_sort (one S) name arity
      unfolding declared_sort
      sort_same arity = refl

      pub parameterized_same : (shapes : List ParameterShape) (type : Sexp) (shape : AttributeShape) →
          declared_parameterized (several S) name shapes type shape ≡ declared_parameterized (one S) name shapes type shape
      unfolding declared_parameterized
      parameterized_same shapes type shape =
          λ i. require (may_be_constant (several S) name) Redeclared >>= λ _. few (length shapes) >>= λ _. bind_same unbound shapes i >>= λ b.
          same b.locals type i >>= λ t. not_tall (bound_type 0 b.parameters t) >>= λ whole. attribute_same b.locals shape i >>= λ a.
          Ok (constant (several S) name b.parameters whole a)

      pub define_same : (shapes : List ParameterShape) (body : Sexp) → defined (several S) name shapes body ≡ defined (one S) name shapes body
      unfolding defined
      define_same shapes body =
          λ i. require (is_free_or_reference (several S) name) Redeclared >>= λ _. few (length shapes) >>= λ _. bind_same unbound shapes i >>= λ b.
          same b.locals body i >>= λ t. Ok (macro (several S) name b.parameters t)

      pub define_fun_same : (shapes : List ParameterShape) (output body : Sexp) → defined_fun (several S) name shapes output body ≡ defined_fun (one S) name shapes output body
      unfolding defined_fun
      define_fun_same shapes output body =
          λ i. require (is_free_or_reference (several S) name) Redeclared >>= λ _. few (length shapes) >>= λ _. bind_same unbound shapes i >>= λ b.
          same b.locals output i >>= λ _. same b.locals body i >>= λ t. Ok (macro (several S) name b.parameters t)

      pub define_sort_same : (names : List (List ℕ)) (type : Sexp) → defined_sort (several S) name names type ≡ defined_sort (one S) name names type
      unfolding defined_sort
      define_sort_same names type =
          λ i. require (is_free_or_reference (several S) name) Redeclared >>= λ _. few (length names) >>= λ _. bind_types unbound names >>= λ b.
          same b.locals type i >>= λ t. Ok (macro (several S) name b.parameters t)

    pub literals_same : (class : LiteralClass) (type : Sexp) → declared_literals (several S) class type ≡ declared_literals (one S) class type
    unfolding declared_literals
    literals_same class type = λ i. require (is_none (literal_type S class)) Redeclared >>= λ _. same (self (several S)) type i

    case_same : (locals : List Local) (inputs : ℕ) (s : CaseShape) → declared_case (several S) locals inputs s ≡ declared_case (one S) locals inputs s
    unfolding declared_case
    case_same locals inputs s =
        λ i. require (length s.patterns == inputs) BadArity >>= λ _. meanings_same locals s.patterns i >>= λ ps. same locals s.body i >>= λ t.
        Ok (record { patterns = ps; body = t })

    cases_same : (locals : List Local) (inputs : ℕ) (ss : List CaseShape) → declared_cases (several S) locals inputs ss ≡ declared_cases (one S) locals inputs ss
    unfolding declared_cases
    cases_same locals inputs [] = refl
    cases_same locals inputs (s ∷ ss) = λ i. case_same locals inputs s i >>= λ c. cases_same locals inputs ss i >>= λ cs. Ok (c ∷ cs)

    optional_same : (locals : List Local) (o : Option Sexp) → optional_meaning (several S) locals o ≡ optional_meaning (one S) locals o
    optional_same locals None = refl
    optional_same locals (Some s) = λ i. same locals s i >>= λ t. Ok (Some t)

    premises_same : (locals : List Local) (p : PremisesShape) → premises_meant (several S) locals p ≡ premises_meant (one S) locals p
    premises_same locals (EachShape ps) = λ i. meanings_same locals ps i >>= λ ts. Ok (EachMeant ts)
    premises_same locals (JoinedShape p g) = λ i. same locals p i >>= λ t. same locals g i >>= λ u. Ok (JoinedMeant t u)

    requirements_same : (locals : List Local) (qs : List (Sexp × Sexp)) → requirements_meant (several S) locals qs ≡ requirements_meant (one S) locals qs
    unfolding requirements_meant
    requirements_same locals [] = refl
    requirements_same locals (q ∷ qs) =
        λ i. same locals q.0 i >>= λ a. same locals q.1 i >>= λ b. requirements_same locals qs i >>= λ rest. Ok ((a, b) ∷ rest)

    pub rule_same : (s : RuleShape) → declared_rule (several S) s ≡ declared_rule (one S) s
    unfolding declared_rule
    rule_same s =
        λ i. require (is_free_rule S s.name) Redeclared >>= λ _. few (length s.parameters) >>= λ _. bind_same unbound s.parameters i >>= λ b.
        optional_same b.locals s.assumed i >>= λ assumed. premises_same b.locals s.premises i >>= λ premises. meanings_same b.locals s.arguments i >>= λ arguments.
        requirements_same b.locals s.requirements i >>= λ requirements. same b.locals s.conclusion i >>= λ conclusion.
        premise_shape S premises >>= λ shape.
        Ok (record { name = s.name; parameters = b.parameters; assumed = assumed; premises = shape; arguments = arguments; requirements = requirements; conclusion = conclusion; sorry = s.sorry })

  module _ (S : Signature) (single : IsSingle S) where
    with_cases_same : (locals : List Local) (p : Program) (ss : List CaseShape) → with_cases (several S) locals p ss ≡ with_cases (one S) locals p ss
    with_cases_same locals p ss =
        λ i. cases_same (S ++ IsProgram p ∷ []) (single_other S (IsProgram p) tt single) locals (length p.inputs) ss i >>= λ cases. Ok (record p { cases = cases })

    pub program_same : (s : ProgramShape) → declared_program (several S) s ≡ declared_program (one S) s
    unfolding declared_program
    program_same s =
        λ i. require (is_free_name (several S) s.name) Redeclared >>= λ _. few (length s.parameters) >>= λ _. few (length s.inputs) >>= λ _.
        bind_same S single unbound s.parameters i >>= λ b. meanings_same S single b.locals s.inputs i >>= λ ts. same S single b.locals s.output i >>= λ t.
        with_cases_same b.locals (program s.name b.parameters ts t []) s.cases i
