-- A signature: the kinds of declarations and their parts, looking them up by number or by name, and what a declaration may hold.
use Rattle.std.specs.Prelude.{◌≡◌, ℕ, suc, Bool, true, false, not, ◌&&◌, ◌||◌, ◌==◌, if◌then◌else◌, nat_eq, nat_lt, nat_le, bytes_eq, codes, List, [], ◌∷◌, ◌++◌, drop, length, Option, Some, None, is_some, is_none, option_map, option_and_then, option_to_list, slice_get, filter_map, position}
use Rattle.std.specs.List.{list_all, list_any, starts_with}
use Rattle.std.specs.Option.{option_or}
use Rattle.eo_base.specs.declared.FaultName.{FaultName}
use Rattle.eo_base.specs.declared.FaultName.TheVariants.{BadPattern, UnboundParam, Redeclared}
use Rattle.eo_term.specs.Tree.{Tree, Con, Num, Bits, Str, Par, Var, App, Arr, Qar, Op, type_tree, bool_tree, is_value, is_plain, occurs_in, occurs_openly, uses_only}
pub use Rattle.eo_term.specs.Tree.{may_type_use, may_be_type, all_may_be_type}
use Rattle.eo_lit.specs.declared.LiteralClass.{LiteralClass}
use Rattle.eo_lit.specs.declared.LiteralClass.TheVariants.{Numeral, Binary, String}

-- A parameter of a declaration: its number is its place in the list.
pub record Parameter : Type 0 where
  pub name : List ℕ
  pub type : Tree
  pub implicit : Bool
  pub list : Bool

-- How a constant folds its arguments. A number is that of a constant.
pub data Attribute : Type 0 where
  Plain : Attribute
  RightNil : (terminator : Tree) → Attribute
  LeftNil : (terminator : Tree) → Attribute
  Right : Attribute
  Left : Attribute
  Chain : (joiner : ℕ) → Attribute
  Pairs : (joiner : ℕ) → Attribute
  Binder : (collector : ℕ) → Attribute

-- A constant; its type has a Qar for each explicit parameter.
pub record Constant : Type 0 where
  pub name : List ℕ
  pub parameters : List Parameter
  pub type : Tree
  pub attribute : Attribute
  pub from_reference : Bool

-- The numbers of arguments that a constant takes: one, or all from one on.
pub data Counts : Type 0 where
  Exactly : (count : ℕ) → Counts
  From : (least : ℕ) → Counts

-- A name for a tree, in which its parameters are open.
pub record Macro : Type 0 where
  pub name : List ℕ
  pub parameters : List Parameter
  pub tree : Tree
  pub from_reference : Bool

pub record Case : Type 0 where
  pub patterns : List Tree
  pub body : Tree

pub record Program : Type 0 where
  pub name : List ℕ
  pub parameters : List Parameter
  pub inputs : List Tree
  pub output : Tree
  pub cases : List Case

-- One pattern for each premise, or one for all premises joined by a constant.
pub data PremiseShape : Type 0 where
  Each : (patterns : List Tree) → PremiseShape
  Joined : (pattern : Tree) (joiner : ℕ) → PremiseShape

pub record Rule : Type 0 where
  pub name : List ℕ
  pub parameters : List Parameter
  pub assumed : Option Tree
  pub premises : PremiseShape
  pub arguments : List Tree
  pub requirements : List (Tree × Tree)
  pub conclusion : Tree
  pub sorry : Bool

pub data SignatureEntry : Type 0 where
  IsConstant : (constant : Constant) (counts : Counts) → SignatureEntry
  IsProgram : (program : Program) → SignatureEntry
  IsRule : (rule : Rule) → SignatureEntry
  IsLiteralType : (class : LiteralClass) (type : Tree) → SignatureEntry

-- What is declared, in order of declaration. Constants, programs and rules are each numbered from 0 in that order. Constants may share a name where no number of arguments is taken by two of them.
abbrev pub Signature : Type 0
Signature = List SignatureEntry

-- a signature as it was when only its first entries were declared
abbrev pub IsStage : Signature → Signature → Type 0
IsStage stage S = (later : Signature) × (S ≡ stage ++ later)

-- Look-ups, each through the list from its front.

abbrev pub constant_of : SignatureEntry → Option Constant
constant_of (IsConstant c n) = Some c
constant_of (IsProgram p) = None
constant_of (IsRule r) = None
constant_of (IsLiteralType l t) = None

-- a constant with the numbers of arguments that it takes
abbrev pub counted_of : SignatureEntry → Option (Constant × Counts)
counted_of (IsConstant c n) = Some (c, n)
counted_of (IsProgram p) = None
counted_of (IsRule r) = None
counted_of (IsLiteralType l t) = None

abbrev pub program_of : SignatureEntry → Option Program
program_of (IsConstant c n) = None
program_of (IsProgram p) = Some p
program_of (IsRule r) = None
program_of (IsLiteralType l t) = None

abbrev pub rule_of : SignatureEntry → Option Rule
rule_of (IsConstant c n) = None
rule_of (IsProgram p) = None
rule_of (IsRule r) = Some r
rule_of (IsLiteralType l t) = None

abbrev pub is_same_class : LiteralClass → LiteralClass → Bool
is_same_class Numeral Numeral = true
is_same_class Binary Binary = true
is_same_class String String = true
is_same_class _ _ = false

abbrev pub literal_type_of : LiteralClass → SignatureEntry → Option Tree
literal_type_of class (IsConstant c n) = None
literal_type_of class (IsProgram p) = None
literal_type_of class (IsRule r) = None
literal_type_of class (IsLiteralType l t) = if is_same_class class l then Some t else None

abbrev pub constants : Signature → List Constant
constants S = filter_map constant_of S

abbrev pub counted : Signature → List (Constant × Counts)
counted S = filter_map counted_of S

abbrev pub programs : Signature → List Program
programs S = filter_map program_of S

abbrev pub rules : Signature → List Rule
rules S = filter_map rule_of S

-- by number
abbrev pub constant_at : Signature → ℕ → Option Constant
constant_at S k = slice_get (constants S) k

abbrev pub program_at : Signature → ℕ → Option Program
program_at S k = slice_get (programs S) k

abbrev pub rule_at : Signature → ℕ → Option Rule
rule_at S k = slice_get (rules S) k

-- the type of a class of literals, in which parameter 0 is the literal
abbrev pub literal_type : Signature → LiteralClass → Option Tree
literal_type S class = slice_get (filter_map (literal_type_of class) S) 0

-- by name, the number; of several constants that of the first
abbrev pub constant_named : Signature → List ℕ → Option ℕ
constant_named S name = position (λ c. bytes_eq name c.name) (constants S)

abbrev pub program_named : Signature → List ℕ → Option ℕ
program_named S name = position (λ p. bytes_eq name p.name) (programs S)

abbrev pub rule_named : Signature → List ℕ → Option ℕ
rule_named S name = position (λ r. bytes_eq name r.name) (rules S)

abbrev pub macro_named : List Macro → List ℕ → Option ℕ
macro_named macros name = position (λ m. bytes_eq name m.name) macros

-- what a name means among constants, macros and programs, which share one space of names
pub data Named : Type 0 where
  NamesConstant : (number : ℕ) → Named
  NamesMacro : (number : ℕ) → Named
  NamesProgram : (number : ℕ) → Named

-- a macro or a program
abbrev pub other_named : Signature → List Macro → List ℕ → Option Named
other_named S macros name = option_or (option_map NamesMacro (macro_named macros name)) (option_map NamesProgram (program_named S name))

abbrev pub lookup : Signature → List Macro → List ℕ → Option Named
lookup S macros name = option_or (option_map NamesConstant (constant_named S name)) (other_named S macros name)

-- The same by name and number of arguments.

abbrev pub takes : Counts → ℕ → Bool
takes (Exactly k) n = n == k
takes (From k) n = nat_le k n

abbrev pub constant_taking : Signature → List ℕ → (arguments : ℕ) → Option ℕ
constant_taking S name n = position (λ d. bytes_eq name d.0.name && takes d.1 n) (counted S)

-- the constant of the name that takes so many arguments, and the first of the name where none does
abbrev pub constant_for : Signature → List ℕ → (arguments : ℕ) → Option ℕ
constant_for S name n = option_or (constant_taking S name n) (constant_named S name)

-- what a name means as the head of so many arguments
abbrev pub lookup_count : Signature → List Macro → List ℕ → (arguments : ℕ) → Option Named
lookup_count S macros name n = option_or (option_map NamesConstant (constant_for S name n)) (other_named S macros name)

-- names that cannot be declared
abbrev pub reserved_names : List (List ℕ)
reserved_names = codes "Type" ∷ codes "Bool" ∷ codes "true" ∷ codes "false" ∷ codes "->" ∷ codes "_" ∷ codes "let" ∷ codes "!" ∷ []

abbrev pub is_reserved : List ℕ → Bool
is_reserved name = list_any (bytes_eq name) reserved_names || starts_with nat_eq name (codes "eo::")

abbrev pub is_free : Signature → List Macro → List ℕ → Bool
is_free S macros name = not (is_reserved name) && is_none (lookup S macros name)

abbrev pub is_free_rule : Signature → List ℕ → Bool
is_free_rule S name = not (is_reserved name) && is_none (rule_named S name)

-- The signature before the first declaration.

abbrev pub first_constant : List ℕ → Tree → SignatureEntry
first_constant name type =
    IsConstant (record { name = name; parameters = []; type = type; attribute = Plain; from_reference = false }) (Exactly 0)

abbrev pub first_signature : Signature
first_signature =
    first_constant (codes "Type") type_tree ∷ first_constant (codes "Bool") type_tree ∷ first_constant (codes "true") bool_tree ∷ first_constant (codes "false") bool_tree ∷ []

-- the terminator of a constant whose lists have one
abbrev pub terminator_of : Attribute → Option Tree
terminator_of Plain = None
terminator_of (RightNil n) = Some n
terminator_of (LeftNil n) = None
terminator_of Right = None
terminator_of Left = None
terminator_of (Chain k) = None
terminator_of (Pairs k) = None
terminator_of (Binder k) = None

abbrev pub terminator : Signature → ℕ → Option Tree
terminator S f = option_and_then (λ c. terminator_of c.attribute) (constant_at S f)

-- What a declaration may hold.

-- whether the type of each parameter of the list, whose first has number i, uses earlier parameters only
abbrev pub are_ordered : ℕ → List Parameter → Bool
are_ordered i [] = true
are_ordered i (p ∷ ps) = uses_only (λ j. nat_lt j i) p.type && are_ordered (suc i) ps

abbrev pub may_type : List Parameter → Bool
may_type ps = list_all (λ p. may_be_type p.type) ps

-- a terminator is a value
abbrev pub may_fold : Attribute → Bool
may_fold (RightNil n) = is_value n
may_fold (LeftNil n) = is_value n
may_fold Plain = true
may_fold Right = true
may_fold Left = true
may_fold (Chain k) = true
may_fold (Pairs k) = true
may_fold (Binder k) = true

-- the types of a constant's arguments, those of its explicit parameters among them
abbrev pub argument_types : Tree → List Tree
argument_types (Con k) = []
argument_types (Num z) = []
argument_types (Bits w v) = []
argument_types (Str s) = []
argument_types (Par i) = []
argument_types (Var s t) = []
argument_types (App f x) = []
argument_types (Arr a b) = a ∷ argument_types b
argument_types (Qar i t b) = t ∷ argument_types b
argument_types (Op c ts) = []

-- The numbers of arguments that a constant takes, by its attribute and by how many its type has.
abbrev pub counts_by : Attribute → (arguments : ℕ) → Counts
counts_by Plain k = Exactly k
counts_by (RightNil n) k = From 1
counts_by (LeftNil n) k = From 1
counts_by Right k = From 2
counts_by Left k = From 2
counts_by (Chain g) k = From 2
counts_by (Pairs g) k = From 2
counts_by (Binder g) k = Exactly k

abbrev pub counts_of : Constant → Counts
counts_of c = counts_by c.attribute (length (argument_types c.type))

-- whether some number is in both
abbrev pub meet : Counts → Counts → Bool
meet (Exactly k) m = takes m k
meet (From k) (Exactly n) = nat_le k n
meet (From k) (From n) = true

-- Whether a constant may have the name: it is not reserved, and no macro and no program has it.
abbrev pub may_name_constant : Signature → List Macro → List ℕ → Bool
may_name_constant S macros name = not (is_reserved name) && is_none (other_named S macros name)

-- whether no constant of the name takes one of these numbers of arguments
abbrev pub is_apart : Signature → List ℕ → Counts → Bool
is_apart S name counts = not (list_any (λ d. bytes_eq name d.0.name && meet d.1 counts) (counted S))

-- whether a constant of the name may take these numbers of arguments
abbrev pub is_free_as : Signature → List Macro → List ℕ → Counts → Bool
is_free_as S macros name counts = may_name_constant S macros name && is_apart S name counts

abbrev pub is_free_for : Signature → List Macro → Constant → Bool
is_free_for S macros c = is_free_as S macros c.name (counts_of c)

-- whether each implicit parameter of the list, whose first has number i, occurs in one of the types outside every operator
abbrev pub implicit_occur : List Tree → ℕ → List Parameter → Bool
implicit_occur types i [] = true
implicit_occur types i (p ∷ ps) = (not p.implicit || list_any (occurs_openly i) types) && implicit_occur types (suc i) ps

-- what is wrong with a declaration: a pattern or a type that it may not hold, and else a parameter that nothing would give a value
abbrev pub first_wrong : Bool → Bool → Option FaultName
first_wrong may_hold is_bound = if may_hold then (if is_bound then None else Some UnboundParam) else Some BadPattern

-- whether its types may be declared and its terminator is a value
abbrev pub constant_may_hold : Constant → Bool
constant_may_hold c = may_be_type c.type && (may_type c.parameters && may_fold c.attribute)

abbrev pub constant_fault : Constant → Option FaultName
constant_fault c = first_wrong (constant_may_hold c) (implicit_occur (argument_types c.type) 0 c.parameters)

-- and whether it may have its name, which is asked last
abbrev pub declare_fault : Signature → List Macro → Constant → Option FaultName
declare_fault S macros c = option_or (constant_fault c) (if is_free_for S macros c then None else Some Redeclared)

-- a class of literals gets one type
abbrev pub literal_type_fault : Signature → LiteralClass → Tree → Option FaultName
literal_type_fault S class t =
    if is_none (literal_type S class) then first_wrong (may_be_type t) true else Some Redeclared

abbrev pub case_may_hold : Case → Bool
case_may_hold c = list_all is_plain c.patterns

-- the body uses only parameters of the patterns
abbrev pub case_is_bound : Case → Bool
case_is_bound c = uses_only (λ i. occurs_in i c.patterns) c.body

abbrev pub program_fault : Program → Option FaultName
program_fault p = first_wrong (list_all case_may_hold p.cases) (list_all case_is_bound p.cases)

-- The parameters of a rule that get values.

abbrev pub premise_patterns : PremiseShape → List Tree
premise_patterns (Each ps) = ps
premise_patterns (Joined p f) = p ∷ []

abbrev pub rule_patterns : Rule → List Tree
rule_patterns r = option_to_list r.assumed ++ (premise_patterns r.premises ++ r.arguments)

-- Which parameters have a value once those of the list, whose first has number i, are taken from the last to the first: those in a pattern, and those that occur outside every operator in the type of a taken one that has a value.
abbrev pub known : List Tree → ℕ → List Parameter → ℕ → Bool
known patterns i [] j = occurs_in j patterns
known patterns i (p ∷ ps) j = known patterns (suc i) ps j || (known patterns (suc i) ps i && occurs_openly j p.type)

-- the parameters that have a value when the turn comes to parameter i
abbrev pub known_before : Rule → ℕ → ℕ → Bool
known_before r i = known (rule_patterns r) (suc i) (drop (suc i) r.parameters)

-- the parameters that get a value at all
abbrev pub is_solved : Rule → ℕ → Bool
is_solved r = known (rule_patterns r) 0 r.parameters

abbrev pub can_join : Signature → PremiseShape → Bool
can_join S (Each ps) = true
can_join S (Joined p f) = is_some (terminator S f)

abbrev pub rule_may_hold : Signature → Rule → Bool
rule_may_hold S r = list_all is_plain (rule_patterns r) && (may_type r.parameters && can_join S r.premises)

abbrev pub rule_is_bound : Rule → Bool
rule_is_bound r =
    list_all (λ q. uses_only (is_solved r) q.0 && uses_only (is_solved r) q.1) r.requirements && uses_only (is_solved r) r.conclusion

abbrev pub rule_fault : Signature → Rule → Option FaultName
rule_fault S r = first_wrong (rule_may_hold S r) (rule_is_bound r)
