-- Declarations as the program keeps them, with numbers of terms, and the declarations of trees that they are over a list of trees.
use Rattle.std.specs.Prelude.{◌≡◌, ℕ, ◌<◌, ◌≤◌, List, [], ◌∷◌, ◌++◌, map, Option, Some, None, Result, Ok, Err, option_map, filter_map, length, All, true, false, codes}
use Rattle.eo_base.specs.Limits.{parameters_limit}
use Rattle.eo_term.specs.Tree.{Tree}
use Rattle.eo_term.specs.Terms.{tree_at}
use Rattle.eo_sig.specs.declared.records.Param.{Param}
use Rattle.eo_sig.specs.declared.records.Attribute as code_attribute
use Rattle.eo_sig.specs.declared.records.Attribute.TheVariants as attribute
use Rattle.eo_sig.specs.declared.records.ConstDecl.{ConstDecl}
use Rattle.eo_sig.specs.declared.records.MacroDecl.{MacroDecl}
use Rattle.eo_sig.specs.declared.records.Case as code_case
use Rattle.eo_sig.specs.declared.records.ProgramDecl.{ProgramDecl}
use Rattle.eo_sig.specs.declared.records.PremiseShape as code_premises
use Rattle.eo_sig.specs.declared.records.PremiseShape.TheVariants as premises
use Rattle.eo_sig.specs.declared.records.RuleDecl.{RuleDecl}
use Rattle.eo_sig.specs.declared.records.Entry as code_entry
use Rattle.eo_sig.specs.declared.records.Entry.TheVariants as names
use Rattle.eo_sig.specs.declared.records.Declared.{Declared}
use Rattle.eo_sig.specs.declared.records.Declared.TheVariants as declared
use Rattle.eo_sig.specs.declared.records.Counts as code_counts
use Rattle.eo_sig.specs.declared.records.Counts.TheVariants as counts
use Rattle.eo_sig.specs.Signature.{Parameter, Attribute, Plain, RightNil, LeftNil, Right, Left, Chain, Pairs, Binder, Constant, Counts, Exactly, From, Macro, Case, Program, PremiseShape, Each, Joined, Rule, SignatureEntry, IsConstant, IsProgram, IsRule, IsLiteralType, Signature, Named, NamesConstant, NamesMacro, NamesProgram, counts_of, is_free, is_free_rule}

-- What a signature keeps: the declarations in order, and beside them the macros in order.
pub record Kept : Type 0 where
  pub entries : List Declared
  pub macros : List MacroDecl

-- What they are over a list of trees.

abbrev pub read_parameter : List Tree → Param → Parameter
read_parameter ts p = record { name = p.name; type = tree_at ts p.ty; implicit = p.implicit; list = p.list }

abbrev pub read_attribute : List Tree → code_attribute.Attribute → Attribute
read_attribute ts attribute.Plain = Plain
read_attribute ts (attribute.RightNil n) = RightNil (tree_at ts n)
read_attribute ts (attribute.LeftNil n) = LeftNil (tree_at ts n)
read_attribute ts attribute.Right = Right
read_attribute ts attribute.Left = Left
read_attribute ts (attribute.Chain g) = Chain g
read_attribute ts (attribute.Pairs g) = Pairs g
read_attribute ts (attribute.Binder g) = Binder g

abbrev pub read_constant : List Tree → ConstDecl → Constant
read_constant ts d = record {
  name = d.name;
  parameters = map (read_parameter ts) d.params;
  type = tree_at ts d.ty;
  attribute = read_attribute ts d.attribute;
  from_reference = d.from_reference;
}

abbrev pub read_counts : code_counts.Counts → Counts
read_counts (counts.Exactly k) = Exactly k
read_counts (counts.From k) = From k

abbrev pub write_counts : Counts → code_counts.Counts
write_counts (Exactly k) = counts.Exactly k
write_counts (From k) = counts.From k

-- the numbers of arguments that a constant takes
abbrev pub counts_in : List Tree → ConstDecl → code_counts.Counts
counts_in ts d = write_counts (counts_of (read_constant ts d))

abbrev pub read_macro : List Tree → MacroDecl → Macro
read_macro ts d = record {
  name = d.name;
  parameters = map (read_parameter ts) d.params;
  tree = tree_at ts d.tree;
  from_reference = d.from_reference;
}

abbrev pub read_case : List Tree → code_case.Case → Case
read_case ts k = record { patterns = map (tree_at ts) k.patterns; body = tree_at ts k.body }

abbrev pub read_program : List Tree → ProgramDecl → Program
read_program ts d = record {
  name = d.name;
  parameters = map (read_parameter ts) d.params;
  inputs = map (tree_at ts) d.inputs;
  output = tree_at ts d.output;
  cases = map (read_case ts) d.cases;
}

abbrev pub read_premises : List Tree → code_premises.PremiseShape → PremiseShape
read_premises ts (premises.Each ps) = Each (map (tree_at ts) ps)
read_premises ts (premises.Joined p f) = Joined (tree_at ts p) f

abbrev pub read_pair : List Tree → ℕ × ℕ → Tree × Tree
read_pair ts p = (tree_at ts p.0, tree_at ts p.1)

abbrev pub read_rule : List Tree → RuleDecl → Rule
read_rule ts d = record {
  name = d.name;
  parameters = map (read_parameter ts) d.params;
  assumed = option_map (tree_at ts) d.«assumption»;
  premises = read_premises ts d.premises;
  arguments = map (tree_at ts) d.args;
  requirements = map (read_pair ts) d.requirements;
  conclusion = tree_at ts d.conclusion;
  sorry = d.sorry;
}

abbrev pub read_entry : List Tree → Declared → SignatureEntry
read_entry ts (declared.Const d n) = IsConstant (read_constant ts d) (read_counts n)
read_entry ts (declared.Program d) = IsProgram (read_program ts d)
read_entry ts (declared.Rule d) = IsRule (read_rule ts d)
read_entry ts (declared.Literal l t) = IsLiteralType l (tree_at ts t)

-- the signature that is kept, and its macros
abbrev pub signature : List Tree → Kept → Signature
signature ts k = map (read_entry ts) k.entries

abbrev pub macros : List Tree → Kept → List Macro
macros ts k = map (read_macro ts) k.macros

-- The terms of a declaration are below n.

abbrev pub AttributeBelow : ℕ → code_attribute.Attribute → Type 0
AttributeBelow n attribute.Plain = Unit {0}
AttributeBelow n (attribute.RightNil t) = t < n
AttributeBelow n (attribute.LeftNil t) = t < n
AttributeBelow n attribute.Right = Unit {0}
AttributeBelow n attribute.Left = Unit {0}
AttributeBelow n (attribute.Chain g) = Unit {0}
AttributeBelow n (attribute.Pairs g) = Unit {0}
AttributeBelow n (attribute.Binder g) = Unit {0}

pub record ConstBelow (n : ℕ) (d : ConstDecl) : Type 0 where
  pub params : All (λ p. p.ty < n) d.params
  pub type : d.ty < n
  pub attribute : AttributeBelow n d.attribute

-- and it has no more parameters than the limit
pub record MacroBelow (n : ℕ) (d : MacroDecl) : Type 0 where
  pub params : All (λ p. p.ty < n) d.params
  pub tree : d.tree < n
  pub few : length d.params ≤ parameters_limit

pub record CaseBelow (n : ℕ) (k : code_case.Case) : Type 0 where
  pub patterns : All (λ i. i < n) k.patterns
  pub body : k.body < n

-- and it has no more arguments than the limit
pub record ProgramBelow (n : ℕ) (d : ProgramDecl) : Type 0 where
  pub params : All (λ p. p.ty < n) d.params
  pub inputs : All (λ i. i < n) d.inputs
  pub output : d.output < n
  pub cases : All (CaseBelow n) d.cases
  pub few : length d.inputs ≤ parameters_limit

abbrev pub PremisesBelow : ℕ → code_premises.PremiseShape → Type 0
PremisesBelow n (premises.Each ps) = All (λ i. i < n) ps
PremisesBelow n (premises.Joined p f) = p < n

abbrev pub SomeBelow : ℕ → Option ℕ → Type 0
SomeBelow n None = Unit {0}
SomeBelow n (Some i) = i < n

pub record RuleBelow (n : ℕ) (d : RuleDecl) : Type 0 where
  pub params : All (λ p. p.ty < n) d.params
  pub assumed : SomeBelow n d.«assumption»
  pub premises : PremisesBelow n d.premises
  pub args : All (λ i. i < n) d.args
  pub requirements : All (λ (q : ℕ × ℕ). (q.0 < n) × (q.1 < n)) d.requirements
  pub conclusion : d.conclusion < n

abbrev pub EntryBelow : ℕ → Declared → Type 0
EntryBelow n (declared.Const d c) = ConstBelow n d
EntryBelow n (declared.Program d) = ProgramBelow n d
EntryBelow n (declared.Rule d) = RuleBelow n d
EntryBelow n (declared.Literal l t) = t < n

-- All terms that are kept are below n. So a table that has the same terms below n has the same signature.
pub record IsBelow (n : ℕ) (k : Kept) : Type 0 where
  pub entries : All (EntryBelow n) k.entries
  pub macros : All (MacroBelow n) k.macros

-- by kind

abbrev pub const_of : Declared → Option ConstDecl
const_of (declared.Const d n) = Some d
const_of (declared.Program d) = None
const_of (declared.Rule d) = None
const_of (declared.Literal l t) = None

abbrev pub program_decl_of : Declared → Option ProgramDecl
program_decl_of (declared.Const d n) = None
program_decl_of (declared.Program d) = Some d
program_decl_of (declared.Rule d) = None
program_decl_of (declared.Literal l t) = None

abbrev pub rule_decl_of : Declared → Option RuleDecl
rule_decl_of (declared.Const d n) = None
rule_decl_of (declared.Program d) = None
rule_decl_of (declared.Rule d) = Some d
rule_decl_of (declared.Literal l t) = None

abbrev pub constants_of : Kept → List ConstDecl
constants_of k = filter_map const_of k.entries

abbrev pub programs_of : Kept → List ProgramDecl
programs_of k = filter_map program_decl_of k.entries

abbrev pub rules_of : Kept → List RuleDecl
rules_of k = filter_map rule_decl_of k.entries

-- the number is of what is kept
abbrev pub IsWithin : Kept → code_entry.Entry → Type 0
IsWithin k (names.Constant n) = n < length (constants_of k)
IsWithin k (names.Macro n) = n < length k.macros
IsWithin k (names.Program n) = n < length (programs_of k)

-- What a call adds.

abbrev pub with_entry : Declared → Kept → Kept
with_entry x k = record { entries = k.entries ++ x ∷ []; macros = k.macros }

-- a declaration that is added comes after those that are kept; a refused call changes nothing
abbrev pub Enters : {X E : Type 0} → Result X E → Declared → (old new : Kept) → Type 0
Enters (Ok x) d old new = new ≡ with_entry d old
Enters (Err e) d old new = new ≡ old

abbrev pub with_macro : MacroDecl → Kept → Kept
with_macro d k = record { entries = k.entries; macros = k.macros ++ d ∷ [] }

-- over the trees, the signature new has one entry more, and the same macros
pub record Adds (ts : List Tree) (old : Kept) (e : SignatureEntry) (new : Kept) : Type 0 where
  pub signature : signature ts new ≡ signature ts old ++ e ∷ []
  pub macros : macros ts new ≡ macros ts old

-- so it is over any trees, and the number is that of the new entry among those of its kind
pub record AddsAt {X : Type 0} (kind : Signature → List X) (old : Kept) (e : List Tree → SignatureEntry) (new : Kept) (n : ℕ) : Type 0 where
  pub adds : (ts : List Tree) → Adds ts old (e ts) new
  pub number : (ts : List Tree) → n ≡ length (kind (signature ts old))

pub record AddsMacro (ts : List Tree) (old : Kept) (m : Macro) (new : Kept) : Type 0 where
  pub signature : signature ts new ≡ signature ts old
  pub macros : macros ts new ≡ macros ts old ++ m ∷ []

-- a name that may be declared; no tree plays a part in it
abbrev pub IsFree : Kept → List ℕ → Type 0
IsFree k name = is_free (signature [] k) (macros [] k) name ≡ true

-- a name that a rule may get
abbrev pub IsFreeRule : Kept → List ℕ → Type 0
IsFreeRule k name = is_free_rule (signature [] k) name ≡ true

-- The signature before the first declaration.

abbrev pub first_constant : List ℕ → ℕ → Declared
first_constant name t =
    declared.Const (record { name = name; params = []; ty = t; attribute = attribute.Plain; from_reference = false }) (counts.Exactly 0)

abbrev pub first_kept : Kept
first_kept = record {
  entries = first_constant (codes "Type") 0 ∷ first_constant (codes "Bool") 0 ∷ first_constant (codes "true") 1 ∷ first_constant (codes "false") 1 ∷ [];
  macros = [];
}

abbrev pub read_named : code_entry.Entry → Named
read_named (names.Constant n) = NamesConstant n
read_named (names.Macro n) = NamesMacro n
read_named (names.Program n) = NamesProgram n

-- What a call that takes a signature and a table says of both: over the table new it is the signature that it was over old, and all its terms are there.
pub record Stays (k : Kept) (old new : List Tree) : Type 0 where
  pub signature : signature new k ≡ signature old k
  pub macros : macros new k ≡ macros old k
  pub below : IsBelow (length new) k
