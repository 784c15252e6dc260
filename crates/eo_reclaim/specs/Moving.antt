-- The terms of declarations, in the order of their trees, and declarations with other terms.
use Rattle.std.specs.Prelude.{◌≡◌, ℕ, Bool, List, [], ◌∷◌, ◌++◌, map, flat_map, Option, Some, None, option_to_list}
use Rattle.eo_sig.specs.declared.records.Param.{Param}
use Rattle.eo_sig.specs.declared.records.Attribute as code_attribute
use Rattle.eo_sig.specs.declared.records.Attribute.TheVariants as attribute
use Rattle.eo_sig.specs.declared.records.ConstDecl.{ConstDecl}
use Rattle.eo_sig.specs.declared.records.MacroDecl.{MacroDecl}
use Rattle.eo_sig.specs.declared.records.Case as code_case
use Rattle.eo_sig.specs.declared.records.ProgramDecl.{ProgramDecl}
use Rattle.eo_sig.specs.declared.records.PremiseShape as code_premises
use Rattle.eo_sig.specs.declared.records.PremiseShape.TheVariants as premises
use Rattle.eo_sig.specs.declared.records.RuleDecl.{RuleDecl}

-- ---- the terms

abbrev pub param_id : Param → List ℕ
param_id p = p.ty ∷ []

abbrev pub param_ids : List Param → List ℕ
param_ids ps = map (λ p. p.ty) ps

abbrev pub attribute_ids : code_attribute.Attribute → List ℕ
attribute_ids attribute.Plain = []
attribute_ids (attribute.RightNil t) = t ∷ []
attribute_ids (attribute.LeftNil t) = t ∷ []
attribute_ids attribute.Right = []
attribute_ids attribute.Left = []
attribute_ids (attribute.Chain g) = []
attribute_ids (attribute.Pairs g) = []
attribute_ids (attribute.Binder g) = []

abbrev pub constant_ids : ConstDecl → List ℕ
constant_ids d = d.ty ∷ param_ids d.params ++ attribute_ids d.attribute

abbrev pub macro_ids : MacroDecl → List ℕ
macro_ids d = d.tree ∷ param_ids d.params

abbrev pub case_ids : code_case.Case → List ℕ
case_ids k = k.body ∷ k.patterns

abbrev pub program_ids : ProgramDecl → List ℕ
program_ids d = d.output ∷ d.inputs ++ param_ids d.params ++ flat_map case_ids d.cases

abbrev pub premise_ids : code_premises.PremiseShape → List ℕ
premise_ids (premises.Each ps) = ps
premise_ids (premises.Joined p f) = p ∷ []

abbrev pub pair_ids : ℕ × ℕ → List ℕ
pair_ids q = q.0 ∷ q.1 ∷ []

abbrev pub rule_ids : RuleDecl → List ℕ
rule_ids d =
    d.conclusion ∷ param_ids d.params ++ option_to_list d.«assumption» ++ premise_ids d.premises ++ d.args ++ flat_map pair_ids d.requirements

-- ---- all but the terms

abbrev pub blank_param : Param → Param
blank_param p = record { name = p.name; ty = 0; implicit = p.implicit; list = p.list }

abbrev pub blank_params : List Param → List Param
blank_params ps = map blank_param ps

abbrev pub blank_attribute : code_attribute.Attribute → code_attribute.Attribute
blank_attribute attribute.Plain = attribute.Plain
blank_attribute (attribute.RightNil t) = attribute.RightNil 0
blank_attribute (attribute.LeftNil t) = attribute.LeftNil 0
blank_attribute attribute.Right = attribute.Right
blank_attribute attribute.Left = attribute.Left
blank_attribute (attribute.Chain g) = attribute.Chain g
blank_attribute (attribute.Pairs g) = attribute.Pairs g
blank_attribute (attribute.Binder g) = attribute.Binder g

abbrev pub blank_constant : ConstDecl → ConstDecl
blank_constant d =
    record { name = d.name; params = blank_params d.params; ty = 0; attribute = blank_attribute d.attribute; from_reference = d.from_reference }

abbrev pub blank_macro : MacroDecl → MacroDecl
blank_macro d = record { name = d.name; params = blank_params d.params; tree = 0; from_reference = d.from_reference }

abbrev pub blank_ids : List ℕ → List ℕ
blank_ids is = map (λ _. 0) is

abbrev pub blank_case : code_case.Case → code_case.Case
blank_case k = record { patterns = blank_ids k.patterns; body = 0 }

abbrev pub blank_program : ProgramDecl → ProgramDecl
blank_program d =
    record { name = d.name; params = blank_params d.params; inputs = blank_ids d.inputs; output = 0; cases = map blank_case d.cases }

abbrev pub blank_premises : code_premises.PremiseShape → code_premises.PremiseShape
blank_premises (premises.Each ps) = premises.Each (blank_ids ps)
blank_premises (premises.Joined p f) = premises.Joined 0 f

abbrev pub blank_option : Option ℕ → Option ℕ
blank_option None = None
blank_option (Some i) = Some 0

abbrev pub blank_pair : ℕ × ℕ → ℕ × ℕ
blank_pair q = (0, 0)

abbrev pub blank_rule : RuleDecl → List ℕ × List Param × Option ℕ × code_premises.PremiseShape × List ℕ × List (ℕ × ℕ) × Bool
blank_rule d =
    (d.name, blank_params d.params, blank_option d.«assumption», blank_premises d.premises, blank_ids d.args, map blank_pair d.requirements, d.sorry)

-- The terms that are taken off the front of a list are those of the second thing, which is the first but for its terms.
pub record IsMoved {X Y : Type 0} (ids : X → List ℕ) (blank : X → Y) (old : X) (left : List ℕ) (new : X) (rest : List ℕ) : Type 0 where
  pub same : blank new ≡ blank old
  pub taken : left ≡ ids new ++ rest
