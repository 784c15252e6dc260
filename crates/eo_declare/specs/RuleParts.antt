-- The terms of a rule, as they are read in order, before it is known whether its premises can be joined.
use Rattle.std.specs.Prelude.{ℕ, ◌<◌, List, map, length, All, Option, option_map, Result, Ok}
use Rattle.eo_base.specs.Answers.{Gives}
use Rattle.eo_base.specs.Checks.{Checked, ◌>>=◌}
use Rattle.eo_sexp.specs.Sexp.{Sexp}
use Rattle.eo_shape.specs.Shapes.{PremisesShape, RuleShape}
use Rattle.eo_sig.specs.declared.records.Param.{Param}
use Rattle.eo_sig.specs.declared.records.PremiseShape as code_premise_shape
use Rattle.eo_sig.specs.Reading.{Kept, read_parameter, read_premises, read_pair, signature, PremisesBelow, SomeBelow}
use Rattle.eo_sig.specs.Signature.{Parameter, PremiseShape, Rule, Signature}
use Rattle.eo_term.specs.Terms.{Terms, tree_at}
use Rattle.eo_term.specs.Tree.{Tree}
use Rattle.eo_declare.specs.Declarations.{PremisesMeant, EachMeant, JoinedMeant, meanings, optional_meaning, premises_meant, premise_shape, requirements_meant}
use Rattle.eo_elab.specs.Meaning.{meaning}
use Rattle.eo_declare.specs.declared.rules.PremisesMeant as code_premises
use Rattle.eo_declare.specs.declared.rules.PremisesMeant.TheVariants as premises
use Rattle.eo_declare.specs.declared.rules.RuleParts as code_parts
use Rattle.eo_names.specs.Contexts.{Context, Local}
use Rattle.eo_names.specs.Refused.{told}
use Rattle.eo_names.specs.Worlds.{World}
use Rattle.eo_names.specs.declared.refused.ElabRefused.{ElabRefused}

pub record RuleParts : Type 0 where
  pub assumed : Option Tree
  pub premises : PremisesMeant
  pub arguments : List Tree
  pub requirements : List (Tree × Tree)
  pub conclusion : Tree

abbrev pub rule_parts : Context → List Local → RuleShape → Checked RuleParts
rule_parts c locals s = do
  assumed ← optional_meaning c locals s.assumed
  premises ← premises_meant c locals s.premises
  arguments ← meanings c locals s.arguments
  requirements ← requirements_meant c locals s.requirements
  conclusion ← meaning c locals s.conclusion
  Ok (record { assumed = assumed; premises = premises; arguments = arguments; requirements = requirements; conclusion = conclusion })

-- the rule with these parts, whose premises can be joined
abbrev pub rule_of_parts : Signature → List Parameter → RuleShape → RuleParts → Checked Rule
rule_of_parts S parameters s r = do
  shape ← premise_shape S r.premises
  Ok (record { name = s.name; parameters = parameters; assumed = r.assumed; premises = shape; arguments = r.arguments; requirements = r.requirements; conclusion = r.conclusion; sorry = s.sorry })

-- ---- as the program has them

abbrev pub read_premises_meant : List Tree → code_premises.PremisesMeant → PremisesMeant
read_premises_meant ts (premises.Each ps) = EachMeant (map (tree_at ts) ps)
read_premises_meant ts (premises.Joined p f) = JoinedMeant (tree_at ts p) (tree_at ts f)

abbrev pub read_parts : List Tree → code_parts.RuleParts → RuleParts
read_parts ts r = record {
  assumed = option_map (tree_at ts) r.«assumption»;
  premises = read_premises_meant ts r.premises;
  arguments = map (tree_at ts) r.args;
  requirements = map (read_pair ts) r.requirements;
  conclusion = tree_at ts r.conclusion;
}

-- the terms are below n

abbrev pub PairBelow : ℕ → ℕ × ℕ → Type 0
PairBelow n q = (q.0 < n) × (q.1 < n)

abbrev pub MeantBelow : ℕ → code_premises.PremisesMeant → Type 0
MeantBelow n (premises.Each ps) = All (λ i. i < n) ps
MeantBelow n (premises.Joined p f) = (p < n) × (f < n)

pub record PartsBelow (n : ℕ) (r : code_parts.RuleParts) : Type 0 where
  pub assumed : SomeBelow n r.«assumption»
  pub premises : MeantBelow n r.premises
  pub args : All (λ i. i < n) r.args
  pub requirements : All (λ (q : ℕ × ℕ). (q.0 < n) × (q.1 < n)) r.requirements
  pub conclusion : r.conclusion < n

-- ---- what calls return

abbrev pub GivesSome : Terms → Result (Option ℕ) ElabRefused → Checked (Option Tree) → Type 0
GivesSome t r o = Gives told (SomeBelow (length t.trees)) (option_map (tree_at t.trees)) r o

abbrev pub GivesMeant : Terms → Result code_premises.PremisesMeant ElabRefused → Checked PremisesMeant → Type 0
GivesMeant t r o = Gives told (MeantBelow (length t.trees)) (read_premises_meant t.trees) r o

abbrev pub GivesPair : Terms → Result (ℕ × ℕ) ElabRefused → Checked (Tree × Tree) → Type 0
GivesPair t r o = Gives told (PairBelow (length t.trees)) (read_pair t.trees) r o

abbrev pub GivesPairs : Terms → Result (List (ℕ × ℕ)) ElabRefused → Checked (List (Tree × Tree)) → Type 0
GivesPairs t r o = Gives told (All (λ (q : ℕ × ℕ). (q.0 < length t.trees) × (q.1 < length t.trees))) (map (read_pair t.trees)) r o

abbrev pub GivesParts : Terms → Result code_parts.RuleParts ElabRefused → Checked RuleParts → Type 0
GivesParts t r o = Gives told (PartsBelow (length t.trees)) (read_parts t.trees) r o

abbrev pub GivesPremises : Terms → Result code_premise_shape.PremiseShape ElabRefused → Checked PremiseShape → Type 0
GivesPremises t r o = Gives told (PremisesBelow (length t.trees)) (read_premises t.trees) r o

-- ---- the definitions in a world

module _ (w : World) where
  abbrev pub optional_in : Option Sexp → Checked (Option Tree)
  optional_in o = optional_meaning w.names w.locals o

  abbrev pub premises_in : PremisesShape → Checked PremisesMeant
  premises_in s = premises_meant w.names w.locals s

  abbrev pub requirement_in : Sexp × Sexp → Checked (Tree × Tree)
  requirement_in q = do
    a ← meaning w.names w.locals q.0
    b ← meaning w.names w.locals q.1
    Ok (a, b)

  abbrev pub requirements_in : List (Sexp × Sexp) → Checked (List (Tree × Tree))
  requirements_in qs = requirements_meant w.names w.locals qs

  abbrev pub rule_parts_in : RuleShape → Checked RuleParts
  rule_parts_in s = rule_parts w.names w.locals s

abbrev pub premise_shape_in : Terms → Kept → code_premises.PremisesMeant → Checked PremiseShape
premise_shape_in t k p = premise_shape (signature t.trees k) (read_premises_meant t.trees p)

abbrev pub rule_of_parts_in : Terms → Kept → List Param → RuleShape → code_parts.RuleParts → Checked Rule
rule_of_parts_in t k params s r = rule_of_parts (signature t.trees k) (map (read_parameter t.trees) params) s (read_parts t.trees r)
