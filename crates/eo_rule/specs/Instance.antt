-- Instances of a rule: what it concludes from what, under an assignment of its parameters.
use Rattle.std.specs.Prelude.{◌≡◌, ℕ, Bool, true, false, if◌then◌else◌, List, [], ◌∷◌, map, Option, Some, None, is_some, option_map, slice_get}
use Rattle.eo_term.specs.declared.OpName.{OpName}
use Rattle.eo_term.specs.declared.OpCode.{OpCode}
use Rattle.eo_term.specs.Tree.{Tree, Con, Op, NoTree, More, bool_tree, is_tall, is_plain}
use Rattle.eo_sig.specs.Signature.{Signature, Parameter, Rule, PremiseShape, Each, Joined, terminator, known_before, is_solved}
use Rattle.eo_pattern.specs.Matching.{Assignment, put}
use Rattle.eo_lists.specs.Lists.{spell}
use Rattle.eo_type.specs.Types.{Typed, settled, type_of, value_type}
use Rattle.eo_stack.specs.Evaluation.{Value, eval0}

-- a tree that has the value of the second where the two of the pair have the same value
abbrev pub under : Tree × Tree → Tree → Tree
under q t = Op (OpCode.Builtin OpName.Requires) (More q.0 (More q.1 (More t NoTree)))

-- a tree under requirements, the first outermost
abbrev pub required : List (Tree × Tree) → Tree → Tree
required [] t = t
required (q ∷ qs) t = under q (required qs t)

-- the conclusion under the rule's requirements
abbrev pub guarded_conclusion : Rule → Tree
guarded_conclusion r = required r.requirements r.conclusion

-- the assignment on some parameters alone
abbrev pub restricted : (ℕ → Bool) → Assignment → Assignment
restricted known σ i = if known i then σ i else None

-- The premises are what the patterns become, one for each, or all joined by a constant into one list that is not too tall.
abbrev pub PremisesFit : Signature → PremiseShape → List Tree → Assignment → Type 0
PremisesFit S (Each ps) premises σ = map (put σ) ps ≡ premises
PremisesFit S (Joined p f) premises σ =
    (n : Tree) × (terminator S f ≡ Some n) × (is_tall (spell (Con f) n premises) ≡ false) × (put σ p ≡ spell (Con f) n premises)

-- The value of a parameter has a type that is a value. The declared type, with the parameters known by its turn substituted and settled, holds no operator and becomes that type.
pub record FitsType (S : Signature) (r : Rule) (σ : Assignment) (i : ℕ) (declared value : Tree) : Type 0 where
  pub type : Tree
  pub has_type : value_type S value ≡ Typed type
  pub expected : Tree
  pub settles : settled (put (restricted (known_before r i) σ) declared) ≡ Typed expected
  pub plain : is_plain expected ≡ true
  pub equal : put σ expected ≡ type

-- The rule with the assignment concludes the formula from the hypothesis that it discharges, if any, the premises and the arguments.
pub record IsInstance (S : Signature) (r : Rule) (hypothesis : Option Tree) (premises arguments : List Tree) (formula : Tree) (σ : Assignment) : Type 0 where
  pub solves : (i : ℕ) → is_some (σ i) ≡ is_solved r i
  pub assumes : option_map (put σ) r.assumed ≡ hypothesis
  pub premises_fit : PremisesFit S r.premises premises σ
  pub arguments_fit : map (put σ) r.arguments ≡ arguments
  pub types_fit : (i : ℕ) (p : Parameter) (value : Tree) → slice_get r.parameters i ≡ Some p → σ i ≡ Some value → FitsType S r σ i p.type value
  pub not_tall : is_tall (put σ (guarded_conclusion r)) ≡ false
  pub concludes : eval0 S (put σ (guarded_conclusion r)) ≡ Value formula
  pub is_formula : type_of S formula ≡ Typed bool_tree

-- The rule concludes the formula from them.
abbrev pub Instance : Signature → Rule → Option Tree → List Tree → List Tree → Tree → Type 0
Instance S r hypothesis premises arguments formula =
    (σ : Assignment) × IsInstance S r hypothesis premises arguments formula σ
