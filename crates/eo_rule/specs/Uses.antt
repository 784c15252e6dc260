-- The checks of a use of a rule, in order. The first that fails gives the fault, and else the result is the conclusion.
use Rattle.std.specs.Prelude.{◌≡◌, ℕ, suc, Bool, true, not, List, [], ◌∷◌, Option, Some, None, is_some, option_to_list, Ok, Err}
use Rattle.std.specs.Bool.{beq}
use Rattle.std.specs.List.{list_all}
use Rattle.eo_base.specs.declared.FaultName.TheVariants.{WrongKind, UnknownRule, TermHeight, PremiseMismatch, IllTyped, NumberRange, NotBool, ConclusionDiffers}
use Rattle.eo_base.specs.Checks.{Checked, Passed, ◌>>=◌, require, value_or}
use Rattle.eo_term.specs.Tree.{Tree, bool_tree, is_tall, is_value, tree_eq}
use Rattle.eo_sig.specs.Signature.{Signature, Parameter, Rule, PremiseShape, Each, Joined, premise_patterns, rule_at}
use Rattle.eo_pattern.specs.Matching.{Assignment, empty, put, matching}
use Rattle.eo_lists.specs.Lists.{list_by}
use Rattle.eo_type.specs.Types.{TypeOutcome, Typed, Untyped, TypeRange, TypeTall, settled, value_type}
use Rattle.eo_stack.specs.Evaluation.{eval0}
use Rattle.eo_eval.specs.Faults.{value_or_fault}
use Rattle.eo_rule.specs.Instance.{guarded_conclusion, Instance}

-- What a rule is used on: the assumption that it discharges, if any, premises, arguments, and the formula that it is said to conclude, if any.
pub record Use : Type 0 where
  pub assumed : Option Tree
  pub premises : List Tree
  pub arguments : List Tree
  pub stated : Option Tree

-- What is given are values.
pub record AreGiven (given : Use) : Type 0 where
  pub assumed : list_all is_value (option_to_list given.assumed) ≡ true
  pub premises : list_all is_value given.premises ≡ true
  pub arguments : list_all is_value given.arguments ≡ true

abbrev pub typed_or : TypeOutcome Tree → Checked Tree
typed_or (Typed t) = Ok t
typed_or Untyped = Err IllTyped
typed_or TypeRange = Err NumberRange
typed_or TypeTall = Err TermHeight

-- the type of a value, which is a value
unfoldable pub typed : Signature → Tree → Checked Tree
typed S v = typed_or (value_type S v)

-- 1. an assumption just where the rule has one
abbrev pub check_kind : Option Tree → Option Tree → Checked Passed
check_kind wanted given = require (beq (is_some wanted) (is_some given)) WrongKind

-- 2. the premises, joined where the rule joins them
unfoldable pub joined : Signature → ℕ → List Tree → Checked Tree
joined S f premises = do
  t ← value_or PremiseMismatch (list_by S f premises)
  _ ← require (not (is_tall t)) TermHeight
  Ok t

abbrev pub join_premises : Signature → PremiseShape → List Tree → Checked (List Tree)
join_premises S (Each ps) premises = Ok premises
join_premises S (Joined p f) premises = do
  t ← joined S f premises
  Ok (t ∷ [])

-- 3. one assignment that matches the assumption, the premises and the arguments
abbrev pub match_trees : Assignment → List Tree → List Tree → Checked Assignment
match_trees σ patterns trees = value_or PremiseMismatch (matching σ patterns trees)

unfoldable pub match_use : Rule → Option Tree → List Tree → List Tree → Checked Assignment
match_use r hypothesis premises arguments = do
  σ ← match_trees empty (option_to_list r.assumed) (option_to_list hypothesis)
  τ ← match_trees σ (premise_patterns r.premises) premises
  match_trees τ r.arguments arguments

-- 2. and 3.
unfoldable pub matched : Signature → Rule → Use → Checked Assignment
matched S r given = do
  premises ← join_premises S r.premises given.premises
  match_use r given.assumed premises given.arguments

-- 4. the types of the parameters, from the last to the first; a match of types may give values to earlier parameters
unfoldable pub check_value : Signature → Assignment → Tree → Tree → Checked Assignment
check_value S σ declared value = do
  t ← typed S value
  u ← typed_or (settled (put σ declared))
  value_or IllTyped (matching σ (u ∷ []) (t ∷ []))

abbrev pub check_type : Signature → Assignment → Tree → Option Tree → Checked Assignment
check_type S σ declared None = Ok σ
check_type S σ declared (Some value) = check_value S σ declared value

unfoldable pub check_types : Signature → Assignment → ℕ → List Parameter → Checked Assignment
check_types S σ i [] = Ok σ
check_types S σ i (p ∷ ps) = do
  τ ← check_types S σ (suc i) ps
  check_type S τ p.type (τ i)

-- 5. the value of the conclusion under its requirements
unfoldable pub conclude_value : Signature → Tree → Checked Tree
conclude_value S t = do
  _ ← require (not (is_tall t)) TermHeight
  value_or_fault (eval0 S t)

-- 6. a formula
unfoldable pub check_formula : Signature → Tree → Checked Passed
check_formula S t = do
  u ← typed S t
  require (tree_eq u bool_tree) NotBool

-- 7. the one that is stated, if any
abbrev pub is_stated : Option Tree → Tree → Bool
is_stated None t = true
is_stated (Some s) t = tree_eq s t

unfoldable pub check_stated : Option Tree → Tree → Checked Tree
check_stated stated t = do
  _ ← require (is_stated stated t) ConclusionDiffers
  Ok t

-- 2. to 7.
unfoldable pub kind_conclusion : Signature → Rule → Use → Checked Tree
kind_conclusion S r given = do
  σ ← matched S r given
  τ ← check_types S σ 0 r.parameters
  t ← conclude_value S (put τ (guarded_conclusion r))
  _ ← check_formula S t
  check_stated given.stated t

-- what the rule concludes, or the first check that fails
unfoldable pub rule_conclusion : Signature → Rule → Use → Checked Tree
rule_conclusion S r given = do
  _ ← check_kind r.assumed given.assumed
  kind_conclusion S r given

-- what the rule of this number concludes
unfoldable pub conclusion : Signature → ℕ → Use → Checked Tree
conclusion S number given = do
  r ← value_or UnknownRule (rule_at S number)
  rule_conclusion S r given

-- The formula is the one that is stated, if any is.
abbrev pub AgreesWith : Option Tree → Tree → Type 0
AgreesWith None formula = Unit {0}
AgreesWith (Some s) formula = s ≡ formula

-- The rule of this number concludes the formula from what is given, as it is stated.
pub record Concludes (S : Signature) (number : ℕ) (given : Use) (formula : Tree) : Type 0 where
  pub rule : Rule
  pub declared : rule_at S number ≡ Some rule
  pub is_instance : Instance S rule given.assumed given.premises given.arguments formula
  pub agrees : AgreesWith given.stated formula
