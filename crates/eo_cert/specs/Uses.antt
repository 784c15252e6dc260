-- Contexts, and derivations in them.
use Rattle.std.specs.Prelude.{ℕ, suc, Bool, true, false, not, ◌&&◌, ◌||◌, nat_eq, nat_le, List, [], ◌∷◌, map, Option, Some, None, option_map, slice_get}
use Rattle.std.specs.List.{list_all}
use Rattle.std.specs.Cmp.Lexicographic.{pointwise}
use Rattle.eo_base.specs.Limits.{open_calls_limit}
use Rattle.eo_term.specs.Tree.{Tree, Con, Num, Bits, Str, Par, Var, App, Arr, Qar, Op, bool_tree, is_tall, is_plain, is_value, uses_only, tree_eq}
use Rattle.eo_sig.specs.Signature.{Signature, Parameter, Rule, PremiseShape, Each, Joined, rule_at, terminator, rule_patterns, known, known_before, is_solved}
use Rattle.eo_pattern.specs.Matching.{put}
use Rattle.eo_lists.specs.Lists.{spell}
use Rattle.eo_type.specs.Types.{TypeOutcome, Typed, settled, type_of, value_type}
use Rattle.eo_rule.specs.Instance.{guarded_conclusion, restricted}
use Rattle.eo_lines.specs.Lines.{StepLine}
use Rattle.eo_cert.specs.Stated.{Context, Stated, signature, ◌>>=◌, when, each, term_at, terms_at, context_at, derivation_at, reaches, is_in_force, with_context, with_derivation, without_block}
use Rattle.eo_cert.specs.Assignments.{Given, assigned, names, given}
use Rattle.eo_cert.specs.Blocks.{same_outcome, ended}

-- ---- contexts, and what holds in them

abbrev pub is_typed : TypeOutcome Tree → (Tree → Bool) → Bool
is_typed (Typed t) test = test t
is_typed _ test = false

-- a value of type `Bool`
abbrev pub is_formula : Signature → Tree → Bool
is_formula S t = is_value t && is_typed (type_of S t) (λ u. tree_eq u bool_tree)

abbrev pub inside : ℕ → Context → Tree → Context
inside c context t = record { outer = c ∷ context.outer; assumed = t ∷ context.assumed }

-- a context inside another one, whose assumption is a formula
unfoldable pub context_line : Stated → (context term : ℕ) → Option Stated
context_line st c n = do
  context ← context_at st c
  t ← term_at st n
  _ ← when (is_formula (signature st) t)
  Some (with_context st (inside c context t))

-- what is asserted, or assumed in the context or around it
unfoldable pub cited_line : Stated → (context term : ℕ) → Option Stated
cited_line st c n = do
  context ← context_at st c
  t ← term_at st n
  _ ← when (is_in_force st context t)
  Some (with_derivation st c t)

-- ---- an instance of a rule, by the trees that its parameters become

-- whether each parameter that occurs outside every operator passes the test
abbrev pub openly_only : (ℕ → Bool) → Tree → Bool
openly_only test (Con k) = true
openly_only test (Num z) = true
openly_only test (Bits w v) = true
openly_only test (Str s) = true
openly_only test (Par i) = test i
openly_only test (Var s t) = openly_only test t
openly_only test (App f x) = openly_only test f && openly_only test x
openly_only test (Arr a b) = openly_only test a && openly_only test b
openly_only test (Qar i t b) = openly_only test t && openly_only test b
openly_only test (Op c ts) = true

-- whether each parameter passes the test that has a value once those of the list, whose first has number i, are taken from the last to the first
abbrev pub all_known : (ℕ → Bool) → List Tree → ℕ → List Parameter → Bool
all_known test patterns i [] = list_all (uses_only test) patterns
all_known test patterns i (p ∷ ps) =
    all_known test patterns (suc i) ps && (not (known patterns (suc i) ps i) || openly_only test p.type)

-- just the parameters that get values are given
abbrev pub gives_solved : Rule → Given → Bool
gives_solved r qs = list_all (λ q. is_solved r q.0) qs && all_known (names qs) (rule_patterns r) 0 r.parameters

abbrev pub are_spelled : Tree → Given → ℕ → List Tree → Option Tree → Bool
are_spelled pattern qs f premises None = false
are_spelled pattern qs f premises (Some n) =
    not (is_tall (spell (Con f) n premises)) && tree_eq (put (assigned qs) pattern) (spell (Con f) n premises)

-- the premises are what the patterns become, one for each, or all joined into one list
abbrev pub premises_fit : Signature → PremiseShape → List Tree → Given → Bool
premises_fit S (Each ps) premises qs = pointwise tree_eq (map (put (assigned qs)) ps) premises
premises_fit S (Joined p f) premises qs = are_spelled p qs f premises (terminator S f)

-- the value of parameter i has the declared type, with the values substituted
abbrev pub value_fits : Signature → Rule → Given → ℕ → Tree → Option Tree → Bool
value_fits S r qs i declared None = true
value_fits S r qs i declared (Some value) =
    is_typed (value_type S value) (λ type. is_typed (settled (put (restricted (known_before r i) (assigned qs)) declared)) (λ expected. is_plain expected && tree_eq (put (assigned qs) expected) type))

-- the values of the parameters, of which the first has number i
abbrev pub values_fit : Signature → Rule → Given → ℕ → List Parameter → Bool
values_fit S r qs i [] = true
values_fit S r qs i (p ∷ ps) = value_fits S r qs i p.type (assigned qs i) && values_fit S r qs (suc i) ps

-- the assumption, the premises and the arguments are what the rule's patterns become, and the values have their types
abbrev pub fits_rule : Signature → Rule → Option Tree → List Tree → List Tree → Given → Bool
fits_rule S r hypothesis premises arguments qs =
    gives_solved r qs && (same_outcome (option_map (put (assigned qs)) r.assumed) hypothesis && (premises_fit S r.premises premises qs
    && (pointwise tree_eq (map (put (assigned qs)) r.arguments) arguments && values_fit S r qs 0 r.parameters)))

-- ---- steps

-- where the premises hold, and what the rule discharges there
pub record Place : Type 0 where
  pub number : ℕ
  pub context : Context
  pub hypothesis : Option Tree

abbrev pub is_first : ℕ → List ℕ → Bool
is_first c [] = false
is_first c (d ∷ ds) = nat_eq c d

-- the context itself, or one right inside it whose assumption is discharged
abbrev pub place_of : Stated → ℕ → Option ℕ → Option Place
place_of st c None = do
  context ← context_at st c
  Some (record { number = c; context = context; hypothesis = None })
place_of st c (Some x) = do
  context ← context_at st x
  _ ← when (is_first c context.outer)
  t ← slice_get context.assumed 0
  Some (record { number = x; context = context; hypothesis = Some t })

-- the formula of a derivation that holds there
abbrev pub premise : Stated → Place → ℕ → Option Tree
premise st place n = do
  d ← derivation_at st n
  _ ← when (reaches place.number place.context d.context)
  Some d.formula

-- A use of a rule that is not marked as unproved. The evaluation of its conclusion is not too deep.
unfoldable pub step_line : Stated → StepLine → Option Stated
step_line st line = do
  place ← place_of st line.context line.inner
  rule ← rule_at (signature st) line.rule
  premises ← each (premise st place) line.premises
  arguments ← terms_at st line.arguments
  qs ← given st line.pairs
  guarded ← term_at st line.guarded
  formula ← term_at st line.formula
  _ ← when (not rule.sorry && list_all is_value arguments)
  _ ← when (fits_rule (signature st) rule place.hypothesis premises arguments qs)
  _ ← when (tree_eq guarded (put (assigned qs) (guarded_conclusion rule)))
  r ← ended st guarded line.line
  _ ← when (same_outcome r.0 (Some formula) && nat_le r.1 open_calls_limit)
  _ ← when (is_formula (signature st) formula)
  Some (without_block (with_derivation st line.context formula))
