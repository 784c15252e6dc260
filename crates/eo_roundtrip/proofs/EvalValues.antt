-- The value of a tree within its ranges is one and not too tall, in a signature of such trees.
use Rattle.std.specs.Prelude.{◌≡◌, ℕ, zero, suc, ◌≤◌, Bool, true, false, not, if◌then◌else◌, List, [], ◌∷◌, Option, Some, None, is_some, option_map, option_and_then, refl}
use Rattle.std.specs.List.{list_all}
use Rattle.std.specs.Option.{option_or}
use Rattle.std.proofs.Common.{ap, sym, ◌∙◌, true≢false}
use Rattle.std.proofs.lemmas.Bool.{cases_lt, lt-ltb}
use Rattle.std.proofs.Common.{inl, inr}
use Rattle.eo_base.proofs.Tests.{both, join}
use Rattle.eo_base.specs.Limits.{height_limit, open_calls_limit, calls_limit}
use Rattle.eo_term.specs.declared.OpName.{OpName}
use Rattle.eo_term.specs.declared.OpCode.{OpCode}
use Rattle.eo_term.specs.Tree.{Tree, Con, Num, Bits, Str, Par, Var, App, Arr, Qar, Op, Trees, NoTree, More, truth, height, is_tall, tree_eq}
use Rattle.eo_sig.specs.Signature.{Signature, Case, Program, program_at}
use Rattle.eo_pattern.specs.Matching.{Assignment, empty, put, matching}
use Rattle.eo_ops.specs.Operators.{OpAnswer, Gives, IsStuck, IsOutOfRange, tree_op_value}
use Rattle.eo_lists.specs.Lists.{list_value}
use Rattle.eo_type.specs.Types.{TypeOutcome, Typed, Untyped, TypeRange, TypeTall, chosen, value_type}
use Rattle.eo_stack.specs.Evaluation.{Outcome, Value, Stuck, Deep, Calls, Range, Tall, Call, Eval, ends, on_outcome, on_value, or_none, node, are_equal, typed_outcome, answer_value, value_or, operator_value, eval_with, eval_all_with, begin, first_match, on_body, body_of, call_within, eval, eval0}
use Rattle.eo_eval.proofs.Yields.{Yields, ends_yields, none_yields, bind_yields, body_yields}
use Rattle.eo_roundtrip.proofs.Within.{is_within, all_within, is_fit, signature_within}
use Rattle.eo_roundtrip.proofs.Ranges.{IsWithin, AreWithin, GivesWithin, operators-within}
use Rattle.eo_roundtrip.proofs.Puts.{SomeWithin, some-within, puts-none, put-within, matching-puts}
use Rattle.eo_roundtrip.proofs.ListValues.{AreLow, list-values}
use Rattle.eo_roundtrip.proofs.TypeValues.{Holds, value-type-within, terminator-within, program-within}

abbrev pub IsFit : Tree → Type 0
IsFit t = is_fit t ≡ true

abbrev AreFit : List Tree → Type 0
AreFit ts = list_all is_fit ts ≡ true

abbrev Any : {A : Type 0} → A → Type 0
Any a = Unit {0}

pub fit-within : (t : Tree) → IsFit t → IsWithin t
fit-within t h = (both h).0

pub fit-low : (t : Tree) → IsFit t → height t ≤ height_limit
fit-low t h = elim (cases_lt height_limit (height t)) [
  | inl tall ↦ absurd (none (lt-ltb height_limit (height t) tall) (both h).1)
  | inr low ↦ low
]
  where
    none : is_tall t ≡ true → not (is_tall t) ≡ true → ⊥
    none e f = true≢false (sym f ∙ ap not e)

all-within : (ts : List Tree) → AreFit ts → AreWithin ts
all-within [] h = refl
all-within (t ∷ ts) h = join (both (both h).0).0 (all-within ts (both h).1)

all-low : (ts : List Tree) → AreFit ts → AreLow ts
all-low [] h = tt
all-low (t ∷ ts) h = (fit-low t (both h).0, all-low ts (both h).1)

node-fits : (t : Tree) → IsWithin t → Yields (node t) IsFit
node-fits t h = by_height (is_tall t) refl
  where
    by_height : (b : Bool) → is_tall t ≡ b → Yields (if b then ends Tall else ends (Value t)) IsFit
    by_height true p = none_yields IsFit Tall refl
    by_height false p = ends_yields IsFit t (join h (ap not p))

truth-fits : (b : Bool) → IsFit (truth b)
truth-fits true = refl
truth-fits false = refl

first-fit : (t : Tree) (ts : List Tree) → AreFit (t ∷ ts) → IsFit t
first-fit t ts h = (both h).0

rest-fit : (t : Tree) (ts : List Tree) → AreFit (t ∷ ts) → AreFit ts
rest-fit t ts h = (both h).1

variable-within : (s : List ℕ) (t : Tree) → IsWithin (Str s) → IsWithin t → IsWithin (Var s t)
variable-within s t h k = join h k

name-within : (s : List ℕ) (t : Tree) → IsWithin (Var s t) → IsWithin (Str s)
name-within s t h = (both h).0

-- ---- operators

abbrev OutcomeWithin : Outcome Tree → Type 0
OutcomeWithin (Value t) = IsWithin t
OutcomeWithin Stuck = Unit {0}
OutcomeWithin Deep = Unit {0}
OutcomeWithin Calls = Unit {0}
OutcomeWithin Range = Unit {0}
OutcomeWithin Tall = Unit {0}

outcome-fits : (o : Outcome Tree) → OutcomeWithin o → Yields (on_outcome o node) IsFit
outcome-fits (Value t) h = node-fits t h
outcome-fits Stuck h = none_yields IsFit Stuck refl
outcome-fits Deep h = none_yields IsFit Deep refl
outcome-fits Calls h = none_yields IsFit Calls refl
outcome-fits Range h = none_yields IsFit Range refl
outcome-fits Tall h = none_yields IsFit Tall refl

type-values : (o : TypeOutcome Tree) → Holds IsWithin o → OutcomeWithin (typed_outcome o)
type-values (Typed t) h = h
type-values Untyped h = tt
type-values TypeRange h = tt
type-values TypeTall h = tt

answer-values : (a : OpAnswer Tree) → GivesWithin a → OutcomeWithin (answer_value a)
answer-values (Gives t) h = h
answer-values IsStuck h = tt
answer-values IsOutOfRange h = tt

some-values : (o : Option Tree) (other : Outcome Tree) → SomeWithin o → OutcomeWithin other → OutcomeWithin (value_or o other)
some-values None other h k = k
some-values (Some t) other h k = h

module _ (S : Signature) (within : signature_within S ≡ true) where
  other-values : (o : OpName) (vs : List Tree) → AreFit vs → OutcomeWithin (value_or (list_value S o vs) (answer_value (tree_op_value o vs)))
  other-values o vs h =
      some-values (list_value S o vs) (answer_value (tree_op_value o vs)) (list-values S (terminator-within S within) o vs (all-within vs h) (all-low vs h))
      (answer-values (tree_op_value o vs) (operators-within o vs (all-within vs h)))

  operator-values : (o : OpName) (vs : List Tree) → AreFit vs → OutcomeWithin (operator_value S o vs)
  operator-values OpName.Typeof (t ∷ []) h = type-values (value_type S t) (value-type-within S within t (fit-within t (first-fit t [] h)))
  operator-values OpName.Var (Str s ∷ t ∷ []) h =
      variable-within s t (fit-within (Str s) (first-fit (Str s) (t ∷ []) h)) (fit-within t (first-fit t [] (rest-fit (Str s) (t ∷ []) h)))
  operator-values OpName.Nameof (Var s t ∷ []) h = name-within s t (fit-within (Var s t) (first-fit (Var s t) [] h))
  operator-values o vs h = other-values o vs h

  -- ---- program calls

  first-within : (cs : List Case) (vs : List Tree) → list_all (λ (c : Case). is_within c.body) cs ≡ true → AreWithin vs → SomeWithin (first_match cs vs)
  first-within [] vs h k = tt
  first-within (c ∷ cs) vs h k = by_match (matching empty c.patterns vs) refl (first-within cs vs (both h).1 k)
    where
      by_match : (o : Option Assignment) → matching empty c.patterns vs ≡ o → SomeWithin (first_match cs vs) → SomeWithin (option_or (option_map (λ σ. put σ c.body) o) (first_match cs vs))
      by_match None e l = l
      by_match (Some σ) e l = put-within σ (matching-puts empty c.patterns vs σ puts-none k e) c.body (both h).0

  body-within : (x : Call) → AreFit x.arguments → SomeWithin (body_of S x)
  body-within x h = by_program (program_at S x.program) refl
    where
      by_program : (o : Option Program) → program_at S x.program ≡ o → SomeWithin (option_and_then (λ p. first_match p.cases x.arguments) o)
      by_program None e = tt
      by_program (Some p) e = first-within p.cases x.arguments (program-within S within x.program p e) (all-within x.arguments h)

  -- ---- evaluation

  if-fits : (b : Bool) (F : Eval Tree) → Yields F IsFit → Yields (if b then F else ends Stuck) IsFit
  if-fits true F h = h
  if-fits false F h = none_yields IsFit Stuck refl

  chosen-fits : (v : Tree) (F G : Eval Tree) → Yields F IsFit → Yields G IsFit → Yields (chosen v F G (ends Stuck)) IsFit
  chosen-fits v F G f g = by_test (tree_eq v (truth true)) (tree_eq v (truth false))
    where
      by_test : (a b : Bool) → Yields (if a then F else (if b then G else ends Stuck)) IsFit
      by_test true b = f
      by_test false true = g
      by_test false false = none_yields IsFit Stuck refl

  module _ (call : Call → Eval Tree) (calls : (x : Call) → AreFit x.arguments → Yields (call x) IsFit) where
    abbrev E : Tree → Eval Tree
    E t = eval_with S call t

    mutual
      tree-fits : (t : Tree) → IsWithin t → Yields (eval_with S call t) IsFit
      tree-fits (Con k) h = ends_yields IsFit (Con k) refl
      tree-fits (Num z) h = ends_yields IsFit (Num z) (join h refl)
      tree-fits (Bits w v) h = ends_yields IsFit (Bits w v) (join h refl)
      tree-fits (Str s) h = ends_yields IsFit (Str s) (join h refl)
      tree-fits (Par i) h = none_yields IsFit Stuck refl
      tree-fits (Var s t) h = bind_yields (E t) (λ u. node (Var s u)) IsFit IsFit (tree-fits t (both h).1) (λ u p. node-fits (Var s u) (variable-within s u (name-within s t h) (fit-within u p)))
      tree-fits (App f x) h =
          bind_yields (E f) (λ g b. on_value (E x b) (λ y. node (App g y))) IsFit IsFit (tree-fits f (both h).0)
          (λ g p. bind_yields (E x) (λ y. node (App g y)) IsFit IsFit (tree-fits x (both h).1) (λ y q. node-fits (App g y) (join (fit-within g p) (fit-within y q))))
      tree-fits (Arr a b) h =
          bind_yields (E a) (λ g c. on_value (E b c) (λ y. node (Arr g y))) IsFit IsFit (tree-fits a (both h).0)
          (λ g p. bind_yields (E b) (λ y. node (Arr g y)) IsFit IsFit (tree-fits b (both h).1) (λ y q. node-fits (Arr g y) (join (fit-within g p) (fit-within y q))))
      tree-fits (Qar i t b) h = none_yields IsFit Stuck refl
      tree-fits (Op (OpCode.Builtin OpName.Ite) (More t (More x (More y NoTree)))) h =
          bind_yields (E t) (λ v. chosen v (E x) (E y) (ends Stuck)) IsFit IsFit (tree-fits t (both h).0)
          (λ v p. chosen-fits v (E x) (E y) (tree-fits x (both (both h).1).0) (tree-fits y (both (both (both h).1).1).0))
      tree-fits (Op (OpCode.Builtin OpName.Requires) (More x (More y (More t NoTree)))) h =
          bind_yields (or_none (E x)) (λ u b. on_value (or_none (E y) b) (λ v. if are_equal u v then E t else ends Stuck)) Any IsFit (λ c v d e. tt)
          (λ u p. bind_yields (or_none (E y)) (λ v. if are_equal u v then E t else ends Stuck) Any IsFit (λ c v d e. tt)
          (λ v q. if-fits (are_equal u v) (E t) (tree-fits t (both (both (both h).1).1).0)))
      tree-fits (Op (OpCode.Builtin OpName.IsEq) (More x (More y NoTree))) h =
          bind_yields (or_none (E x)) (λ u b. on_value (or_none (E y) b) (λ v. ends (Value (truth (are_equal u v))))) Any IsFit (λ c v d e. tt)
          (λ u p. bind_yields (or_none (E y)) (λ v. ends (Value (truth (are_equal u v)))) Any IsFit (λ c v d e. tt)
          (λ v q. ends_yields IsFit (truth (are_equal u v)) (truth-fits (are_equal u v))))
      tree-fits (Op (OpCode.Builtin OpName.IsOk) (More x NoTree)) h =
          bind_yields (or_none (E x)) (λ u. ends (Value (truth (is_some u)))) Any IsFit (λ c v d e. tt)
          (λ u p. ends_yields IsFit (truth (is_some u)) (truth-fits (is_some u)))
      tree-fits (Op (OpCode.Builtin o) ts) h =
          bind_yields (eval_all_with S call ts) (λ vs. on_outcome (operator_value S o vs) node) AreFit IsFit (trees-fit ts h)
          (λ vs p. outcome-fits (operator_value S o vs) (operator-values o vs p))
      tree-fits (Op (OpCode.Prog p) ts) h =
          bind_yields (eval_all_with S call ts) (λ vs. call (record { program = p; arguments = vs })) AreFit IsFit (trees-fit ts h)
          (λ vs q. calls (record { program = p; arguments = vs }) q)

      trees-fit : (ts : Trees) → all_within ts ≡ true → Yields (eval_all_with S call ts) AreFit
      trees-fit NoTree h = ends_yields AreFit [] refl
      trees-fit (More t ts) h =
          bind_yields (E t) (λ v b. on_value (eval_all_with S call ts b) (λ vs. ends (Value (v ∷ vs)))) IsFit AreFit (tree-fits t (both h).0)
          (λ v p. bind_yields (eval_all_with S call ts) (λ vs. ends (Value (v ∷ vs))) AreFit AreFit (trees-fit ts (both h).1)
          (λ vs q. ends_yields AreFit (v ∷ vs) (join p q)))

  call-fits : (most open_left : ℕ) (x : Call) → AreFit x.arguments → Yields (call_within S most open_left x) IsFit
  call-fits most zero x h = none_yields IsFit Deep refl
  call-fits most (suc open_left) x h =
      bind_yields (begin most x) (λ _. on_body (body_of S x) (eval_with S (call_within S most open_left))) Any IsFit (λ c v d e. tt)
      (λ u p. body_yields IsFit (body_of S x) (eval_with S (call_within S most open_left))
      (λ t e. tree-fits (call_within S most open_left) (call-fits most open_left) t (some-within (body_of S x) t (body-within x h) e)))

  -- a whole evaluation, which begins without calls
  pub value-fits : (t v : Tree) → IsWithin t → eval0 S t ≡ Value v → IsFit v
  value-fits t v h e =
      let whole = eval S calls_limit open_calls_limit t [] in
      tree-fits (call_within S calls_limit open_calls_limit) (call-fits calls_limit open_calls_limit) t h [] v whole.1 (ap (λ (o : Outcome Tree). (o, whole.1)) e)
