-- Evaluation gives values, none of them too tall, in a signature whose terminators are values.
use Rattle.std.specs.Prelude.{◌≡◌, ℕ, zero, suc, Bool, true, false, if◌then◌else◌, List, [], ◌∷◌, length, Option, Some, None, is_some, refl}
use Rattle.std.specs.List.{list_all}
use Rattle.std.proofs.Common.{ap, subst}
use Rattle.eo_base.proofs.Tests.{both, join, clash}
use Rattle.eo_base.specs.Limits.{open_calls_limit, calls_limit}
use Rattle.eo_term.specs.declared.OpName.{OpName}
use Rattle.eo_term.specs.declared.OpCode.{OpCode}
use Rattle.eo_term.specs.Tree.{Tree, Con, Num, Bits, Str, Par, Var, App, Arr, Qar, Op, Trees, NoTree, More, truth, is_tall, is_value, tree_eq}
use Rattle.eo_term.specs.Terms.{Terms, tree_at}
use Rattle.eo_ops.specs.Operators.{OpAnswer, Gives, IsStuck, IsOutOfRange, tree_op_value}
use Rattle.eo_sig.specs.Signature.{Signature, terminator}
use Rattle.eo_sig.specs.Usable.{IsUsable}
use Rattle.eo_lists.specs.Lists.{list_value}
use Rattle.eo_lists.proofs.Values.{list_value_value}
use Rattle.eo_type.specs.Types.{TypeOutcome, Typed, Untyped, TypeRange, TypeTall, typed_answer, chosen, value_type}
use Rattle.eo_eval.proofs.OperatorValues.{value_type_value, tree_op_values}
use Rattle.eo_stack.specs.Evaluation.{Outcome, Value, Stuck, Deep, Calls, Range, Tall, Call, Begun, Eval, ends, on_outcome, on_value, or_none, node, are_equal, typed_outcome, answer_value, value_or, operator_value, eval_with, eval_all_with, begin, on_body, body_of, call_within, eval, eval0}
use Rattle.eo_eval.proofs.Yields.{Yields, has_value, value_inj, ends_yields, none_yields, bind_yields}
use Rattle.eo_eval.specs.Outcomes.{MayBeValue}
use Rattle.eo_stack.specs.Reading.{outcome_in, OutcomeBelow}
use Rattle.eo_stack.specs.declared.Outcome as code_outcome
use Rattle.eo_stack.specs.declared.Outcome.TheVariants as outcome

-- a value that is not too tall
abbrev IsFit : Tree → Type 0
IsFit t = (is_value t ≡ true) × (is_tall t ≡ false)

abbrev AreValues : List Tree → Type 0
AreValues ts = list_all is_value ts ≡ true

abbrev Any : {A : Type 0} → A → Type 0
Any a = Unit {0}

node_yields : (t : Tree) → is_value t ≡ true → Yields (node t) IsFit
node_yields t h = by_height (is_tall t) refl
  where
    by_height : (b : Bool) → is_tall t ≡ b → Yields (if b then ends Tall else ends (Value t)) IsFit
    by_height true p = none_yields IsFit Tall refl
    by_height false p = ends_yields IsFit t (h, p)

module _ (S : Signature) (terms : (f : ℕ) (n : Tree) → terminator S f ≡ Some n → is_value n ≡ true) where
  abbrev GivesValue : Outcome Tree → Type 0
  GivesValue o = (u : Tree) → o ≡ Value u → is_value u ≡ true

  same_value : (t : Tree) → is_value t ≡ true → GivesValue (Value t)
  same_value t h u e = subst (λ (x : Tree). is_value x ≡ true) (value_inj t u e) h

  type_values : (o : TypeOutcome Tree) → ((u : Tree) → o ≡ Typed u → is_value u ≡ true) → GivesValue (typed_outcome o)
  type_values (Typed t) h = same_value t (h t refl)
  type_values Untyped h = λ u e. clash (ap has_value e)
  type_values TypeRange h = λ u e. clash (ap has_value e)
  type_values TypeTall h = λ u e. clash (ap has_value e)

  answer_values : (a : OpAnswer Tree) → ((u : Tree) → typed_answer a ≡ Typed u → is_value u ≡ true) → GivesValue (answer_value a)
  answer_values (Gives t) h = same_value t (h t refl)
  answer_values IsStuck h = λ u e. clash (ap has_value e)
  answer_values IsOutOfRange h = λ u e. clash (ap has_value e)

  other_values : (o : OpName) (vs : List Tree) → AreValues vs → GivesValue (value_or (list_value S o vs) (answer_value (tree_op_value o vs)))
  other_values o vs h = by_list (list_value S o vs) refl
    where
      by_list : (l : Option Tree) → list_value S o vs ≡ l → GivesValue (value_or l (answer_value (tree_op_value o vs)))
      by_list None p = answer_values (tree_op_value o vs) (tree_op_values o vs)
      by_list (Some t) p = same_value t (list_value_value S terms o vs t h p)

  operator_values : (o : OpName) (vs : List Tree) → AreValues vs → GivesValue (operator_value S o vs)
  operator_values OpName.Typeof (t ∷ []) h = type_values (value_type S t) (value_type_value S t)
  operator_values OpName.Var (Str s ∷ t ∷ []) h = same_value (Var s t) (both h).0
  operator_values OpName.Nameof (Var s t ∷ []) h = same_value (Str s) refl
  operator_values o vs h = other_values o vs h

  outcome_yields : (o : Outcome Tree) → GivesValue o → Yields (on_outcome o node) IsFit
  outcome_yields (Value t) h = node_yields t (h t refl)
  outcome_yields Stuck h = none_yields IsFit Stuck refl
  outcome_yields Deep h = none_yields IsFit Deep refl
  outcome_yields Calls h = none_yields IsFit Calls refl
  outcome_yields Range h = none_yields IsFit Range refl
  outcome_yields Tall h = none_yields IsFit Tall refl

  if_yields : (b : Bool) (F : Eval Tree) → Yields F IsFit → Yields (if b then F else ends Stuck) IsFit
  if_yields true F h = h
  if_yields false F h = none_yields IsFit Stuck refl

  chosen_yields : (v : Tree) (F G : Eval Tree) → Yields F IsFit → Yields G IsFit → Yields (chosen v F G (ends Stuck)) IsFit
  chosen_yields v F G f g = by_test (tree_eq v (truth true)) (tree_eq v (truth false))
    where
      by_test : (a b : Bool) → Yields (if a then F else (if b then G else ends Stuck)) IsFit
      by_test true b = f
      by_test false true = g
      by_test false false = none_yields IsFit Stuck refl

  truth_fit : (b : Bool) → IsFit (truth b)
  truth_fit true = (refl, refl)
  truth_fit false = (refl, refl)

  module _ (call : Call → Eval Tree) (calls : (x : Call) → Yields (call x) IsFit) where
    abbrev E : Tree → Eval Tree
    E t = eval_with S call t

    mutual
      tree_yields : (t : Tree) → Yields (eval_with S call t) IsFit
      tree_yields (Con k) = ends_yields IsFit (Con k) (refl, refl)
      tree_yields (Num z) = ends_yields IsFit (Num z) (refl, refl)
      tree_yields (Bits w v) = ends_yields IsFit (Bits w v) (refl, refl)
      tree_yields (Str s) = ends_yields IsFit (Str s) (refl, refl)
      tree_yields (Par i) = none_yields IsFit Stuck refl
      tree_yields (Var s t) = bind_yields (E t) (λ u. node (Var s u)) IsFit IsFit (tree_yields t) (λ u p. node_yields (Var s u) p.0)
      tree_yields (App f x) =
          bind_yields (E f) (λ g b. on_value (E x b) (λ y. node (App g y))) IsFit IsFit (tree_yields f)
          (λ g p. bind_yields (E x) (λ y. node (App g y)) IsFit IsFit (tree_yields x) (λ y q. node_yields (App g y) (join p.0 q.0)))
      tree_yields (Arr a b) =
          bind_yields (E a) (λ g c. on_value (E b c) (λ y. node (Arr g y))) IsFit IsFit (tree_yields a)
          (λ g p. bind_yields (E b) (λ y. node (Arr g y)) IsFit IsFit (tree_yields b) (λ y q. node_yields (Arr g y) (join p.0 q.0)))
      tree_yields (Qar i t b) = none_yields IsFit Stuck refl
      tree_yields (Op (OpCode.Builtin OpName.Ite) (More t (More x (More y NoTree)))) =
          bind_yields (E t) (λ v. chosen v (E x) (E y) (ends Stuck)) IsFit IsFit (tree_yields t)
          (λ v p. chosen_yields v (E x) (E y) (tree_yields x) (tree_yields y))
      tree_yields (Op (OpCode.Builtin OpName.Requires) (More x (More y (More t NoTree)))) =
          bind_yields (or_none (E x)) (λ u b. on_value (or_none (E y) b) (λ v. if are_equal u v then E t else ends Stuck)) Any IsFit (λ c v d e. tt)
          (λ u p. bind_yields (or_none (E y)) (λ v. if are_equal u v then E t else ends Stuck) Any IsFit (λ c v d e. tt)
          (λ v q. if_yields (are_equal u v) (E t) (tree_yields t)))
      tree_yields (Op (OpCode.Builtin OpName.IsEq) (More x (More y NoTree))) =
          bind_yields (or_none (E x)) (λ u b. on_value (or_none (E y) b) (λ v. ends (Value (truth (are_equal u v))))) Any IsFit (λ c v d e. tt)
          (λ u p. bind_yields (or_none (E y)) (λ v. ends (Value (truth (are_equal u v)))) Any IsFit (λ c v d e. tt)
          (λ v q. ends_yields IsFit (truth (are_equal u v)) (truth_fit (are_equal u v))))
      tree_yields (Op (OpCode.Builtin OpName.IsOk) (More x NoTree)) =
          bind_yields (or_none (E x)) (λ u. ends (Value (truth (is_some u)))) Any IsFit (λ c v d e. tt)
          (λ u p. ends_yields IsFit (truth (is_some u)) (truth_fit (is_some u)))
      tree_yields (Op (OpCode.Builtin o) ts) =
          bind_yields (eval_all_with S call ts) (λ vs. on_outcome (operator_value S o vs) node) AreValues IsFit (trees_yield ts)
          (λ vs p. outcome_yields (operator_value S o vs) (operator_values o vs p))
      tree_yields (Op (OpCode.Prog p) ts) =
          bind_yields (eval_all_with S call ts) (λ vs. call (record { program = p; arguments = vs })) AreValues IsFit (trees_yield ts)
          (λ vs q. calls (record { program = p; arguments = vs }))

      trees_yield : (ts : Trees) → Yields (eval_all_with S call ts) AreValues
      trees_yield NoTree = ends_yields AreValues [] refl
      trees_yield (More t ts) =
          bind_yields (E t) (λ v b. on_value (eval_all_with S call ts b) (λ vs. ends (Value (v ∷ vs)))) IsFit AreValues (tree_yields t)
          (λ v p. bind_yields (eval_all_with S call ts) (λ vs. ends (Value (v ∷ vs))) AreValues AreValues (trees_yield ts)
          (λ vs q. ends_yields AreValues (v ∷ vs) (join p.0 q)))

  body_yields : (body : Option Tree) (F : Tree → Eval Tree) → ((t : Tree) → Yields (F t) IsFit) → Yields (on_body body F) IsFit
  body_yields None F h = none_yields IsFit Stuck refl
  body_yields (Some t) F h = by_height (is_tall t)
    where
      by_height : (b : Bool) → Yields (if b then ends Tall else F t) IsFit
      by_height true = none_yields IsFit Tall refl
      by_height false = h t

  call_yields : (most open_left : ℕ) (x : Call) → Yields (call_within S most open_left x) IsFit
  call_yields most zero x = none_yields IsFit Deep refl
  call_yields most (suc open_left) x =
      bind_yields (begin most x) (λ _. on_body (body_of S x) (eval_with S (call_within S most open_left))) Any IsFit (λ c v d e. tt)
      (λ u p. body_yields (body_of S x) (eval_with S (call_within S most open_left)) (tree_yields (call_within S most open_left) (call_yields most open_left)))

  pub eval_value : (most open_left : ℕ) (t : Tree) (c : Begun) (v : Tree) (d : Begun) → eval S most open_left t c ≡ (Value v, d) → (is_value v ≡ true) × (is_tall v ≡ false)
  eval_value most open_left t = tree_yields (call_within S most open_left) (call_yields most open_left) t

  -- a whole evaluation, which begins without calls
  pub eval0_fit : (t v : Tree) → eval0 S t ≡ Value v → IsFit v
  eval0_fit t v e =
      let whole = eval S calls_limit open_calls_limit t [] in
      eval_value calls_limit open_calls_limit t [] v whole.1 (ap (λ (o : Outcome Tree). (o, whole.1)) e)

-- What an evaluation gives is a value, and not too tall.
pub told_value : (S : Signature) → IsUsable S → (t : Tree) (terms : Terms) (told : code_outcome.Outcome) → eval0 S t ≡ outcome_in terms.trees told → OutcomeBelow (length terms.trees) told → MayBeValue terms told
told_value S usable t terms (outcome.Value i) e live =
    let fit = eval0_fit S usable.terminators t (tree_at terms.trees i) e in
    record { live = live; value = fit.0; low = fit.1 }
told_value S usable t terms _ e live = tt
