-- Operators on values, by what they are on.
use Rattle.std.specs.Prelude.{◌≡◌, ◌≢◌, ℕ, Bool, true, false, if◌then◌else◌, List, [], ◌∷◌, Option, Some, None, option_and_then, refl}
use Rattle.std.proofs.Common.{sym, ◌∙◌, ap, arith, get_or, map, length}
use Rattle.eo_term.specs.Arguments.{count_of}
use Rattle.eo_term.specs.Terms.{tree_at}
use Rattle.eo_term.specs.declared.OpName.{OpName}
use Rattle.eo_term.specs.declared.OpCode.{OpCode}
use Rattle.eo_term.specs.Tree.{Tree, Str, Var, App, Arr, Op, is_tall}
use Rattle.eo_sig.specs.Signature.{Signature}
use Rattle.eo_lists.specs.Lists.{by_operator, list_value, terminator_of_tree}
use Rattle.eo_lists.specs.Outcomes.{IsListOperator}
use Rattle.eo_ops.specs.Operators.{Literal, OpAnswer, Gives, IsStuck, IsOutOfRange, literals, literal_tree, answer_map, op_value, kind_value, on_literals, tree_op_value}
use Rattle.eo_type.specs.Types.{typed_answer, value_type}
use Rattle.eo_stack.specs.Evaluation.{Outcome, Value, Stuck, Tall, Call, Begun, Eval, ends, node, typed_outcome, answer_value, value_or, on_outcome, operator_value}
use Rattle.eo_stack.specs.Machine.{is_call, low_value, low_outcome, other_value, variable_value, name_value, parts_of, made, made_of}

pub not_listed : (S : Signature) (o : OpName) (vs : List Tree) → ((f n : Tree) (ts : List Tree) → by_operator f n o ts ≡ None) → list_value S o vs ≡ None
not_listed S o [] h = refl
not_listed S o (f ∷ ts) h = by (terminator_of_tree S f)
  where
    by : (t : Option Tree) → option_and_then (λ n. by_operator f n o ts) t ≡ None
    by None = refl
    by (Some n) = h f n ts

stuck_on_literals : (o : OpName) (vs : List Tree) → kind_value o vs ≡ IsStuck → ((ls : List Literal) → op_value o ls ≡ IsStuck) → tree_op_value o vs ≡ IsStuck
stuck_on_literals o vs k h = by (literals vs)
  where
    by : (l : Option (List Literal)) → on_literals o vs l ≡ IsStuck
    by None = k
    by (Some ls) = ap (answer_map literal_tree) (h ls)

nothing : (S : Signature) (o : OpName) (vs : List Tree) → ((f n : Tree) (ts : List Tree) → by_operator f n o ts ≡ None) → kind_value o vs ≡ IsStuck → ((ls : List Literal) → op_value o ls ≡ IsStuck) → other_value S o vs ≡ Stuck
nothing S o vs h k l = λ i. value_or (not_listed S o vs h i) (answer_value (stuck_on_literals o vs k l i))

pub variable_is : (S : Signature) (a b : Tree) → low_outcome (operator_value S OpName.Var (a ∷ b ∷ [])) ≡ variable_value a b
variable_is S (Str s) b = refl
variable_is S a b = ap low_outcome (nothing S OpName.Var (a ∷ b ∷ []) (λ f n ts. refl) refl (λ ls. refl))

pub name_is : (S : Signature) (a : Tree) → low_outcome (operator_value S OpName.Nameof (a ∷ [])) ≡ name_value a
name_is S (Var s t) = refl
name_is S a = ap low_outcome (nothing S OpName.Nameof (a ∷ []) (λ f n ts. refl) refl (λ ls. refl))

type_answer : (a : OpAnswer Tree) → typed_outcome (typed_answer a) ≡ answer_value a
type_answer (Gives t) = refl
type_answer IsStuck = refl
type_answer IsOutOfRange = refl

-- any other one gives nothing on lists
pub literal_operator : (S : Signature) (o : OpName) (vs : List Tree) → (IsListOperator o → ⊥) → other_value S o vs ≡ typed_outcome (typed_answer (tree_op_value o vs))
literal_operator S o vs h = ap (λ l. value_or l (answer_value (tree_op_value o vs))) (not_listed S o vs (none o h)) ∙ sym (type_answer (tree_op_value o vs))
  where
    none : (o : OpName) → (IsListOperator o → ⊥) → (f n : Tree) (ts : List Tree) → by_operator f n o ts ≡ None
    none OpName.Nil h f n ts = absurd (h refl)
    none OpName.Cons h f n ts = absurd (h refl)
    none OpName.ListLen h f n ts = absurd (h refl)
    none OpName.ListConcat h f n ts = absurd (h refl)
    none OpName.ListNth h f n ts = absurd (h refl)
    none OpName.ListFind h f n ts = absurd (h refl)
    none OpName.ListRev h f n ts = absurd (h refl)
    none OpName.ListErase h f n ts = absurd (h refl)
    none OpName.ListSetof h f n ts = absurd (h refl)
    none OpName.ListMinclude h f n ts = absurd (h refl)
    none o h f n ts = refl

-- one that has no case of its own
pub other_is : (S : Signature) (o : OpName) (vs : List Tree) → o ≢ OpName.Typeof → o ≢ OpName.Var → o ≢ OpName.Nameof → other_value S o vs ≡ operator_value S o vs
other_is S OpName.Typeof vs a b c = absurd (a refl)
other_is S OpName.Var vs a b c = absurd (b refl)
other_is S OpName.Nameof vs a b c = absurd (c refl)
other_is S o vs a b c = refl

-- What a node makes of the values of its parts.
module _ (S : Signature) (call : Call → Eval Tree) (c : Begun) where
  node_is : (t : Tree) → node t c ≡ (low_value t, c)
  node_is t = by (is_tall t)
    where
      by : (b : Bool) → (if b then ends Tall else ends (Value t)) c ≡ (if b then Tall else Value t, c)
      by true = refl
      by false = refl

  outcome_is : (o : Outcome Tree) → on_outcome o node c ≡ (low_outcome o, c)
  outcome_is (Value t) = node_is t
  outcome_is o = refl

  pub made_is : (t : Tree) (vs : List Tree) → is_call t ≡ false → made S call t vs c ≡ (made_of S t vs, c)
  made_is (Var s t) [] h = refl
  made_is (Var s t) (u ∷ []) h = node_is (Var s u)
  made_is (Var s t) (u ∷ v ∷ vs) h = refl
  made_is (App f x) [] h = refl
  made_is (App f x) (g ∷ []) h = refl
  made_is (App f x) (g ∷ y ∷ []) h = node_is (App g y)
  made_is (App f x) (g ∷ y ∷ v ∷ vs) h = refl
  made_is (Arr a b) [] h = refl
  made_is (Arr a b) (g ∷ []) h = refl
  made_is (Arr a b) (g ∷ y ∷ []) h = node_is (Arr g y)
  made_is (Arr a b) (g ∷ y ∷ v ∷ vs) h = refl
  made_is (Op (OpCode.Builtin o) ts) vs h = outcome_is (operator_value S o vs)
  made_is (Op (OpCode.Prog p) ts) vs h = absurd (cc h)
  made_is t vs h = refl

-- What such a node makes, by the ids of the values.
module _ (S : Signature) (ts : List Tree) (t : Tree) (xs : List ℕ) (count : length xs ≡ count_of (parts_of t)) where
  pub var_made : (s : List ℕ) (u : Tree) (a : ℕ) → Var s u ≡ t → a ≡ get_or xs 0 a → low_value (Var s (tree_at ts a)) ≡ made_of S t (map (tree_at ts) xs)
  var_made s u a is at = by xs (omega (arith, count, ap (λ y. count_of (parts_of y)) is)) at ∙ ap (λ y. made_of S y (map (tree_at ts) xs)) is
    where
      by : (ys : List ℕ) → length ys ≡ 1 → a ≡ get_or ys 0 a → low_value (Var s (tree_at ts a)) ≡ made_of S (Var s u) (map (tree_at ts) ys)
      by [] n p = absurd (omega (arith, n))
      by (x ∷ []) n p = ap (λ i. low_value (Var s (tree_at ts i))) p
      by (x ∷ y ∷ ys) n p = absurd (omega (arith, n))

  pub app_made : (f x : Tree) (a b : ℕ) → App f x ≡ t → a ≡ get_or xs 0 a → b ≡ get_or xs 1 b → low_value (App (tree_at ts a) (tree_at ts b)) ≡ made_of S t (map (tree_at ts) xs)
  app_made f x a b is at next = by xs (omega (arith, count, ap (λ y. count_of (parts_of y)) is)) at next ∙ ap (λ y. made_of S y (map (tree_at ts) xs)) is
    where
      by : (ys : List ℕ) → length ys ≡ 2 → a ≡ get_or ys 0 a → b ≡ get_or ys 1 b → low_value (App (tree_at ts a) (tree_at ts b)) ≡ made_of S (App f x) (map (tree_at ts) ys)
      by [] n p q = absurd (omega (arith, n))
      by (y ∷ []) n p q = absurd (omega (arith, n))
      by (y ∷ z ∷ []) n p q = λ i. low_value (App (tree_at ts (p i)) (tree_at ts (q i)))
      by (y ∷ z ∷ w ∷ ys) n p q = absurd (omega (arith, n))

  pub arr_made : (u v : Tree) (a b : ℕ) → Arr u v ≡ t → a ≡ get_or xs 0 a → b ≡ get_or xs 1 b → low_value (Arr (tree_at ts a) (tree_at ts b)) ≡ made_of S t (map (tree_at ts) xs)
  arr_made u v a b is at next = by xs (omega (arith, count, ap (λ y. count_of (parts_of y)) is)) at next ∙ ap (λ y. made_of S y (map (tree_at ts) xs)) is
    where
      by : (ys : List ℕ) → length ys ≡ 2 → a ≡ get_or ys 0 a → b ≡ get_or ys 1 b → low_value (Arr (tree_at ts a) (tree_at ts b)) ≡ made_of S (Arr u v) (map (tree_at ts) ys)
      by [] n p q = absurd (omega (arith, n))
      by (y ∷ []) n p q = absurd (omega (arith, n))
      by (y ∷ z ∷ []) n p q = λ i. low_value (Arr (tree_at ts (p i)) (tree_at ts (q i)))
      by (y ∷ z ∷ w ∷ ys) n p q = absurd (omega (arith, n))

-- The same by the ids of the arguments.
module _ (S : Signature) (ts : List Tree) where
  pub variable_given : (xs : List ℕ) (a b : ℕ) → length xs ≡ 2 → a ≡ get_or xs 0 a → b ≡ get_or xs 1 b → variable_value (tree_at ts a) (tree_at ts b) ≡ low_outcome (operator_value S OpName.Var (map (tree_at ts) xs))
  variable_given [] a b n p q = absurd (omega (arith, n))
  variable_given (x ∷ []) a b n p q = absurd (omega (arith, n))
  variable_given (x ∷ y ∷ []) a b n p q = (λ i. variable_value (tree_at ts (p i)) (tree_at ts (q i))) ∙ sym (variable_is S (tree_at ts x) (tree_at ts y))
  variable_given (x ∷ y ∷ z ∷ zs) a b n p q = absurd (omega (arith, n))

  pub type_given : (xs : List ℕ) (a : ℕ) → length xs ≡ 1 → a ≡ get_or xs 0 a → low_outcome (typed_outcome (value_type S (tree_at ts a))) ≡ low_outcome (operator_value S OpName.Typeof (map (tree_at ts) xs))
  type_given [] a n p = absurd (omega (arith, n))
  type_given (x ∷ []) a n p = ap (λ i. low_outcome (typed_outcome (value_type S (tree_at ts i)))) p
  type_given (x ∷ y ∷ zs) a n p = absurd (omega (arith, n))

  pub name_given : (xs : List ℕ) (a : ℕ) → length xs ≡ 1 → a ≡ get_or xs 0 a → name_value (tree_at ts a) ≡ low_outcome (operator_value S OpName.Nameof (map (tree_at ts) xs))
  name_given [] a n p = absurd (omega (arith, n))
  name_given (x ∷ []) a n p = ap (λ i. name_value (tree_at ts i)) p ∙ sym (name_is S (tree_at ts x))
  name_given (x ∷ y ∷ zs) a n p = absurd (omega (arith, n))
