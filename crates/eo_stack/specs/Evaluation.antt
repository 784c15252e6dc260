-- The evaluation of closed terms (Ethos manual, programs): operators, and program calls, of which only so many may be open at once and only so many may differ.
use Rattle.std.specs.Prelude.{ℕ, zero, suc, Bool, false, ◌&&◌, nat_eq, nat_lt, if◌then◌else◌, List, [], ◌∷◌, ◌++◌, length, Option, Some, None, is_some, option_map, option_and_then}
use Rattle.std.specs.List.{list_any}
use Rattle.std.specs.Option.{option_or}
use Rattle.std.specs.Cmp.Lexicographic.{pointwise}
use Rattle.eo_base.specs.Limits.{open_calls_limit, calls_limit}
use Rattle.eo_term.specs.declared.OpName.{OpName}
use Rattle.eo_term.specs.declared.OpCode.{OpCode}
use Rattle.eo_term.specs.Tree.{Tree, Con, Num, Bits, Str, Par, Var, App, Arr, Qar, Op, Trees, NoTree, More, truth, is_tall, tree_eq}
use Rattle.eo_sig.specs.Signature.{Signature, Case, program_at}
use Rattle.eo_pattern.specs.Matching.{empty, put, matching}
use Rattle.eo_ops.specs.Operators.{OpAnswer, Gives, IsStuck, IsOutOfRange, tree_op_value}
use Rattle.eo_lists.specs.Lists.{list_value}
use Rattle.eo_type.specs.Types.{TypeOutcome, Typed, Untyped, TypeRange, TypeTall, chosen, value_type}

-- How evaluation ends: with a value; stuck; or at once, because too many calls are open, too many different calls were begun, a number is out of range, or a tree is too tall.
pub data Outcome (A : Type 0) : Type 0 where
  Value : (value : A) → Outcome A
  Stuck : Outcome A
  Deep : Outcome A
  Calls : Outcome A
  Range : Outcome A
  Tall : Outcome A

-- a program call: the program's number, and the values of its arguments
pub record Call : Type 0 where
  pub program : ℕ
  pub arguments : List Tree

abbrev pub call_eq : Call → Call → Bool
call_eq a b = nat_eq a.program b.program && pointwise tree_eq a.arguments b.arguments

-- the different calls begun so far, in order
abbrev pub Begun : Type 0
Begun = List Call

-- an outcome, with the calls begun by then
abbrev pub Ended : Type 0 → Type 0
Ended A = Outcome A × Begun

-- an evaluation, after some calls were begun
abbrev pub Eval : Type 0 → Type 0
Eval A = Begun → Ended A

abbrev pub ends : {A : Type 0} → Outcome A → Eval A
ends o begun = (o, begun)

-- goes on with a value, and ends with any other outcome
abbrev pub on_outcome : {A B : Type 0} → Outcome A → (A → Eval B) → Eval B
on_outcome (Value v) go = go v
on_outcome Stuck go = ends Stuck
on_outcome Deep go = ends Deep
on_outcome Calls go = ends Calls
on_outcome Range go = ends Range
on_outcome Tall go = ends Tall

abbrev pub on_value : {A B : Type 0} → Ended A → (A → Eval B) → Ended B
on_value e go = on_outcome e.0 go e.1

infixl 1 ◌>>=◌ ◌>>◌
abbrev ◌>>=◌ : {A B : Type 0} → Eval A → (A → Eval B) → Eval B
◌>>=◌ first go begun = on_value (first begun) go

abbrev ◌>>◌ : {A B : Type 0} → Eval A → Eval B → Eval B
first >> next = first >>= λ _. next

-- a value, or none where the evaluation is stuck
abbrev pub value_or_none : {A : Type 0} → Outcome A → Outcome (Option A)
value_or_none (Value v) = Value (Some v)
value_or_none Stuck = Value None
value_or_none Deep = Deep
value_or_none Calls = Calls
value_or_none Range = Range
value_or_none Tall = Tall

abbrev pub or_none : {A : Type 0} → Eval A → Eval (Option A)
or_none first begun = (value_or_none (first begun).0, (first begun).1)

-- a tree as a value, unless it is too tall
abbrev pub node : Tree → Eval Tree
node t = if is_tall t then ends Tall else ends (Value t)

-- Operators on values.

abbrev pub are_equal : Option Tree → Option Tree → Bool
are_equal (Some a) (Some b) = tree_eq a b
are_equal _ _ = false

abbrev pub typed_outcome : TypeOutcome Tree → Outcome Tree
typed_outcome (Typed t) = Value t
typed_outcome Untyped = Stuck
typed_outcome TypeRange = Range
typed_outcome TypeTall = Tall

abbrev pub answer_value : OpAnswer Tree → Outcome Tree
answer_value (Gives t) = Value t
answer_value IsStuck = Stuck
answer_value IsOutOfRange = Range

abbrev pub value_or : Option Tree → Outcome Tree → Outcome Tree
value_or None o = o
value_or (Some t) o = Value t

-- An operator is one on lists or one on literals, and the other kind gives nothing for it.
abbrev pub operator_value : Signature → OpName → List Tree → Outcome Tree
operator_value S OpName.Typeof (t ∷ []) = typed_outcome (value_type S t)
operator_value S OpName.Var (Str s ∷ t ∷ []) = Value (Var s t)
operator_value S OpName.Nameof (Var s t ∷ []) = Value (Str s)
operator_value S o vs = value_or (list_value S o vs) (answer_value (tree_op_value o vs))

-- Evaluation of a tree, where `call` evaluates program calls. Parts are evaluated from left to right.
module _ (S : Signature) (call : Call → Eval Tree) where
  abbrev mutual
    pub eval_with : Tree → Eval Tree
    eval_with (Con k) = ends (Value (Con k))
    eval_with (Num z) = ends (Value (Num z))
    eval_with (Bits w v) = ends (Value (Bits w v))
    eval_with (Str s) = ends (Value (Str s))
    eval_with (Par i) = ends Stuck
    eval_with (Var s t) = do
      u ← eval_with t
      node (Var s u)
    eval_with (App f x) = do
      g ← eval_with f
      y ← eval_with x
      node (App g y)
    eval_with (Arr a b) = do
      c ← eval_with a
      d ← eval_with b
      node (Arr c d)
    eval_with (Qar i t b) = ends Stuck
    eval_with (Op (OpCode.Builtin OpName.Ite) (More t (More x (More y NoTree)))) = do
      v ← eval_with t
      chosen v (eval_with x) (eval_with y) (ends Stuck)
    eval_with (Op (OpCode.Builtin OpName.Requires) (More x (More y (More t NoTree)))) = do
      u ← or_none (eval_with x)
      v ← or_none (eval_with y)
      if are_equal u v then eval_with t else ends Stuck
    eval_with (Op (OpCode.Builtin OpName.IsEq) (More x (More y NoTree))) = do
      u ← or_none (eval_with x)
      v ← or_none (eval_with y)
      ends (Value (truth (are_equal u v)))
    eval_with (Op (OpCode.Builtin OpName.IsOk) (More x NoTree)) = do
      u ← or_none (eval_with x)
      ends (Value (truth (is_some u)))
    eval_with (Op (OpCode.Builtin o) ts) = do
      vs ← eval_all_with ts
      on_outcome (operator_value S o vs) node
    eval_with (Op (OpCode.Prog p) ts) = do
      vs ← eval_all_with ts
      call (record { program = p; arguments = vs })

    pub eval_all_with : Trees → Eval (List Tree)
    eval_all_with NoTree = ends (Value [])
    eval_all_with (More t ts) = do
      v ← eval_with t
      vs ← eval_all_with ts
      ends (Value (v ∷ vs))

-- Program calls.

-- the body of the first case whose patterns match, with the parameters substituted
abbrev pub first_match : List Case → List Tree → Option Tree
first_match [] vs = None
first_match (c ∷ cs) vs =
    option_or (option_map (λ σ. put σ c.body) (matching empty c.patterns vs)) (first_match cs vs)

abbrev pub body_of : Signature → Call → Option Tree
body_of S c = option_and_then (λ p. first_match p.cases c.arguments) (program_at S c.program)

-- Begins a call, where at most so many calls may differ.
abbrev pub begin : ℕ → Call → Eval (Unit {0})
begin most c begun =
    if list_any (call_eq c) begun then (Value tt, begun) else (if nat_lt (length begun) most then (Value tt, begun ++ c ∷ []) else (Calls, begun))

abbrev pub on_body : Option Tree → (Tree → Eval Tree) → Eval Tree
on_body None eval = ends Stuck
on_body (Some t) eval = if is_tall t then ends Tall else eval t

-- A call, where so many calls may differ, and so many more may be open at once.
abbrev pub call_within : Signature → ℕ → ℕ → Call → Eval Tree
call_within S most zero c = ends Deep
call_within S most (suc open_left) c = do
  begin most c
  on_body (body_of S c) (eval_with S (call_within S most open_left))

-- The evaluation of a closed tree, where so many calls may differ, and so many more may be open at once.
abbrev pub eval : Signature → ℕ → ℕ → Tree → Eval Tree
eval S most open_left t = eval_with S (call_within S most open_left) t

-- a whole evaluation, which begins without calls
abbrev pub evaluation : Signature → ℕ → ℕ → Tree → Outcome Tree
evaluation S most open_left t = (eval S most open_left t []).0

abbrev pub eval0 : Signature → Tree → Outcome Tree
eval0 S t = evaluation S calls_limit open_calls_limit t
