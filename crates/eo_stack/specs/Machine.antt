-- Evaluation on a list of what waits: each unfinished node and call, and what it makes of the result that it waits for.
use Rattle.std.specs.Prelude.{◌≡◌, ℕ, ◌≤◌, ◌<◌, if◌then◌else◌, Bool, true, false, List, [], ◌∷◌, ◌++◌, length, Option, Some, is_some}
use Rattle.std.specs.List.{list_any}
use Rattle.eo_term.specs.declared.OpCode.{OpCode}
use Rattle.eo_term.specs.declared.OpName.{OpName}
use Rattle.eo_lists.specs.Lists.{list_value}
use Rattle.eo_ops.specs.Operators.{tree_op_value}
use Rattle.eo_term.specs.Tree.{Tree, Str, Var, App, Arr, Op, Trees, NoTree, More, truth, is_tall}
use Rattle.eo_term.specs.Arguments.{from}
use Rattle.eo_sig.specs.Signature.{Signature}
use Rattle.eo_type.specs.Types.{chosen}
use Rattle.eo_stack.specs.Evaluation.{Outcome, Value, Stuck, Deep, Tall, Call, call_eq, Begun, Ended, Eval, ends, on_outcome, on_value, value_or_none, or_none, node, are_equal, answer_value, value_or, operator_value, eval_with, eval_all_with, body_of, call_within, eval}

-- the parts of a node that has its value from those of its parts
abbrev pub parts_of : Tree → Trees
parts_of (Var s t) = More t NoTree
parts_of (App f x) = More f (More x NoTree)
parts_of (Arr a b) = More a (More b NoTree)
parts_of (Op c ts) = ts
parts_of _ = NoTree

-- what waits for the result of a part
pub data Wait : Type 0 where
  Parts : (whole : Tree) (values : List Tree) → Wait
  Choice : (yes no : Tree) → Wait
  Tested : Wait
  EqLeft : (other : Tree) → Wait
  EqRight : (first : Option Tree) → Wait
  RequireLeft : (other next : Tree) → Wait
  RequireRight : (first : Option Tree) (next : Tree) → Wait
  Tail : Wait

-- a part that may be stuck
abbrev pub maybe : Ended Tree → Ended (Option Tree)
maybe e = (value_or_none e.0, e.1)

-- a program call
abbrev pub is_call : Tree → Bool
is_call (Op (OpCode.Prog p) ts) = true
is_call _ = false

-- a tree as a value, unless it is too tall
abbrev pub low_value : Tree → Outcome Tree
low_value t = if is_tall t then Tall else Value t

abbrev pub low_outcome : Outcome Tree → Outcome Tree
low_outcome (Value t) = low_value t
low_outcome o = o

-- the value of an operator on lists or on literals
abbrev pub other_value : Signature → OpName → List Tree → Outcome Tree
other_value S o vs = value_or (list_value S o vs) (answer_value (tree_op_value o vs))

-- the variable that a string and a term make
abbrev pub variable_value : Tree → Tree → Outcome Tree
variable_value (Str s) t = low_value (Var s t)
variable_value _ t = Stuck

-- the name of a variable
abbrev pub name_value : Tree → Outcome Tree
name_value (Var s t) = low_value (Str s)
name_value _ = Stuck

-- what a node other than a call is over the values of its parts
abbrev pub made_of : Signature → Tree → List Tree → Outcome Tree
made_of S (Var s t) (u ∷ []) = low_value (Var s u)
made_of S (App f x) (g ∷ y ∷ []) = low_value (App g y)
made_of S (Arr a b) (c ∷ d ∷ []) = low_value (Arr c d)
made_of S (Op (OpCode.Builtin o) ts) vs = low_outcome (operator_value S o vs)
made_of S _ vs = Stuck

module _ (S : Signature) (call : Call → Eval Tree) where
  -- what a node makes of the values of its parts
  abbrev pub made : Tree → List Tree → Eval Tree
  made (Var s t) (u ∷ []) = node (Var s u)
  made (App f x) (g ∷ y ∷ []) = node (App g y)
  made (Arr a b) (c ∷ d ∷ []) = node (Arr c d)
  made (Op (OpCode.Builtin o) ts) vs = on_outcome (operator_value S o vs) node
  made (Op (OpCode.Prog p) ts) vs = call (record { program = p; arguments = vs })
  made _ vs = ends Stuck

  -- what is left of a node whose first parts have these values
  abbrev pub rest_with : Tree → List Tree → Eval Tree
  rest_with t vs begun = on_value (eval_all_with S call (from (length vs) (parts_of t)) begun) (λ ws. made t (vs ++ ws))

  -- what is made of a result that was waited for
  abbrev pub resume_with : Wait → Ended Tree → Ended Tree
  resume_with (Parts t vs) e = on_value e (λ v. rest_with t (vs ++ v ∷ []))
  resume_with (Choice x y) e = on_value e (λ v. chosen v (eval_with S call x) (eval_with S call y) (ends Stuck))
  resume_with Tested e = on_value (maybe e) (λ u. ends (Value (truth (is_some u))))
  resume_with (EqLeft y) e = on_value (maybe e) (λ u b. on_value (or_none (eval_with S call y) b) (λ v. ends (Value (truth (are_equal u v)))))
  resume_with (EqRight u) e = on_value (maybe e) (λ v. ends (Value (truth (are_equal u v))))
  resume_with (RequireLeft y t) e = on_value (maybe e) (λ u b. on_value (or_none (eval_with S call y) b) (λ v. if are_equal u v then eval_with S call t else ends Stuck))
  resume_with (RequireRight u t) e = on_value (maybe e) (λ v. if are_equal u v then eval_with S call t else ends Stuck)
  resume_with Tail e = e

-- an evaluation, by the number of calls that may be open
abbrev pub Family : Type 0
Family = ℕ → Begun → Ended Tree

abbrev pub IsBegun : Begun → Call → Type 0
IsBegun c x = list_any (call_eq x) c ≡ true

abbrev pub Covers : Begun → Begun → Type 0
Covers big small = (x : Call) → IsBegun small x → IsBegun big x

-- After any calls that cover those, F is Deep where fewer than d calls may be open, and else it is G.
abbrev pub Comes : Family → Family → ℕ → Begun → Type 0
Comes F G d begun =
    (k : ℕ) (c : Begun) → Covers c begun → (d ≤ k → F k c ≡ G k c) × (k < d → F k c ≡ (Deep, c))

-- a finished evaluation comes again with this outcome, where d calls may be open
abbrev pub Again : Family → Outcome Tree → ℕ → Begun → Type 0
Again F o d begun = Comes F (λ k c. (o, c)) d begun

-- One thing that waits, with the number of calls that it may open. A node waits with a part, having come as deep as d so far; a call waits for its body.
pub data Frame : Type 0 where
  OfNode : (whole : Tree) (wait : Wait) (deepest open_left : ℕ) → Frame
  OfCall : (called : Call) (body : Tree) → Frame

module _ (S : Signature) (most : ℕ) where
  abbrev pub evals : Tree → Family
  evals t k = eval S most k t

  abbrev pub calls : Call → Family
  calls x k = call_within S most k x

  abbrev pub resume : ℕ → Wait → Ended Tree → Ended Tree
  resume k = resume_with S (call_within S most k)

  -- what all that waits makes of a result
  abbrev pub finish : List Frame → Ended Tree → Ended Tree
  finish [] e = e
  finish (OfNode t w d k ∷ fs) e = finish fs (resume k w e)
  finish (OfCall x body ∷ fs) e = finish fs e

  -- Each thing that waits, waits rightly, where F is what the last one waits for.
  abbrev pub Stacked : Begun → List Frame → Family → Type 0
  Stacked b [] F = Unit {0}
  Stacked b (OfNode t w d k ∷ fs) F = Comes (evals t) (λ j c. resume j w (F j c)) d b × Stacked b fs (evals t)
  Stacked b (OfCall x body ∷ fs) F =
      ((j : ℕ) (c : Begun) → F j c ≡ evals body j c) × ((IsBegun b x × (body_of S x ≡ Some body)) × ((is_tall body ≡ false) × Stacked b fs (calls x)))
