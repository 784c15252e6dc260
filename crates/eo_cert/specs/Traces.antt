-- Blocks as such: evaluations each of which is by its rule and by those before it, with the calls that they begin.
use Rattle.std.specs.Prelude.{◌≡◌, ℕ, ◌+◌, ◌≤◌, max, true, false, List, [], ◌∷◌, ◌++◌, length, Option, Some, None, slice_get}
use Rattle.std.specs.List.{list_any}
use Rattle.eo_base.specs.Limits.{calls_limit, open_calls_limit}
use Rattle.eo_term.specs.declared.OpCode.{OpCode}
use Rattle.eo_term.specs.Tree.{Tree, Trees, Op, is_tall, is_closed}
use Rattle.eo_sig.specs.Signature.{Signature}
use Rattle.eo_stack.specs.Evaluation.{Outcome, Value, Stuck, Call, call_eq, Begun, body_of, eval}
use Rattle.eo_cert.specs.Stated.{Evaluated}
use Rattle.eo_cert.specs.Rules.{rule, parts, deepest}
use Rattle.eo_cert.specs.Blocks.{with_new}

abbrev pub IsIn : List Evaluated → Evaluated → Type 0
IsIn es e = (n : ℕ) × (slice_get es n ≡ Some e)

abbrev pub AreIn : List Evaluated → List Evaluated → Type 0
AreIn es [] = Unit {0}
AreIn es (e ∷ listed) = IsIn es e × AreIn es listed

-- an evaluation by its parts
abbrev pub evaluated : Tree → Option Tree → ℕ → Evaluated
evaluated t o d = record { term = t; outcome = o; depth = d }

pub data Block (S : Signature) : List Evaluated → List Call → Type 0 where
  nothing : Block S [] []
  -- one that begins no call
  by_rule : {es : List Evaluated} {calls : List Call} (t : Tree) (o : Option Tree) (listed : List Evaluated) → Block S es calls → AreIn es listed → rule S t listed ≡ Some (o, []) → Block S (es ++ evaluated t o (deepest listed) ∷ []) calls
  -- a call of which no case matches
  by_none : {es : List Evaluated} {calls : List Call} (p : ℕ) (ts : Trees) (vs : List Tree) (listed : List Evaluated) → Block S es calls → AreIn es listed → parts ts listed ≡ Some (Some vs, []) → body_of S (record { program = p; arguments = vs }) ≡ None → Block S (es ++ evaluated (Op (OpCode.Prog p) ts) None (max (deepest listed) 1) ∷ []) (with_new calls (record { program = p; arguments = vs }))
  -- a call by the evaluation of its body
  by_body : {es : List Evaluated} {calls : List Call} (p : ℕ) (ts : Trees) (vs : List Tree) (listed : List Evaluated) (body : Tree) (last : Evaluated) → Block S es calls → AreIn es listed → parts ts listed ≡ Some (Some vs, []) → body_of S (record { program = p; arguments = vs }) ≡ Some body → is_tall body ≡ false → IsIn es last → last.term ≡ body → Block S (es ++ evaluated (Op (OpCode.Prog p) ts) last.outcome (max (deepest listed) (1 + last.depth)) ∷ []) (with_new calls (record { program = p; arguments = vs }))

-- ---- what holds of blocks

-- a tree has one evaluation: one outcome, and one depth
abbrev pub IsOne : List Evaluated → Type 0
IsOne es = (a b : Evaluated) → IsIn es a → IsIn es b → a.term ≡ b.term → a ≡ b

-- all are of trees without parameters
abbrev pub AllClosed : List Evaluated → Type 0
AllClosed es = (e : Evaluated) → IsIn es e → is_closed e.term ≡ true

-- A block in which the tree is evaluated to the value. Its different calls are not too many, and the evaluation is not too deep.
pub record HasBlock (S : Signature) (t v : Tree) : Type 0 where
  pub block : List Evaluated
  pub calls : List Call
  pub is_block : Block S block calls
  pub few : length calls ≤ calls_limit
  pub last : Evaluated
  pub is_in : IsIn block last
  pub term : last.term ≡ t
  pub outcome : last.outcome ≡ Some v
  pub shallow : last.depth ≤ open_calls_limit
  pub closed : AllClosed block

-- ---- an evaluation that goes on, with a block of what it evaluated so far

-- it ends with a value or, where there is none, stuck
abbrev pub of_option : {A : Type 0} → Option A → Outcome A
of_option (Some v) = Value v
of_option None = Stuck

-- the second calls are among the first
abbrev pub Covers : List Call → List Call → Type 0
Covers big small = (x : Call) → list_any (call_eq x) small ≡ true → list_any (call_eq x) big ≡ true

-- Where k calls more may be open and the calls c are begun, which are those of the block and others, the tree is evaluated so, and then the calls d are begun.
pub record IsEvaluated (S : Signature) (es : List Evaluated) (calls : List Call) (t : Tree) (o : Option Tree) (k : ℕ) (c d : Begun) : Type 0 where
  pub low : is_tall t ≡ false
  pub closed : is_closed t ≡ true
  pub is_block : Block S es calls
  pub covers : Covers c calls
  pub ends : eval S calls_limit k t c ≡ (of_option o, d)

-- an evaluation of the block has the same outcome and is no deeper than may be, and the calls of the block are begun still
pub record Serves (e : Evaluated) (calls : List Call) (o : Option Tree) (k : ℕ) (d : Begun) : Type 0 where
  pub outcome : e.outcome ≡ o
  pub shallow : e.depth ≤ k
  pub covers : Covers d calls
