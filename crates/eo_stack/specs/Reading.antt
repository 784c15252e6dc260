-- What waits in the program, over the trees of its terms and the values of parameters.
use Rattle.std.specs.Prelude.{◌≡◌, ℕ, ◌<◌, ◌≤◌, Bool, true, false, nat_eq, All, List, [], ◌∷◌, length, map, take, drop, reverse, Option, Some, None}
use Rattle.eo_term.specs.Tree.{Tree, Par, truth, tree_eq}
use Rattle.eo_term.specs.Terms.{Terms, tree_at}
use Rattle.eo_term.specs.Arguments.{arguments_of, argument_at, count_of}
use Rattle.eo_sig.specs.Signature.{Signature}
use Rattle.eo_stack.specs.Evaluation.{Outcome, Value, Stuck, Deep, Calls, Range, Tall, Call, Begun, Ended, Eval, eval_with}
use Rattle.eo_stack.specs.Machine.{Wait, Parts, Choice, Tested, EqLeft, EqRight, RequireLeft, RequireRight, Tail, rest_with, Family, Again, Stacked, Frame, OfNode, OfCall, evals, calls, finish}
use Rattle.eo_stack.specs.declared.stack.Frame as code_frame
use Rattle.eo_stack.specs.declared.stack.Frame.TheVariants as frame
use Rattle.eo_stack.specs.declared.stack.Control as code_control
use Rattle.eo_stack.specs.declared.stack.Control.TheVariants as next
use Rattle.eo_stack.specs.declared.stack.CallMemo as code_memo
use Rattle.eo_stack.specs.declared.stack.CallMemo.TheVariants as known
use Rattle.eo_stack.specs.declared.calls.CallKey.{CallKey}
use Rattle.eo_stack.specs.declared.calls.LocalKey.{LocalKey}
use Rattle.eo_pattern.specs.Matching.{put}
use Rattle.eo_stack.specs.Scopes.{Bound, entered, outer, assignment_here, IsScope}
pub use Rattle.eo_stack.specs.Scopes.{call_at}
use Rattle.eo_stack.specs.declared.Outcome as code_outcome
use Rattle.eo_stack.specs.declared.Outcome.TheVariants as outcome

-- a node has its value from those of its parts
abbrev pub IsWhole : Tree → Type 0
IsWhole t = (S : Signature) (call : Call → Eval Tree) (b : Begun) → eval_with S call t b ≡ rest_with S call t [] b

-- a parameter
abbrev pub is_par : Tree → Bool
is_par (Par i) = true
is_par _ = false

-- another argument of a term
abbrev pub other : List Tree → Bound → ℕ → ℕ → Tree
other ts s i k = argument_at (arguments_of (entered ts s i)) k

-- The parts of what the code keeps of a thing that waits: its term, ..
abbrev pub node_of : code_frame.Frame → ℕ
node_of (frame.Parts i base d k) = i
node_of (frame.Choice i k) = i
node_of (frame.Tested i) = i
node_of (frame.EqLeft i k) = i
node_of (frame.EqRight i u d) = i
node_of (frame.EqStuck i d) = i
node_of (frame.RequireLeft i k) = i
node_of (frame.RequireRight i u d k) = i
node_of (frame.RequireStuck i d) = i
node_of (frame.Tail i d) = i
node_of (frame.Body place body base here kept) = body

-- .. whether it is a call that waits for the body that is this term, ..
abbrev pub awaits_body : code_frame.Frame → ℕ → Bool
awaits_body (frame.Body place body base here kept) i = nat_eq body i
awaits_body _ i = false

-- .. how deep it has come, ..
abbrev pub deepest_of : code_frame.Frame → ℕ
deepest_of (frame.Parts i base d k) = d
deepest_of (frame.EqRight i u d) = d
deepest_of (frame.EqStuck i d) = d
deepest_of (frame.RequireRight i u d k) = d
deepest_of (frame.RequireStuck i d) = d
deepest_of (frame.Tail i d) = d
deepest_of _ = 0

-- .. how many calls may open, where it asks for that, ..
abbrev pub left_of : code_frame.Frame → ℕ
left_of (frame.Parts i base d k) = k
left_of (frame.Choice i k) = k
left_of (frame.EqLeft i k) = k
left_of (frame.RequireLeft i k) = k
left_of (frame.RequireRight i u d k) = k
left_of _ = 0

-- .. what it waits for, and the values that were collected before it
abbrev pub wait_of : List Tree → Bound → List ℕ → code_frame.Frame → Wait
wait_of ts s vs (frame.Parts i base d k) = Parts (entered ts s i) (map (tree_at ts) (drop base vs))
wait_of ts s vs (frame.Choice i k) = Choice (other ts s i 1) (other ts s i 2)
wait_of ts s vs (frame.Tested i) = Tested
wait_of ts s vs (frame.EqLeft i k) = EqLeft (other ts s i 1)
wait_of ts s vs (frame.EqRight i u d) = EqRight (Some (tree_at ts u))
wait_of ts s vs (frame.EqStuck i d) = EqRight None
wait_of ts s vs (frame.RequireLeft i k) = RequireLeft (other ts s i 1) (other ts s i 2)
wait_of ts s vs (frame.RequireRight i u d k) = RequireRight (Some (tree_at ts u)) (other ts s i 2)
wait_of ts s vs (frame.RequireStuck i d) = RequireRight None (other ts s i 2)
wait_of ts s vs (frame.Tail i d) = Tail
wait_of ts s vs (frame.Body place body base here kept) = Tail

abbrev pub values_before : List ℕ → code_frame.Frame → List ℕ
values_before vs (frame.Parts i base d k) = take base vs
values_before vs _ = vs

-- what waits, the last thing first
abbrev pub waiting : List Tree → Begun → Bound → List code_frame.Frame → List ℕ → List Frame
waiting ts b s [] vs = []
waiting ts b s (frame.Body place body base here kept ∷ fs) vs = OfCall (call_at b place) (entered ts s body) ∷ waiting ts b (outer s base here) fs vs
waiting ts b s (f ∷ fs) vs = OfNode (entered ts s (node_of f)) (wait_of ts s vs f) (deepest_of f) (left_of f) ∷ waiting ts b s fs (values_before vs f)

-- The values of parameters are right for each call that waits.
abbrev pub Scoped : Signature → List Tree → Begun → Bound → List code_frame.Frame → Type 0
Scoped S ts b s [] = IsScope S ts b s
Scoped S ts b s (frame.Body place body base here kept ∷ fs) = IsScope S ts b s × Scoped S ts b (outer s base here) fs
Scoped S ts b s (f ∷ fs) = Scoped S ts b s fs

-- The results that are given to what waits: a value or none.
abbrev pub IsResult : code_control.Control → Type 0
IsResult (next.Value i d) = Unit {0}
IsResult (next.Stuck d) = Unit {0}
IsResult _ = ⊥

abbrev pub result_of : List Tree → code_control.Control → Outcome Tree
result_of ts (next.Value i d) = Value (tree_at ts i)
result_of ts _ = Stuck

abbrev pub given_in : List Tree → code_control.Control → Option Tree
given_in ts (next.Value i d) = Some (tree_at ts i)
given_in ts _ = None

abbrev pub depth_of : code_control.Control → ℕ
depth_of (next.Value i d) = d
depth_of (next.Stuck d) = d
depth_of _ = 0

abbrev pub current : Signature → ℕ → List Tree → Begun → Bound → code_control.Control → Ended Tree
current S most ts b s (next.Eval i k) = evals S most (entered ts s i) k b
current S most ts b s (next.Value i d) = (Value (tree_at ts i), b)
current S most ts b s (next.Stuck d) = (Stuck, b)
current S most ts b s next.Deep = (Deep, b)
current S most ts b s next.Calls = (Calls, b)
current S most ts b s next.Range = (Range, b)
current S most ts b s next.Tall = (Tall, b)

-- what the definition makes of all that waits and of what is done next
abbrev pub told : Signature → ℕ → List Tree → Begun → Bound → List code_frame.Frame → List ℕ → code_control.Control → Ended Tree
told S most ts b s fs vs now = finish S most (waiting ts b s (reverse fs) vs) (current S most ts b s now)

-- a result that comes again, for what waits last
abbrev pub Given : Signature → ℕ → Begun → List Frame → Outcome Tree → ℕ → Type 0
Given S most b ws o d = (F : Family) × (Stacked S most b ws F × Again F o d b)

-- What waits, waits rightly for what is done next.
abbrev pub Waits : Signature → ℕ → List Tree → Begun → Bound → List Frame → code_control.Control → Type 0
Waits S most ts b s ws (next.Eval i k) = Stacked S most b ws (evals S most (entered ts s i))
Waits S most ts b s ws (next.Value i d) = Given S most b ws (Value (tree_at ts i)) d
Waits S most ts b s ws (next.Stuck d) = Given S most b ws Stuck d
Waits S most ts b s ws _ = Unit {0}

-- the calls begun
abbrev pub read_call : List Tree → CallKey → Call
read_call ts k = record { program = k.program; arguments = map (tree_at ts) k.args }

abbrev pub begun : List Tree → List (CallKey × code_memo.CallMemo) → Begun
begun ts es = map (λ e. read_call ts e.0) es

-- what is remembered of an evaluation comes again
abbrev pub IsKnown : List Tree → Begun → Family → code_memo.CallMemo → Type 0
IsKnown ts b F known.Open = Unit {0}
IsKnown ts b F (known.Value i d) = (i < length ts) × Again F (Value (tree_at ts i)) d b
IsKnown ts b F (known.Stuck d) = Again F Stuck d b

-- The tree that a term in the body of a call represents.
abbrev pub local_tree : Signature → List Tree → Begun → LocalKey → Tree
local_tree S ts b k = put (assignment_here S b k.here) (tree_at ts k.id)

-- what is remembered of a term in the body of a call that was begun comes again
pub record IsLocal (S : Signature) (most : ℕ) (ts : List Tree) (b : Begun) (e : LocalKey × code_memo.CallMemo) : Type 0 where
  pub live : e.0.id < length ts
  pub begun : e.0.here ≤ length b
  pub known : IsKnown ts b (evals S most (local_tree S ts b e.0)) e.1

-- All that is remembered comes again.
pub record Remembers (S : Signature) (most : ℕ) (ts : List Tree) (cs : List (CallKey × code_memo.CallMemo)) (es : List (ℕ × code_memo.CallMemo)) (ls : List (LocalKey × code_memo.CallMemo)) : Type 0 where
  pub calls : All (λ e. IsKnown ts (begun ts cs) (calls S most (read_call ts e.0)) e.1) cs
  pub terms : All (λ e. (e.0 < length ts) × IsKnown ts (begun ts cs) (evals S most (tree_at ts e.0)) e.1) es
  pub locals : All (IsLocal S most ts (begun ts cs)) ls

-- the term is there, and has more arguments than so many
abbrev pub HasMore : List Tree → ℕ → ℕ → Type 0
HasMore ts i n = (i < length ts) × (n < count_of (arguments_of (tree_at ts i)))

-- the terms that are named are there, and have the arguments that are asked for later
abbrev pub IsFrame : List Tree → code_frame.Frame → Type 0
IsFrame ts (frame.Parts i base d k) = i < length ts
IsFrame ts (frame.Choice i k) = HasMore ts i 2
IsFrame ts (frame.Tested i) = i < length ts
IsFrame ts (frame.EqLeft i k) = HasMore ts i 1
IsFrame ts (frame.EqRight i u d) = (i < length ts) × (u < length ts)
IsFrame ts (frame.EqStuck i d) = i < length ts
IsFrame ts (frame.RequireLeft i k) = HasMore ts i 2
IsFrame ts (frame.RequireRight i u d k) = HasMore ts i 2 × (u < length ts)
IsFrame ts (frame.RequireStuck i d) = i < length ts
IsFrame ts (frame.Tail i d) = i < length ts
IsFrame ts (frame.Body place body base here kept) = body < length ts

-- a call that waits is among the first n
abbrev pub IsPlaced : ℕ → code_frame.Frame → Type 0
IsPlaced n (frame.Body place body base here kept) = place < n
IsPlaced n _ = Unit {0}

-- a node waits, and no call
abbrev pub IsNode : code_frame.Frame → Type 0
IsNode (frame.Body place body base here kept) = ⊥
IsNode _ = Unit {0}

abbrev pub ControlBelow : ℕ → code_control.Control → Type 0
ControlBelow n (next.Eval i k) = i < n
ControlBelow n (next.Value i d) = i < n
ControlBelow n _ = Unit {0}

abbrev pub outcome_in : List Tree → code_outcome.Outcome → Outcome Tree
outcome_in ts (outcome.Value i) = Value (tree_at ts i)
outcome_in ts outcome.Stuck = Stuck
outcome_in ts outcome.Deep = Deep
outcome_in ts outcome.Calls = Calls
outcome_in ts outcome.Range = Range
outcome_in ts outcome.Tall = Tall

abbrev pub OutcomeBelow : ℕ → code_outcome.Outcome → Type 0
OutcomeBelow n (outcome.Value i) = i < n
OutcomeBelow n _ = Unit {0}

-- the outcome that is told is this one, of a term that is there
pub record IsOutcome (t : Terms) (o : Outcome Tree) (told : code_outcome.Outcome) : Type 0 where
  pub outcome : outcome_in t.trees told ≡ o
  pub live : OutcomeBelow (length t.trees) told

-- what is done next after a node has ended so
abbrev pub control_of : code_outcome.Outcome → ℕ → code_control.Control
control_of (outcome.Value i) d = next.Value i d
control_of outcome.Stuck d = next.Stuck d
control_of outcome.Deep d = next.Deep
control_of outcome.Calls d = next.Calls
control_of outcome.Range d = next.Range
control_of outcome.Tall d = next.Tall

-- neither of the truth values
abbrev pub IsNoTruth : Outcome Tree → Type 0
IsNoTruth (Value v) = (tree_eq v (truth true) ≡ false) × (tree_eq v (truth false) ≡ false)
IsNoTruth Stuck = Unit {0}
IsNoTruth _ = ⊥

-- The same result, of a call whose body it is, with the depth of the call.

abbrev pub deeper : code_control.Control → ℕ → code_control.Control
deeper (next.Value i d) e = next.Value i e
deeper _ e = next.Stuck e

abbrev pub memo_of : code_control.Control → ℕ → code_memo.CallMemo
memo_of (next.Value i d) e = known.Value i e
memo_of _ e = known.Stuck e
