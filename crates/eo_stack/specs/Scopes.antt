-- The values of parameters while the bodies of calls are evaluated, and the terms that are evaluated with them.
use Rattle.std.specs.Prelude.{◌≡◌, ℕ, zero, suc, ◌<◌, ◌≤◌, true, List, [], ◌++◌, length, take, drop, Option, Some, None, option_map, slice_get, slice_index_or}
use Rattle.std.specs.Option.{option_flatten}
use Rattle.eo_term.specs.Tree.{Tree, is_value, height}
use Rattle.eo_term.specs.Terms.{tree_at}
use Rattle.eo_sig.specs.Signature.{Signature}
use Rattle.eo_pattern.specs.Matching.{Assignment, empty, put}
use Rattle.eo_stack.specs.Evaluation.{Call, Begun}
use Rattle.eo_stack.specs.Bodies.{assignment_of}

-- A place for each parameter of the calls that wait for their bodies, the last call's from `base` on. That is the call before `here`, or none.
pub record Bound : Type 0 where
  pub slots : List (Option ℕ)
  pub base : ℕ
  pub here : ℕ

abbrev pub none_bound : Bound
none_bound = record { slots = []; base = 0; here = 0 }

abbrev pub slot_at : Bound → ℕ → Option ℕ
slot_at s i = option_flatten (slice_get (drop s.base s.slots) i)

-- the value of each parameter, over a list of trees
abbrev pub standing : List Tree → Bound → Assignment
standing ts s i = option_map (tree_at ts) (slot_at s i)

-- the tree that is evaluated for a term
abbrev pub entered : List Tree → Bound → ℕ → Tree
entered ts s i = put (standing ts s) (tree_at ts i)

-- where one more call waits for its body
abbrev pub inner : Bound → ℕ → List (Option ℕ) → Bound
inner s here more = record { slots = s.slots ++ more; base = length s.slots; here = here }

-- where the last call has ended
abbrev pub outer : Bound → ℕ → ℕ → Bound
outer s base here = record { slots = take s.base s.slots; base = base; here = here }

-- a value is there, or none
abbrev pub IsValueSlot : List Tree → Option ℕ → Type 0
IsValueSlot ts None = Unit {0}
IsValueSlot ts (Some i) = (i < length ts) × (is_value (tree_at ts i) ≡ true)

-- the same, of a value that is no taller than h
abbrev pub IsLightSlot : List Tree → ℕ → Option ℕ → Type 0
IsLightSlot ts h None = Unit {0}
IsLightSlot ts h (Some i) = IsValueSlot ts (Some i) × (height (tree_at ts i) ≤ h)

abbrev pub call_at : Begun → ℕ → Call
call_at b i = slice_index_or b i (record { program = 0; arguments = [] })

-- the values of the parameters of the call before a number, or none
abbrev pub assignment_here : Signature → Begun → ℕ → Assignment
assignment_here S b zero = empty
assignment_here S b (suc place) = assignment_of S (call_at b place)

-- the values of parameters are those
pub record IsScope (S : Signature) (ts : List Tree) (b : Begun) (s : Bound) : Type 0 where
  pub begun : s.here ≤ length b
  pub agrees : standing ts s ≡ assignment_here S b s.here
