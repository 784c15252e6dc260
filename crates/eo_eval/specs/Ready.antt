-- What each turn of an evaluation finds and leaves.
use Rattle.std.specs.Prelude.{◌≡◌, ℕ, ◌<◌, ◌≤◌, false, max, map, take, drop, All, List, [], ◌∷◌, ◌++◌, length, reverse, Option, Some, None}
use Rattle.eo_base.specs.Limits.{calls_limit}
use Rattle.eo_term.specs.Terms.{Terms, tree_at}
use Rattle.eo_sig.specs.Reading.{Kept, signature}
use Rattle.eo_sig.specs.Usable.{IsUsable}
use Rattle.eo_type.specs.Known.{Fit}
use Rattle.eo_stack.specs.Evaluation.{Outcome, Value, Stuck, Ended, Begun, Call, Eval, on_body, body_of, call_within, eval}
use Rattle.eo_term.specs.Arguments.{argument_at, count_of}
use Rattle.eo_stack.specs.Machine.{parts_of, Family, Frame, Again, Comes, Stacked, evals, calls, finish, rest_with, resume, resume_with}
use Rattle.eo_stack.specs.declared.stack.Control.TheVariants as next
use Rattle.eo_sig.specs.Signature.{Signature}
use Rattle.eo_stack.specs.declared.stack.Frame.TheVariants as frame
use Rattle.eo_term.specs.Tree.{Tree}
use Rattle.eo_stack.specs.Scopes.{Bound, none_bound, entered, IsValueSlot}
use Rattle.eo_stack.specs.Reading.{call_at, is_par, node_of, deepest_of, left_of, wait_of, result_of, depth_of, outcome_in, OutcomeBelow, waiting, Scoped, told, Waits, begun, Remembers, IsFrame, IsPlaced, IsResult, ControlBelow}
use Rattle.eo_stack.specs.declared.stack.Control as code_control
use Rattle.eo_stack.specs.declared.stack.Frame as code_frame
use Rattle.eo_eval.specs.declared.machine.Machine.{Machine}
use Rattle.eo_stack.specs.declared.Outcome as code_outcome

-- what the definition makes of all that a machine holds and of what it does next
abbrev pub outcome_from : Kept → Terms → Machine → code_control.Control → Ended Tree
outcome_from k t e now = told (signature t.trees k) calls_limit t.trees (begun t.trees e.calls.entries) e.scope e.stack.frames.items e.stack.values.items now

-- where each node that collects has its values, which are fewer than its parts
abbrev pub Based : List Tree → List code_frame.Frame → List ℕ → Type 0
Based ts [] vs = Unit {0}
Based ts (frame.Parts i base d k ∷ fs) vs = ((base ≤ length vs) × (length (drop base vs) < count_of (parts_of (tree_at ts i)))) × Based ts fs (take base vs)
Based ts (f ∷ fs) vs = Based ts fs vs

-- What waits, and the values that are collected, are right for what is done next.
pub record Stands (S : Signature) (most : ℕ) (ts : List Tree) (b : Begun) (s : Bound) (fs : List code_frame.Frame) (vs : List ℕ) (now : code_control.Control) : Type 0 where
  pub now_live : ControlBelow (length ts) now
  pub frames_live : All (IsFrame ts) fs
  pub placed : All (IsPlaced (length b)) fs
  pub values_live : All (λ i. i < length ts) vs
  pub slots_live : All (IsValueSlot ts) s.slots
  pub scoped : Scoped S ts b s (reverse fs)
  pub based : Based ts (reverse fs) vs
  pub waits : Waits S most ts b s (waiting ts b s (reverse fs) vs) now

-- nothing is begun, and nothing is remembered
pub record IsFresh (e : Machine) : Type 0 where
  pub frames : e.stack.frames.items ≡ []
  pub values : e.stack.values.items ≡ []
  pub calls : e.calls.entries ≡ []
  pub terms : e.terms.entries ≡ []
  pub locals : e.locals.entries ≡ []
  pub scope : e.scope ≡ none_bound

-- All else that a machine holds is right.
pub record Held (k : Kept) (t : Terms) (typed : List (ℕ × ℕ)) (e : Machine) : Type 0 where
  pub usable : IsUsable (signature t.trees k)
  pub fit : Fit k t typed
  pub keys_live : All (λ c. All (λ i. i < length t.trees) c.0.args) e.calls.entries
  pub remembers : Remembers (signature t.trees k) calls_limit t.trees e.calls.entries e.terms.entries e.locals.entries

pub record Ready (k : Kept) (t : Terms) (typed : List (ℕ × ℕ)) (e : Machine) (now : code_control.Control) : Type 0 where
  pub held : Held k t typed e
  pub stands : Stands (signature t.trees k) calls_limit t.trees (begun t.trees e.calls.entries) e.scope e.stack.frames.items e.stack.values.items now

-- What an evaluation goes on with: the definition makes this of all that is held and of what is done next, and all is right for it.
pub record Goes (k : Kept) (t : Terms) (typed : List (ℕ × ℕ)) (e : Machine) (o : Ended Tree) (now : code_control.Control) : Type 0 where
  pub told : outcome_from k t e now ≡ o
  pub ready : Ready k t typed e now

-- what waits and the values of parameters are as they were
pub record SameWork (old new : Machine) : Type 0 where
  pub frames : new.stack.frames.items ≡ old.stack.frames.items
  pub values : new.stack.values.items ≡ old.stack.values.items
  pub scope : new.scope ≡ old.scope

-- all but what the patterns of the last call hold is as it was
pub record SameButHeld (old new : Machine) : Type 0 where
  pub stack : new.stack ≡ old.stack
  pub scope : new.scope ≡ old.scope
  pub calls : new.calls ≡ old.calls
  pub terms : new.terms ≡ old.terms
  pub locals : new.locals ≡ old.locals

-- The same, where the last thing that waits was taken off.

abbrev pub outcome_of_frame : Kept → Terms → Machine → code_frame.Frame → code_control.Control → Ended Tree
outcome_of_frame k t e f now = told (signature t.trees k) calls_limit t.trees (begun t.trees e.calls.entries) e.scope (e.stack.frames.items ++ f ∷ []) e.stack.values.items now

pub record PoppedReady (k : Kept) (t : Terms) (typed : List (ℕ × ℕ)) (e : Machine) (f : code_frame.Frame) (now : code_control.Control) : Type 0 where
  pub held : Held k t typed e
  pub stands : Stands (signature t.trees k) calls_limit t.trees (begun t.trees e.calls.entries) e.scope (e.stack.frames.items ++ f ∷ []) e.stack.values.items now

-- what was taken off is given a result
pub record Given (k : Kept) (t : Terms) (typed : List (ℕ × ℕ)) (e : Machine) (f : code_frame.Frame) (now : code_control.Control) : Type 0 where
  pub result : IsResult now
  pub ready : PoppedReady k t typed e f now

-- What is remembered of an evaluation gives that result, where so many calls may open.
abbrev pub Recalls : List Tree → Begun → Family → ℕ → code_control.Control → Type 0
Recalls ts b F left (next.Value v d) = (v < length ts) × (Again F (Value (tree_at ts v)) d b × (d ≤ left))
Recalls ts b F left (next.Stuck d) = Again F Stuck d b × (d ≤ left)
Recalls ts b F left next.Deep = (o : Outcome Tree) × ((d : ℕ) × (Again F o d b × (left < d)))
Recalls ts b F left _ = ⊥

-- Steps of nodes that wait.

-- a node that has no values in the list of those that are collected
abbrev pub HasNoValues : code_frame.Frame → Type 0
HasNoValues (frame.Parts i base d k) = ⊥
HasNoValues (frame.Body place body base here kept) = ⊥
HasNoValues _ = Unit {0}

-- a node that waited for this result ends so
pub record Concludes (k : Kept) (t : Terms) (e : Machine) (f : code_frame.Frame) (now : code_control.Control) (o : code_outcome.Outcome) : Type 0 where
  pub live : OutcomeBelow (length t.trees) o
  pub ends : (call : Call → Eval Tree) (c : Begun) → resume_with (signature t.trees k) call (wait_of t.trees e.scope e.stack.values.items f) (result_of t.trees now, c) ≡ (outcome_in t.trees o, c)

-- with this result it goes on to wait for another term
pub record Proceeds (S : Signature) (most : ℕ) (ts : List Tree) (s : Bound) (f : code_frame.Frame) (now : code_control.Control) (g : code_frame.Frame) (p l : ℕ) : Type 0 where
  pub node : node_of g ≡ node_of f
  pub depth : deepest_of g ≡ max (deepest_of f) (depth_of now)
  pub frame : IsFrame ts g
  pub live : p < length ts
  pub waits : (j : ℕ) (c : Begun) → resume S most j (wait_of ts s [] f) (result_of ts now, c) ≡ resume S most j (wait_of ts s [] g) (evals S most (entered ts s p) j c)
  pub tells : (c : Begun) → resume S most (left_of f) (wait_of ts s [] f) (result_of ts now, c) ≡ resume S most (left_of g) (wait_of ts s [] g) (evals S most (entered ts s p) l c)

-- a term begins to wait for another one
pub record Begins (S : Signature) (most : ℕ) (ts : List Tree) (s : Bound) (i l : ℕ) (g : code_frame.Frame) (p : ℕ) : Type 0 where
  pub node : node_of g ≡ i
  pub depth : deepest_of g ≡ 0
  pub frame : IsFrame ts g
  pub live : p < length ts
  pub waits : (j : ℕ) (c : Begun) → evals S most (entered ts s i) j c ≡ resume S most j (wait_of ts s [] g) (evals S most (entered ts s p) j c)
  pub tells : (c : Begun) → evals S most (entered ts s i) l c ≡ resume S most (left_of g) (wait_of ts s [] g) (evals S most (entered ts s p) l c)

-- a term ends so, and what it ends with comes again where so many calls may open
pub record Keeps (S : Signature) (most : ℕ) (ts : List Tree) (b : Begun) (s : Bound) (i : ℕ) (o : code_outcome.Outcome) (d : ℕ) : Type 0 where
  pub term : i < length ts
  pub value : OutcomeBelow (length ts) o
  pub again : Again (evals S most (entered ts s i)) (outcome_in ts o) d b

-- Nodes that collect the values of their parts.

-- what waits for a node whose values are collected from a place on
abbrev pub waiting_for : Terms → Machine → ℕ → List Frame
waiting_for t e base = waiting t.trees (begun t.trees e.calls.entries) e.scope (reverse e.stack.frames.items) (take base e.stack.values.items)

-- what is left of a node whose first parts have the values that are collected from a place on
abbrev pub rest_of : Kept → Terms → Machine → ℕ → ℕ → Family
rest_of k t e i base left =
    let S = signature t.trees k in
    rest_with S (call_within S calls_limit left) (entered t.trees e.scope i) (map (tree_at t.trees) (drop base e.stack.values.items))

-- what the definition makes of all that waits and of that node
abbrev pub outcome_of_parts : Kept → Terms → Machine → ℕ → ℕ → ℕ → Ended Tree
outcome_of_parts k t e i base left =
    finish (signature t.trees k) calls_limit (waiting_for t e base) (rest_of k t e i base left (begun t.trees e.calls.entries))

-- All is right for a node whose first parts have these values, for which so many calls had to be allowed to open.
pub record Gathering (k : Kept) (t : Terms) (typed : List (ℕ × ℕ)) (e : Machine) (i base deepest : ℕ) : Type 0 where
  pub held : Held k t typed e
  pub live : i < length t.trees
  pub node : is_par (tree_at t.trees i) ≡ false
  pub within : base ≤ length e.stack.values.items
  pub count : length (drop base e.stack.values.items) ≤ count_of (parts_of (tree_at t.trees i))
  pub values_live : All (λ j. j < length t.trees) (drop base e.stack.values.items)
  pub stands : Stands (signature t.trees k) calls_limit t.trees (begun t.trees e.calls.entries) e.scope e.stack.frames.items (take base e.stack.values.items) next.Deep
  pub waits : Stacked (signature t.trees k) calls_limit (begun t.trees e.calls.entries) (waiting_for t e base) (evals (signature t.trees k) calls_limit (entered t.trees e.scope i))
  pub comes : Comes (evals (signature t.trees k) calls_limit (entered t.trees e.scope i)) (rest_of k t e i base) deepest (begun t.trees e.calls.entries)

-- the part after those with values is this one, or there is none left
abbrev pub IsNextPart : Terms → Machine → ℕ → ℕ → Option ℕ → Type 0
IsNextPart t e i base (Some p) =
    let n = length (drop base e.stack.values.items) in
    (p < length t.trees) × ((n < count_of (parts_of (tree_at t.trees i))) × (tree_at t.trees p ≡ argument_at (parts_of (tree_at t.trees i)) n))
IsNextPart t e i base None = length (drop base e.stack.values.items) ≡ count_of (parts_of (tree_at t.trees i))

-- Calls.

-- the call at a place among those begun
abbrev pub called_at : Terms → Machine → ℕ → Call
called_at t e place = call_at (begun t.trees e.calls.entries) place

-- what waits
abbrev pub waiting_in : Terms → Machine → List Frame
waiting_in t e = waiting t.trees (begun t.trees e.calls.entries) e.scope (reverse e.stack.frames.items) e.stack.values.items

-- what the definition makes of all that waits and of a call that was begun, whose body is still to be found
abbrev pub told_run : Kept → Terms → Machine → Call → ℕ → Ended Tree
told_run k t e x left =
    let S = signature t.trees k in
    finish S calls_limit (waiting_in t e) (on_body (body_of S x) (eval S calls_limit left) (begun t.trees e.calls.entries))

-- what it makes of all that waits and of a call
abbrev pub told_call : Kept → Terms → Machine → Call → ℕ → Ended Tree
told_call k t e x left =
    let S = signature t.trees k in
    finish S calls_limit (waiting_in t e) (calls S calls_limit x left (begun t.trees e.calls.entries))

-- All is right for a call that is made next.
pub record Calling (k : Kept) (t : Terms) (typed : List (ℕ × ℕ)) (e : Machine) (x : Call) : Type 0 where
  pub held : Held k t typed e
  pub stands : Stands (signature t.trees k) calls_limit t.trees (begun t.trees e.calls.entries) e.scope e.stack.frames.items e.stack.values.items next.Deep
  pub waits : Stacked (signature t.trees k) calls_limit (begun t.trees e.calls.entries) (waiting_in t e) (calls (signature t.trees k) calls_limit x)

-- The same for the call that was begun at this place.
pub record CallingAt (k : Kept) (t : Terms) (typed : List (ℕ × ℕ)) (e : Machine) (i : ℕ) : Type 0 where
  pub place : i < length e.calls.entries
  pub calling : Calling k t typed e (called_at t e i)
