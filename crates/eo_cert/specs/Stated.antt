-- What the lines of a certificate state, up to one of them.
use Rattle.std.specs.Prelude.{ℕ, Bool, false, ◌||◌, nat_eq, List, [], ◌∷◌, ◌++◌, Option, Some, None, option_and_then, option_map, if◌then◌else◌, slice_get}
use Rattle.std.specs.List.{list_any}
use Rattle.eo_base.specs.Checks.{Passed}
use Rattle.eo_term.specs.Tree.{Tree, tree_eq}
use Rattle.eo_sig.specs.Signature.{Signature}
use Rattle.eo_stack.specs.Evaluation.{Call}
use Rattle.eo_session.specs.State.{State, first_state}

-- a context by the contexts around it and their assumptions, the innermost first; its own assumption comes first
pub record Context : Type 0 where
  pub outer : List ℕ
  pub assumed : List Tree

-- a formula that is derived in a context
pub record Derivation : Type 0 where
  pub context : ℕ
  pub formula : Tree

-- an evaluation: to a value or, where there is none, stuck; and how many calls are open at once inside it
pub record Evaluated : Type 0 where
  pub term : Tree
  pub outcome : Option Tree
  pub depth : ℕ

pub record Stated : Type 0 where
  -- what is declared and asserted
  pub session : State
  pub terms : List Tree
  pub contexts : List Context
  pub derivations : List Derivation
  -- the block of evaluations that is begun, and its different calls
  pub block : List Evaluated
  pub calls : List Call

abbrev pub outermost : Context
outermost = record { outer = []; assumed = [] }

-- before the first line
unfoldable pub nothing_stated : Stated
nothing_stated =
    record { session = first_state false; terms = []; contexts = outermost ∷ []; derivations = []; block = []; calls = [] }

abbrev pub signature : Stated → Signature
signature st = st.session.signature

abbrev pub assertions : Stated → List Tree
assertions st = st.session.assertions

-- ---- conditions

-- what is left where a condition holds
infixl 10 ◌>>=◌
abbrev pub ◌>>=◌ : {A B : Type 0} → Option A → (A → Option B) → Option B
m >>= f = option_and_then f m

abbrev pub when : Bool → Option Passed
when b = if b then Some tt else None

-- for each of a list
abbrev pub each : {A B : Type 0} → (A → Option B) → List A → Option (List B)
each f [] = Some []
each f (x ∷ xs) = do
  y ← f x
  ys ← each f xs
  Some (y ∷ ys)

-- for what may be left out
abbrev pub if_there : {A B : Type 0} → (A → Option B) → Option A → Option (Option B)
if_there f None = Some None
if_there f (Some x) = option_map Some (f x)

-- ---- what a number names

abbrev pub term_at : Stated → ℕ → Option Tree
term_at st n = slice_get st.terms n

abbrev pub terms_at : Stated → List ℕ → Option (List Tree)
terms_at st ns = each (term_at st) ns

abbrev pub context_at : Stated → ℕ → Option Context
context_at st n = slice_get st.contexts n

abbrev pub derivation_at : Stated → ℕ → Option Derivation
derivation_at st n = slice_get st.derivations n

abbrev pub evaluated_at : Stated → ℕ → Option Evaluated
evaluated_at st n = slice_get st.block n

-- ---- contexts

-- whether what holds in the first context holds in this one
abbrev pub reaches : ℕ → Context → ℕ → Bool
reaches c context d = nat_eq d c || list_any (nat_eq d) context.outer

-- the formulas that hold in a context: what is asserted, and what is assumed in it or around it
abbrev pub in_force : Stated → Context → List Tree
in_force st context = context.assumed ++ assertions st

abbrev pub is_in_force : Stated → Context → Tree → Bool
is_in_force st context t = list_any (tree_eq t) (in_force st context)

-- ---- one more

abbrev pub with_term : Stated → Tree → Stated
with_term st t = record st { terms = st.terms ++ t ∷ [] }

abbrev pub with_context : Stated → Context → Stated
with_context st c = record st { contexts = st.contexts ++ c ∷ [] }

abbrev pub with_derivation : Stated → ℕ → Tree → Stated
with_derivation st c t = record st { derivations = st.derivations ++ record { context = c; formula = t } ∷ [] }

abbrev pub with_evaluated : Stated → Evaluated → Stated
with_evaluated st e = record st { block = st.block ++ e ∷ [] }

-- the block is left
abbrev pub without_block : Stated → Stated
without_block st = record st { block = []; calls = [] }
