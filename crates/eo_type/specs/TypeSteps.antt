-- Steps of typing.
use Rattle.std.specs.Prelude.{◌≡◌, ℕ, ◌+◌, ◌<◌, max, List, None, Result, Ok, Err}
use Rattle.eo_sig.specs.Reading.{Kept}
use Rattle.eo_term.specs.Terms.{Terms}
use Rattle.eo_term.specs.declared.walk.Step.{Step}
use Rattle.eo_term.specs.declared.walk.Step.TheVariants as step
use Rattle.eo_type.specs.declared.refused.Stop.{Stop}
use Rattle.eo_term.specs.Tree.{Tree}
use Rattle.eo_type.specs.Types.{TypeOutcome, on_typed}
use Rattle.eo_type.specs.Known.{kept_type, type_at}
use Rattle.eo_type.specs.Outcomes.{IsTyped, Stops}

-- the term p is below so many, its type is not kept, and what stops it stops this outcome
pub record IsNextTyped (k : Kept) (t : Terms) (known : List (ℕ × ℕ)) (below : ℕ) (o : TypeOutcome Tree) (p : ℕ) : Type 0 where
  pub older : p < below
  pub unkept : kept_type known p ≡ None
  pub stops : (e : Stop) → Stops e (type_at k t p) → Stops e o

-- the outcome is found, or the type of a part below so many is needed first
abbrev pub IsTypeStep : Kept → Terms → List (ℕ × ℕ) → ℕ → TypeOutcome Tree → Terms → Step → Type 0
IsTypeStep k old known below o new (step.Made v) = IsTyped new o v
IsTypeStep k old known below o new (step.Part p) = IsNextTyped k old known below o p

-- a walk takes such a step, or ends
abbrev pub GivesTypeStep : Kept → Terms → List (ℕ × ℕ) → ℕ → TypeOutcome Tree → Terms → Result Step Stop → Type 0
GivesTypeStep k old known below o new (Ok s) = IsTypeStep k old known below o new s
GivesTypeStep k old known below o new (Err e) = Stops e o

-- the first of two terms whose type is not kept
pub record IsUnkept (k : Kept) (t : Terms) (known : List (ℕ × ℕ)) (a b p : ℕ) : Type 0 where
  pub within : p < max a b + 1
  pub unkept : kept_type known p ≡ None
  pub stops : (e : Stop) → Stops e (type_at k t p) → Stops e (on_typed (type_at k t a) (λ _. type_at k t b))

-- both types, or the first term whose type is not kept
abbrev pub AreKept : Kept → Terms → List (ℕ × ℕ) → ℕ → ℕ → Result (ℕ × ℕ) ℕ → Type 0
AreKept k t known a b (Ok r) = IsTyped t (type_at k t a) r.0 × IsTyped t (type_at k t b) r.1
AreKept k t known a b (Err p) = IsUnkept k t known a b p
