-- The types that are kept.
use Rattle.std.specs.Prelude.{◌≡◌, ℕ, ◌+◌, ◌<◌, ◌≤◌, Bool, ◌&&◌, nat_eq, nat_lt, List, ◌++◌, length, take, All, Option, Some, None, Result, IfOk, IfSome}
use Rattle.std.specs.Map.{lookup}
use Rattle.eo_term.specs.Tree.{Tree}
use Rattle.eo_term.specs.Terms.{Terms, Since, tree_at}
use Rattle.eo_sig.specs.Growth.{GrowsUnder}
use Rattle.eo_sig.specs.Reading.{Kept, IsBelow, signature}
use Rattle.eo_sig.specs.Signature.{Signature, literal_type}
use Rattle.eo_lit.specs.declared.LiteralClass.{LiteralClass}
use Rattle.eo_type.specs.declared.refused.Stop.{Stop}
use Rattle.eo_type.specs.declared.refused.TypeRefused.{TypeRefused}
use Rattle.eo_type.specs.Types.{TypeOutcome, Typed, type_of}

-- a term and its type, both among those trees
pub record IsFit (S : Signature) (ts : List Tree) (e : ℕ × ℕ) : Type 0 where
  pub term : e.0 < length ts
  pub type : e.1 < length ts
  pub typed : type_of S (tree_at ts e.0) ≡ Typed (tree_at ts e.1)

-- each type that is kept is that of its term
abbrev pub Fits : Signature → List Tree → List (ℕ × ℕ) → Type 0
Fits S ts types = All (IsFit S ts) types

-- What each call that takes a signature, a table and types requires: all terms that are named are there, and each type is that of its term.
pub record Fit (k : Kept) (t : Terms) (known : List (ℕ × ℕ)) : Type 0 where
  pub below : IsBelow (length t.trees) k
  pub types : Fits (signature t.trees k) t.trees known

-- Types that fit go on to fit where the table grows, and where the signature gets longer.
pub record Lasts (known : List (ℕ × ℕ)) : Type 0 where
  pub grown : (k : Kept) (old new : Terms) → Since old new → Fit k old known → Fit k new known
  pub longer : (S later : Signature) (ts : List Tree) → Fits S ts known → Fits (S ++ later) ts known

-- the type that is kept for a term
abbrev pub kept_type : List (ℕ × ℕ) → ℕ → Option ℕ
kept_type known i = lookup (nat_eq i) known

-- each type that was kept is kept
abbrev pub Keeps : List (ℕ × ℕ) → List (ℕ × ℕ) → Type 0
Keeps old new = (i u : ℕ) → kept_type old i ≡ Some u → kept_type new i ≡ Some u

-- What each call that takes a signature, a table and types leaves of them, also where it refuses: each type that was kept, and types that fit.
pub record StillFit (k : Kept) (t : Terms) (old new : List (ℕ × ℕ)) : Type 0 where
  pub fit : Fit k t new
  pub kept : Keeps old new

-- What each call that takes a signature, a table and types leaves of both, also where it refuses: types that are still kept and fit, and a table that has grown.
pub record Extends (k : Kept) (t : Terms) (old : List (ℕ × ℕ)) (u : Terms) (new : List (ℕ × ℕ)) : Type 0 where
  pub fits : StillFit k u old new
  pub grows : GrowsUnder k t u

-- types that fit, and a term that is there
pub record FitWith (k : Kept) (t : Terms) (known : List (ℕ × ℕ)) (i : ℕ) : Type 0 where
  pub live : i < length t.trees
  pub fits : Fit k t known

-- types that fit, and a term that is there of which none is kept
pub record IsUntyped (k : Kept) (t : Terms) (known : List (ℕ × ℕ)) (i : ℕ) : Type 0 where
  pub live : i < length t.trees
  pub fits : Fit k t known
  pub none : kept_type known i ≡ None

-- more types are kept than before of terms below n alone
abbrev pub FindsBelow : ℕ → List (ℕ × ℕ) → List (ℕ × ℕ) → Type 0
FindsBelow n old new = (i : ℕ) → n ≤ i → kept_type new i ≡ kept_type old i

-- What a walk over a term leaves: what was kept and the type that it finds, of no term after it, types that fit, and a table that has grown.
pub record Finds (k : Kept) (t : Terms) (old : List (ℕ × ℕ)) (i : ℕ) (result : Result ℕ Stop) (u : Terms) (new : List (ℕ × ℕ)) : Type 0 where
  pub keeps : Keeps old new
  pub found : IfOk result (λ v. kept_type new i ≡ Some v)
  pub older : FindsBelow (i + 1) old new
  pub fits : Fit k u new
  pub grows : GrowsUnder k t u

-- a type that is returned is kept
abbrev pub KeepsAnswer : List (ℕ × ℕ) → ℕ → Result (Option ℕ) TypeRefused → Type 0
KeepsAnswer known i result = IfOk result (λ o. IfSome o (λ u. kept_type known i ≡ Some u))

-- a term and its type are both among the first n terms
abbrev pub is_before : ℕ → ℕ × ℕ → Bool
is_before n e = nat_lt e.0 n && nat_lt e.1 n

-- Types that fit a table and are then cut to n fit each table that has the same first n terms, if the signature has no others.
abbrev pub FitsCut : ℕ → List (ℕ × ℕ) → List (ℕ × ℕ) → Type 0
FitsCut n known left =
    (k : Kept) (old new : Terms) → Fit k old known → IsBelow n k → n ≤ length old.trees → take n new.trees ≡ take n old.trees → Fit k new left

-- the type of a tree, over the terms of a table
abbrev pub type_in : Kept → Terms → Tree → TypeOutcome Tree
type_in k t u = type_of (signature t.trees k) u

-- the type of the literals of a class
abbrev pub class_type : Kept → Terms → LiteralClass → Option Tree
class_type k t class = literal_type (signature t.trees k) class

-- the type of a term of a table
abbrev pub type_at : Kept → Terms → ℕ → TypeOutcome Tree
type_at k t i = type_in k t (tree_at t.trees i)
