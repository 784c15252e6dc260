-- Walks over the parts of a term.
use Rattle.std.specs.Prelude.{◌≡◌, ℕ, zero, suc, ◌+◌, ◌<◌, nat_eq, List, [], ◌∷◌, ◌++◌, Option, Some, None, if◌then◌else◌}
use Rattle.eo_term.specs.Memo.{told}

-- What was found, the terms that wait, each for the one after it, and the term that is looked at, for which the last of them waits.
pub record Visits : Type 0 where
  pub memo : List (ℕ × ℕ)
  pub waiting : List ℕ
  pub top : ℕ

-- the term that was looked at waits for the part
pub record Begins (old : Visits) (part : ℕ) (new : Visits) : Type 0 where
  pub memo : new.memo ≡ old.memo
  pub waiting : new.waiting ≡ old.waiting ++ old.top ∷ []
  pub top : new.top ≡ part

-- what was found for the term that was looked at is kept, and the one that waited for it is looked at
pub record Finishes (old : Visits) (found : ℕ) (new : Visits) : Type 0 where
  pub memo : (k : ℕ) → told new.memo k ≡ (if nat_eq old.top k then Some found else told old.memo k)
  pub waiting : old.waiting ≡ new.waiting ++ new.top ∷ []

-- a term below n, for which the memo has nothing, and of which R holds
pub record IsBegun (n : ℕ) (memo : List (ℕ × ℕ)) (R : ℕ → Type 0) (x : ℕ) : Type 0 where
  pub live : x < n
  pub untold : told memo x ≡ None
  pub leads : R x

-- the terms that wait upon the term x, and then the top, each older than the one before it
abbrev pub Upon : (ℕ → Type 0) → ℕ → List ℕ → ℕ → Type 0
Upon P x [] top = (top < x) × P top
Upon P x (y ∷ ys) top = (y < x) × (P y × Upon P y ys top)

-- the terms that wait, the first of which is that which was asked for, and then the top
abbrev pub Stacked : (ℕ → Type 0) → ℕ → List ℕ → ℕ → Type 0
Stacked P id [] top = (top ≡ id) × P top
Stacked P id (x ∷ xs) top = (x ≡ id) × (P x × Upon P x xs top)

-- a walk that was asked for the term id: R holds of each term that was begun and not found
pub record AreBegun (n : ℕ) (R : ℕ → Type 0) (id : ℕ) (w : Visits) : Type 0 where
  pub stacked : Stacked (IsBegun n w.memo R) id w.waiting w.top

-- The measure of a walk over terms below n. Each of them for which the memo has nothing weighs w.

abbrev pub weight : ℕ → Option ℕ → ℕ
weight w None = w
weight w (Some v) = 0

abbrev pub weights : ℕ → ℕ → List (ℕ × ℕ) → ℕ
weights w zero memo = 0
weights w (suc n) memo = weight w (told memo n) + weights w n memo

abbrev pub left : ℕ → Visits → ℕ
left n w = weights n n w.memo + w.top

-- a walk that was asked for the term id, over terms below n: each term that was begun is older than the one before it, and the memo has nothing for any of them
abbrev pub IsUnderWay : (n id : ℕ) → Visits → Type 0
IsUnderWay n id w = AreBegun n (λ (x : ℕ). Unit {0}) id w

-- a walk goes on with fewer terms left
pub record GoesOn (n id : ℕ) (old new : Visits) : Type 0 where
  pub goes : IsUnderWay n id new
  pub less : left n new < left n old

-- what holds of each walk
pub record WalksOn (n id : ℕ) : Type 0 where
  pub first : (w : Visits) → ((k : ℕ) → told w.memo k ≡ None) → w.waiting ≡ [] → w.top ≡ id → id < n → IsUnderWay n id w
  pub live : (w : Visits) → IsUnderWay n id w → w.top < n
  pub last : (w : Visits) → IsUnderWay n id w → w.waiting ≡ [] → w.top ≡ id
  pub part : (w v : Visits) (part : ℕ) → IsUnderWay n id w → Begins w part v → part < w.top → told w.memo part ≡ None → GoesOn n id w v
  pub rest : (w v : Visits) (found : ℕ) → IsUnderWay n id w → Finishes w found v → GoesOn n id w v
