-- How much is stated, by what is held.
use Rattle.std.proofs.Common.{◌≡◌, ℕ, ◌+◌, ◌<◌, ◌≤◌, ◌^◌, List, [], ◌∷◌, ◌++◌, map, All, arith}
use Rattle.std.proofs.lemmas.List.Elements.{All-head, All-tail, All-weaker, All-push, All-nil, All-cons}
use Rattle.eo_term.specs.Tree.{Tree}
use Rattle.eo_stated.specs.declared.checker.Evaluated as code
use Rattle.eo_stated.specs.Checking.{read_evaluated, IsShallow}
use Rattle.eo_stated.specs.Sizes as sizes

pub depths_read : (ts : List Tree) (n : ℕ) → n + 2 ≤ 2 ^ 64 → (es : List code.Evaluated) → All (IsShallow n) es → All sizes.IsShallow (map (read_evaluated ts) es)
depths_read ts n few [] h = All-nil sizes.IsShallow
depths_read ts n few (e ∷ es) h =
    let d : e.depth ≤ n = All-head (IsShallow n) e es h in
    All-cons sizes.IsShallow (read_evaluated ts e) (map (read_evaluated ts) es) (omega (arith, d, few)) (depths_read ts n few es (All-tail (IsShallow n) e es h))

pub depths_push : (n m : ℕ) (es : List code.Evaluated) (e : code.Evaluated) → n ≤ m → e.depth ≤ m → All (IsShallow n) es → All (IsShallow m) (es ++ e ∷ [])
depths_push n m es e more d h = All-push (IsShallow m) es e (All-weaker (IsShallow n) (IsShallow m) (λ x b. omega (arith, more, b)) es h) d
