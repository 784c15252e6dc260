-- How tall a tree gets when values are put in for its parameters.
use Rattle.std.specs.Prelude.{◌≡◌, ℕ, suc, ◌+◌, ◌≤◌, max, Option, Some, None, refl}
use Rattle.std.proofs.Common.{arith}
use Rattle.std.proofs.Math.Nat.{max-le, le-max_left, le-max_right}
use Rattle.eo_term.specs.Tree.{Tree, Con, Num, Bits, Str, Par, Var, App, Arr, Qar, Op, Trees, NoTree, More, height, height_all}
use Rattle.eo_pattern.specs.Matching.{Assignment, value_or_par, put, put_all}

-- no tree that is put in is taller than h
abbrev pub NoneTaller : Assignment → ℕ → Type 0
NoneTaller σ h = (i : ℕ) (u : Tree) → σ i ≡ Some u → height u ≤ h

max_grows : (a b c d h : ℕ) → a + 1 ≤ c + h → b + 1 ≤ d + h → max a b + 1 ≤ max c d + h
max_grows a b c d h l r =
    let left = le-max_left c d in
    let right = le-max_right c d in
    let first : suc a ≤ max c d + h = omega (arith, l, left) in
    let second : suc b ≤ max c d + h = omega (arith, r, right) in
    omega (arith, max-le first second)

mutual
  pub put_height : (σ : Assignment) (h : ℕ) → 1 ≤ h → NoneTaller σ h → (t : Tree) → height (put σ t) + 1 ≤ height t + h
  put_height σ h one low (Con k) = omega (arith, one)
  put_height σ h one low (Num z) = omega (arith, one)
  put_height σ h one low (Bits w v) = omega (arith, one)
  put_height σ h one low (Str s) = omega (arith, one)
  put_height σ h one low (Par i) = by_value (σ i) (low i)
    where
      by_value : (o : Option Tree) → ((u : Tree) → o ≡ Some u → height u ≤ h) → height (value_or_par i o) + 1 ≤ 1 + h
      by_value None f = omega (arith, one)
      by_value (Some u) f = omega (arith, f u refl)
  put_height σ h one low (Var s t) = omega (arith, put_height σ h one low t)
  put_height σ h one low (App f x) =
      omega (arith, max_grows (height (put σ f)) (height (put σ x)) (height f) (height x) h (put_height σ h one low f) (put_height σ h one low x))
  put_height σ h one low (Arr a b) =
      omega (arith, max_grows (height (put σ a)) (height (put σ b)) (height a) (height b) h (put_height σ h one low a) (put_height σ h one low b))
  put_height σ h one low (Qar i t b) =
      omega (arith, max_grows (height (put σ t)) (height (put σ b)) (height t) (height b) h (put_height σ h one low t) (put_height σ h one low b))
  put_height σ h one low (Op c ts) = omega (arith, put_all_height σ h one low ts)

  put_all_height : (σ : Assignment) (h : ℕ) → 1 ≤ h → NoneTaller σ h → (ts : Trees) → height_all (put_all σ ts) + 1 ≤ height_all ts + h
  put_all_height σ h one low NoTree = omega (arith, one)
  put_all_height σ h one low (More t ts) =
      max_grows (height (put σ t)) (height_all (put_all σ ts)) (height t) (height_all ts) h (put_height σ h one low t) (put_all_height σ h one low ts)
