-- A conclusion under requirements: made from the back, and how tall it is.
use Rattle.std.proofs.Common.{◌≡◌, ℕ, zero, suc, ◌<◌, ◌≤◌, true, List, [], ◌∷◌, length, map, drop, get_or, Option, Some, None, sym, ap, ◌∙◌, arith}
use Rattle.std.specs.Prelude.{Result, Ok, Err, IfOk}
use Rattle.eo_base.proofs.Tests.{still_above}
use Rattle.eo_base.specs.Limits.{height_limit}
use Rattle.eo_term.specs.declared.table.TermRefused.{TermRefused}
use Rattle.eo_term.specs.declared.table.TermRefused.TheVariants as term
use Rattle.eo_term.specs.Builds.{Builds}
use Rattle.eo_term.specs.Refused.{IsTall}
use Rattle.eo_term.specs.Terms.{Terms, tree_at}
use Rattle.eo_term.specs.Tree.{Tree, Con, Num, Bits, Str, Par, Var, App, Arr, Qar, Op, Trees, NoTree, More, height, height_all, is_tall}
use Rattle.eo_pattern.specs.Matching.{Assignment, put, put_all, value_or_par}
use Rattle.eo_pattern.specs.Steps.{IsMade}
use Rattle.eo_rule.specs.Instance.{under, required}

-- the element at a place of what a list becomes, and those after it
pub drop_map : {X Y : Type 0} (f : X → Y) (xs : List X) (i : ℕ) (x : X) → i < length xs → x ≡ get_or xs i x → drop i (map f xs) ≡ f x ∷ drop (suc i) (map f xs)
drop_map f [] i x l e = absurd (omega arith)
drop_map f (y ∷ ys) zero x l e = λ k. f (sym e k) ∷ map f ys
drop_map f (y ∷ ys) (suc i) x l e = drop_map f ys i x (omega arith) e

pub length_map : {X Y : Type 0} (f : X → Y) (xs : List X) → length (map f xs) ≤ length xs
length_map f [] = omega arith
length_map f (x ∷ xs) = omega (arith, length_map f xs)

-- ---- requirements

tall_under : (q : Tree × Tree) (t : Tree) → is_tall t ≡ true → is_tall (under q t) ≡ true
tall_under q t e = still_above height_limit (height t) (height (under q t)) (omega arith) e

pub required_tall : (qs : List (Tree × Tree)) (t : Tree) (i : ℕ) → is_tall (required (drop i qs) t) ≡ true → is_tall (required qs t) ≡ true
required_tall qs t zero e = e
required_tall [] t (suc i) e = e
required_tall (q ∷ qs) t (suc i) e = tall_under q (required qs t) (required_tall qs t i e)

-- ---- what is put in makes nothing lower

one_least : (t : Tree) → 1 ≤ height t
one_least (Con k) = omega arith
one_least (Num z) = omega arith
one_least (Bits w v) = omega arith
one_least (Str s) = omega arith
one_least (Par i) = omega arith
one_least (Var s t) = omega arith
one_least (App f x) = omega arith
one_least (Arr a b) = omega arith
one_least (Qar i t b) = omega arith
one_least (Op c ts) = omega arith

par_higher : (i : ℕ) (o : Option Tree) → 1 ≤ height (value_or_par i o)
par_higher i None = omega arith
par_higher i (Some t) = one_least t

mutual
  put_higher : (σ : Assignment) (t : Tree) → height t ≤ height (put σ t)
  put_higher σ (Con k) = omega arith
  put_higher σ (Num z) = omega arith
  put_higher σ (Bits w v) = omega arith
  put_higher σ (Str s) = omega arith
  put_higher σ (Par i) = par_higher i (σ i)
  put_higher σ (Var s t) = omega (arith, put_higher σ t)
  put_higher σ (App f x) = omega (arith, put_higher σ f, put_higher σ x)
  put_higher σ (Arr a b) = omega (arith, put_higher σ a, put_higher σ b)
  put_higher σ (Qar i t b) = omega (arith, put_higher σ t, put_higher σ b)
  put_higher σ (Op c ts) = omega (arith, put_all_higher σ ts)

  put_all_higher : (σ : Assignment) (ts : Trees) → height_all ts ≤ height_all (put_all σ ts)
  put_all_higher σ NoTree = omega arith
  put_all_higher σ (More t ts) = omega (arith, put_higher σ t, put_all_higher σ ts)

pub put_tall : (σ : Assignment) (t : Tree) → is_tall t ≡ true → is_tall (put σ t) ≡ true
put_tall σ t e = still_above height_limit (height t) (height (put σ t)) (put_higher σ t) e

-- what a substitution answers
pub builds_put : (new : Terms) (σ : Assignment) (ts : List Tree) (k : ℕ) (u : Tree) (r : Result ℕ TermRefused) → put σ (tree_at ts k) ≡ u → IfOk r (IsMade σ ts k new.trees) → (IsTall r → is_tall (put σ (tree_at ts k)) ≡ true) → Builds new r u
builds_put new σ ts k u (Ok i) e h t = record { live = h.live; tree = h.tree ∙ e }
builds_put new σ ts k u (Err term.Tall) e h t = sym (ap is_tall e) ∙ t tt
builds_put new σ ts k u (Err (term.Memory x)) e h t = tt
