-- Trees that are within their ranges, put in for parameters of such a tree.
use Rattle.std.specs.Prelude.{◌≡◌, ℕ, zero, suc, Bool, true, false, nat_eq, if◌then◌else◌, List, [], ◌∷◌, map, Option, Some, None, slice_get, refl}
use Rattle.std.specs.Cmp.Lexicographic.{pointwise}
use Rattle.std.specs.Option.{option_or}
use Rattle.std.proofs.Common.{subst}
use Rattle.std.proofs.lemmas.Option.{same_Some, none-some}
use Rattle.eo_base.proofs.Tests.{both, join}
use Rattle.eo_term.specs.Tree.{Tree, Con, Num, Bits, Str, Par, Var, App, Arr, Qar, Op, Trees, NoTree, More, to_trees, tree_eq}
use Rattle.eo_pattern.specs.Matching.{Assignment, empty, assign, value_or_par, put, put_all, met, met_in_all, met_in, tried, matching}
use Rattle.eo_roundtrip.proofs.Within.{all_within}
use Rattle.eo_roundtrip.proofs.Ranges.{IsWithin, AreWithin}

abbrev pub SomeWithin : Option Tree → Type 0
SomeWithin None = Unit {0}
SomeWithin (Some t) = IsWithin t

pub some-within : (o : Option Tree) (t : Tree) → SomeWithin o → o ≡ Some t → IsWithin t
some-within None t h e = absurd (none-some t e)
some-within (Some u) t h e = subst IsWithin (same_Some u t e) h

-- the value of each parameter is within its ranges
abbrev pub Puts : Assignment → Type 0
Puts σ = (j : ℕ) → SomeWithin (σ j)

pub puts-none : Puts empty
puts-none j = tt

pub puts-one : (σ : Assignment) (i : ℕ) (t : Tree) → Puts σ → IsWithin t → Puts (assign σ i t)
puts-one σ i t h k j = by_test (nat_eq i j)
  where
    by_test : (b : Bool) → SomeWithin (if b then Some t else σ j)
    by_test true = k
    by_test false = h j

pub puts-arguments : (ts : List Tree) → AreWithin ts → Puts (slice_get ts)
puts-arguments [] h j = tt
puts-arguments (t ∷ ts) h zero = (both h).0
puts-arguments (t ∷ ts) h (suc j) = puts-arguments ts (both h).1 j

pub to-trees-within : (ts : List Tree) → AreWithin ts → all_within (to_trees ts) ≡ true
to-trees-within [] h = refl
to-trees-within (t ∷ ts) h = join (both h).0 (to-trees-within ts (both h).1)

module _ (σ : Assignment) (each : Puts σ) where
  value-or-par : (i : ℕ) (o : Option Tree) → SomeWithin o → IsWithin (value_or_par i o)
  value-or-par i None h = refl
  value-or-par i (Some t) h = h

  mutual
    pub put-within : (t : Tree) → IsWithin t → IsWithin (put σ t)
    put-within (Con k) h = h
    put-within (Num z) h = h
    put-within (Bits w v) h = h
    put-within (Str s) h = h
    put-within (Par i) h = value-or-par i (σ i) (each i)
    put-within (Var s t) h = join (both h).0 (put-within t (both h).1)
    put-within (App f x) h = join (put-within f (both h).0) (put-within x (both h).1)
    put-within (Arr a b) h = join (put-within a (both h).0) (put-within b (both h).1)
    put-within (Qar i t b) h = join (put-within t (both h).0) (put-within b (both h).1)
    put-within (Op c ts) h = put-all-within ts h

    put-all-within : (ts : Trees) → all_within ts ≡ true → all_within (put_all σ ts) ≡ true
    put-all-within NoTree h = refl
    put-all-within (More t ts) h = join (put-within t (both h).0) (put-all-within ts (both h).1)

-- ---- matching

or-within : (a b : Option Tree) → SomeWithin a → SomeWithin b → SomeWithin (option_or a b)
or-within None b h k = k
or-within (Some t) b h k = h

mutual
  met-within : (i : ℕ) (p t : Tree) → IsWithin t → SomeWithin (met i p t)
  met-within i (Par j) t h = by_test (nat_eq i j)
    where
      by_test : (b : Bool) → SomeWithin (if b then Some t else None)
      by_test true = h
      by_test false = tt
  met-within i (Var s t) (Var r u) h = met-within i t u (both h).1
  met-within i (App f x) (App g y) h = or-within (met i f g) (met i x y) (met-within i f g (both h).0) (met-within i x y (both h).1)
  met-within i (Arr a b) (Arr c d) h = or-within (met i a c) (met i b d) (met-within i a c (both h).0) (met-within i b d (both h).1)
  met-within i (Qar j t b) (Qar k u c) h = or-within (met i t u) (met i b c) (met-within i t u (both h).0) (met-within i b c (both h).1)
  met-within i (Op c ts) (Op d us) h = met-all-within i ts us h
  met-within i _ _ h = tt

  met-all-within : (i : ℕ) (ps ts : Trees) → all_within ts ≡ true → SomeWithin (met_in_all i ps ts)
  met-all-within i (More t ts) (More u us) h = or-within (met i t u) (met_in_all i ts us) (met-within i t u (both h).0) (met-all-within i ts us (both h).1)
  met-all-within i _ _ h = tt

met-in-within : (i : ℕ) (ps ts : List Tree) → AreWithin ts → SomeWithin (met_in i ps ts)
met-in-within i (p ∷ ps) (t ∷ ts) h = or-within (met i p t) (met_in i ps ts) (met-within i p t (both h).0) (met-in-within i ps ts (both h).1)
met-in-within i _ _ h = tt

pub matching-puts : (before : Assignment) (ps ts : List Tree) (σ : Assignment) → Puts before → AreWithin ts → matching before ps ts ≡ Some σ → Puts σ
matching-puts before ps ts σ h k e = by_test (pointwise tree_eq (map (put (tried before ps ts)) ps) ts) e
  where
    by_test : (b : Bool) → (if b then Some (tried before ps ts) else None) ≡ Some σ → Puts σ
    by_test true f = subst Puts (same_Some (tried before ps ts) σ f) (λ j. or-within (before j) (met_in j ps ts) (h j) (met-in-within j ps ts k))
    by_test false f = absurd (none-some σ f)
