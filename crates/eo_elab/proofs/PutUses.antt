-- What a tree uses once trees are put in for its parameters.
use Rattle.std.specs.Prelude.{◌≡◌, ◌<◌, ℕ, zero, suc, Bool, true, nat_lt, List, [], ◌∷◌, length, slice_get, refl}
use Rattle.std.specs.List.{list_all}
use Rattle.std.proofs.Common.{arith}
use Rattle.std.proofs.lemmas.Bool.Decides.{Decides-ltb}
use Rattle.eo_base.proofs.Tests.{both, join}
use Rattle.eo_term.specs.Tree.{Tree, Con, Num, Bits, Str, Par, Var, App, Arr, Qar, Op, Trees, NoTree, More, uses_only, all_use_only}
use Rattle.eo_pattern.specs.Matching.{Assignment, value_or_par, put, put_all}

-- each parameter that the tree uses becomes a tree that uses only the known ones
module _ (inner known : ℕ → Bool) (σ : Assignment) (each : (j : ℕ) → inner j ≡ true → uses_only known (value_or_par j (σ j)) ≡ true) where
  mutual
    pub put_uses : (t : Tree) → uses_only inner t ≡ true → uses_only known (put σ t) ≡ true
    put_uses (Con k) h = refl
    put_uses (Num z) h = refl
    put_uses (Bits w v) h = refl
    put_uses (Str s) h = refl
    put_uses (Par i) h = each i h
    put_uses (Var s t) h = put_uses t h
    put_uses (App f x) h = join (put_uses f (both h).0) (put_uses x (both h).1)
    put_uses (Arr a b) h = join (put_uses a (both h).0) (put_uses b (both h).1)
    put_uses (Qar i t b) h = join (put_uses t (both h).0) (put_uses b (both h).1)
    put_uses (Op c ts) h = put_all_uses ts h

    pub put_all_uses : (ts : Trees) → all_use_only inner ts ≡ true → all_use_only known (put_all σ ts) ≡ true
    put_all_uses NoTree h = refl
    put_all_uses (More t ts) h = join (put_uses t (both h).0) (put_all_uses ts (both h).1)

module _ (known : ℕ → Bool) where
  -- an argument for each parameter of a macro
  argument_uses : (ts : List Tree) → list_all (uses_only known) ts ≡ true → (j i : ℕ) → i < length ts →
      uses_only known (value_or_par j (slice_get ts i)) ≡ true
  argument_uses [] h j i lt = let below : i < 0 = lt in absurd (omega (arith, below))
  argument_uses (t ∷ ts) h j zero lt = (both h).0
  argument_uses (t ∷ ts) h j (suc i) lt = argument_uses ts (both h).1 j i (omega (arith, lt))

  -- a macro's tree with arguments for all its parameters
  pub macro_uses : (ts : List Tree) → list_all (uses_only known) ts ≡ true → (t : Tree) →
      uses_only (λ j. nat_lt j (length ts)) t ≡ true → uses_only known (put (slice_get ts) t) ≡ true
  macro_uses ts h =
      put_uses (λ j. nat_lt j (length ts)) known (slice_get ts)
      (λ j lt. argument_uses ts h j j ((Decides-ltb j (length ts)).0 lt))
