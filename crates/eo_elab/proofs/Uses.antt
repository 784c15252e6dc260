-- Trees that use only some parameters.
use Rattle.std.specs.Prelude.{◌≡◌, ℕ, zero, suc, Bool, true, List, [], ◌∷◌, ◌++◌, Some, slice_get, refl}
use Rattle.std.specs.List.{list_all}
use Rattle.std.proofs.Common.{subst, ◌∙◌}
use Rattle.std.proofs.lemmas.List.Folds.{list_all-append}
use Rattle.eo_base.proofs.Tests.{both, clash, join}
use Rattle.eo_term.specs.Tree.{Tree, Con, Num, Bits, Str, Par, Var, App, Arr, Qar, Op, Trees, NoTree, More, is_value, uses_only, all_use_only, to_trees}

-- what uses some parameters alone uses no others than more of them
module _ (known more : ℕ → Bool) (all : (j : ℕ) → known j ≡ true → more j ≡ true) where
  mutual
    pub uses_more : (t : Tree) → uses_only known t ≡ true → uses_only more t ≡ true
    uses_more (Con k) h = refl
    uses_more (Num z) h = refl
    uses_more (Bits w v) h = refl
    uses_more (Str s) h = refl
    uses_more (Par i) h = all i h
    uses_more (Var s t) h = uses_more t h
    uses_more (App f x) h = join (uses_more f (both h).0) (uses_more x (both h).1)
    uses_more (Arr a b) h = join (uses_more a (both h).0) (uses_more b (both h).1)
    uses_more (Qar i t b) h = join (uses_more t (both h).0) (uses_more b (both h).1)
    uses_more (Op c ts) h = all_use_more ts h

    pub all_use_more : (ts : Trees) → all_use_only known ts ≡ true → all_use_only more ts ≡ true
    all_use_more NoTree h = refl
    all_use_more (More t ts) h = join (uses_more t (both h).0) (all_use_more ts (both h).1)

module _ (known : ℕ → Bool) where
  -- a value uses no parameter
  pub value_uses : (t : Tree) → is_value t ≡ true → uses_only known t ≡ true
  value_uses (Con k) h = refl
  value_uses (Num z) h = refl
  value_uses (Bits w v) h = refl
  value_uses (Str s) h = refl
  value_uses (Par i) h = clash h
  value_uses (Var s t) h = value_uses t h
  value_uses (App f x) h = join (value_uses f (both h).0) (value_uses x (both h).1)
  value_uses (Arr a b) h = join (value_uses a (both h).0) (value_uses b (both h).1)
  value_uses (Qar i t b) h = clash h
  value_uses (Op c ts) h = clash h

  -- the arguments of an operator
  pub arguments_use : (ts : List Tree) → list_all (uses_only known) ts ≡ true → all_use_only known (to_trees ts) ≡ true
  arguments_use [] h = refl
  arguments_use (t ∷ ts) h = join (both h).0 (arguments_use ts (both h).1)

-- lists of such trees
pub all_in_both : {A : Type 0} (test : A → Bool) (xs ys : List A) →
    list_all test xs ≡ true → list_all test ys ≡ true → list_all test (xs ++ ys) ≡ true
all_in_both test xs ys h k = list_all-append test xs ys ∙ join h k

pub at_place : {A : Type 0} (test : A → Bool) (xs : List A) →
    list_all test xs ≡ true → (k : ℕ) (x : A) → slice_get xs k ≡ Some x → test x ≡ true
at_place test [] h k x e = absurd (cc e)
at_place test (y ∷ ys) h zero x e = let same : y ≡ x = cc e in subst (λ z. test z ≡ true) same (both h).0
at_place test (y ∷ ys) h (suc k) x e = at_place test ys (both h).1 k x e
