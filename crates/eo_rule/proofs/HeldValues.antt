-- What is met in values is a value, and so is what a match of values holds.
use Rattle.std.specs.Prelude.{◌≡◌, ℕ, Bool, true, false, nat_eq, if◌then◌else◌, List, [], ◌∷◌, map, Option, Some, None, is_some}
use Rattle.std.specs.List.{list_all}
use Rattle.std.specs.Option.{option_or}
use Rattle.std.specs.Cmp.Lexicographic.{pointwise}
use Rattle.std.proofs.Common.{sym, ap, subst, true≢false}
use Rattle.eo_base.proofs.Tests.{clash, both, from_either}
use Rattle.eo_term.specs.Tree.{Tree, Par, Var, App, Arr, Qar, Op, is_value, occurs, occurs_in, tree_eq}
use Rattle.eo_pattern.specs.Matching.{Assignment, put, met, met_in, tried, matching}
use Rattle.eo_pattern.proofs.Put.{HoldsValues, put_named}

-- What is met in values is a value.

no_some : {A : Type 0} {u : Tree} → None ≡ Some u → A
no_some e = clash (ap is_some e)

from_or : (o p : Option Tree) (P : Tree → Type 0) → ((u : Tree) → o ≡ Some u → P u) → ((u : Tree) → p ≡ Some u → P u) → (u : Tree) → option_or o p ≡ Some u → P u
from_or None p P f g u e = g u e
from_or (Some t) p P f g u e = f u e

abbrev IsValue : Tree → Type 0
IsValue u = is_value u ≡ true

met_value : (i : ℕ) (p t : Tree) → is_value t ≡ true → (u : Tree) → met i p t ≡ Some u → is_value u ≡ true
met_value i (Par j) t h u e = by_test (nat_eq i j) e
  where
    or_t : Option Tree → Tree
    or_t None = t
    or_t (Some x) = x

    by_test : (b : Bool) → (if b then Some t else None) ≡ Some u → is_value u ≡ true
    by_test true q = subst IsValue (ap or_t q) h
    by_test false q = no_some q
met_value i (Var s p) (Var r t) h u e = met_value i p t h u e
met_value i (App f x) (App g y) h u e = from_or (met i f g) (met i x y) IsValue (met_value i f g (both h).0) (met_value i x y (both h).1) u e
met_value i (Arr a b) (Arr c d) h u e = from_or (met i a c) (met i b d) IsValue (met_value i a c (both h).0) (met_value i b d (both h).1) u e
met_value i (Qar j a b) (Qar k c d) h u e = clash h
met_value i (Op c ps) (Op d ts) h u e = clash h
met_value i _ _ h u e = no_some e

met_in_value : (i : ℕ) (ps ts : List Tree) → list_all is_value ts ≡ true → (u : Tree) → met_in i ps ts ≡ Some u → is_value u ≡ true
met_in_value i [] ts h u e = no_some e
met_in_value i (p ∷ ps) [] h u e = no_some e
met_in_value i (p ∷ ps) (t ∷ ts) h u e = from_or (met i p t) (met_in i ps ts) IsValue (met_value i p t (both h).0) (met_in_value i ps ts (both h).1) u e

pub matching_values : (before : Assignment) (ps ts : List Tree) (σ : Assignment) → HoldsValues before → list_all is_value ts ≡ true → matching before ps ts ≡ Some σ → HoldsValues σ
matching_values before ps ts σ v h e = by_test (pointwise tree_eq (map (put (tried before ps ts)) ps) ts) e
  where
    τ : Assignment
    τ = tried before ps ts

    or_τ : Option Assignment → Assignment
    or_τ None = τ
    or_τ (Some ρ) = ρ

    by_test : (b : Bool) → (if b then Some τ else None) ≡ Some σ → HoldsValues σ
    by_test true q = subst HoldsValues (ap or_τ q) (λ i t f. from_or (before i) (met_in i ps ts) IsValue (v i) (met_in_value i ps ts h) t f)
    by_test false q = absurd (true≢false (sym (ap is_some q)))

pub put_list_named : (σ : Assignment) (ps ts : List Tree) → list_all is_value ts ≡ true → map (put σ) ps ≡ ts → (j : ℕ) → occurs_in j ps ≡ true → is_some (σ j) ≡ true
put_list_named σ ps ts h e = by_list ps (subst (λ (us : List Tree). list_all is_value us ≡ true) (sym e) h)
  where
    by_list : (qs : List Tree) → list_all is_value (map (put σ) qs) ≡ true → (j : ℕ) → occurs_in j qs ≡ true → is_some (σ j) ≡ true
    by_list [] h' j o = clash o
    by_list (q ∷ qs) h' j o = from_either (occurs j q) (occurs_in j qs) (put_named σ q (both h').0 j) (by_list qs (both h').1 j) o
