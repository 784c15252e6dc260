-- What is made of arguments.
use Rattle.std.proofs.Common.{◌≡◌, ℕ, zero, suc, ◌+◌, ◌<◌, ◌≤◌, Bool, true, false, List, [], ◌∷◌, length, map, take, get_or, slice_get, Option, Some, None, All, nat_eq, refl, sym, ap, ◌∙◌, arith}
use Rattle.std.specs.Prelude.{if◌then◌else◌}
use Rattle.std.specs.Option.{option_flatten}
use Rattle.std.proofs.lemmas.List.{take_all}
use Rattle.std.proofs.lemmas.List.Elements.{All-head, All-tail}
use Rattle.std.proofs.lemmas.Bool.Decides.{nat_tests}
use Rattle.std.proofs.lemmas.List.{length-map}
use Rattle.eo_term.specs.Tree.{Tree, More, to_trees}
use Rattle.eo_term.specs.Terms.{tree_at, trees_at}
use Rattle.eo_pattern.specs.Matching.{assign}
use Rattle.eo_pattern.specs.Matching.{put}
use Rattle.eo_names.specs.declared.usage.Head.{Head}
use Rattle.eo_names.specs.declared.usage.Head.TheVariants as use_
use Rattle.eo_names.specs.Folding.{applied}
use Rattle.eo_names.specs.Contexts.{Context, Local}
use Rattle.eo_names.specs.Readers.{built}
use Rattle.eo_names.specs.Usage.{made_of, UseBelow}
use Rattle.eo_base.proofs.Elements.{get_or-at}

-- arguments as the trees of an operator
pub to_trees-at : (ts : List Tree) (is : List ℕ) → to_trees (map (tree_at ts) is) ≡ trees_at ts is
to_trees-at ts [] = refl
to_trees-at ts (i ∷ is) = ap (More (tree_at ts i)) (to_trees-at ts is)

-- nothing is held at first
pub none_held : (xs : List (Option ℕ)) → All (λ o. o ≡ None) xs → (j : ℕ) → option_flatten (slice_get xs j) ≡ None
none_held [] h j = refl
none_held (x ∷ xs) h zero = All-head (λ o. o ≡ None) x xs h
none_held (x ∷ xs) h (suc j) = none_held xs (All-tail (λ o. o ≡ None) x xs h) j

apart : (i j : ℕ) → (i ≡ j → ⊥) → nat_eq i j ≡ false
apart i j h = grind (arith, nat_tests)

both_suc : (i j : ℕ) → nat_eq (suc i) (suc j) ≡ nat_eq i j
both_suc i j = by (nat_eq i j) refl
  where
    by : (b : Bool) → nat_eq i j ≡ b → nat_eq (suc i) (suc j) ≡ b
    by true q = grind (arith, nat_tests)
    by false q = grind (arith, nat_tests)

-- one argument more
next_held : (us : List Tree) (i : ℕ) (t : Tree) → i < length us → get_or us i t ≡ t → (j : ℕ) → (if nat_eq i j then Some t else slice_get (take i us) j) ≡ slice_get (take (suc i) us) j
next_held [] i t l e j = absurd (omega arith)
next_held (u ∷ us) zero t l e zero = ap Some (sym e)
next_held (u ∷ us) zero t l e (suc j) = λ k. if apart 0 (suc j) (λ q. omega (arith, q)) k then Some t else None
next_held (u ∷ us) (suc i) t l e zero = λ k. if apart (suc i) 0 (λ q. omega (arith, q)) k then Some t else Some u
next_held (u ∷ us) (suc i) t l e (suc j) = (λ k. if both_suc i j k then Some t else slice_get (take i us) j) ∙ next_held us i t (omega arith) e j

pub assigned : (ts : List Tree) (args : List ℕ) (i a : ℕ) (σ : ℕ → Option Tree) → i < length args → a ≡ get_or args i a → ((j : ℕ) → σ j ≡ slice_get (take i (map (tree_at ts) args)) j) → (j : ℕ) → assign σ i (tree_at ts a) j ≡ slice_get (take (i + 1) (map (tree_at ts) args)) j
assigned ts args i a σ l e h j =
    let more : suc i ≡ i + 1 = omega arith in
    (λ k. if nat_eq i j then Some (tree_at ts a) else h j k)
    ∙ next_held (map (tree_at ts) args) i (tree_at ts a) (omega (arith, length-map args (tree_at ts))) (get_or-at (tree_at ts) args i a (tree_at ts a) l e) j
    ∙ (λ k. slice_get (take (more k) (map (tree_at ts) args)) j)

pub all_held : (ts : List Tree) (args : List ℕ) (i : ℕ) → length args ≤ i → (σ : ℕ → Option Tree) → ((j : ℕ) → σ j ≡ slice_get (take i (map (tree_at ts) args)) j) → σ ≡ slice_get (map (tree_at ts) args)
all_held ts args i l σ h =
    let whole = take_all i (map (tree_at ts) args) (omega (arith, length-map args (tree_at ts))) in
    λ k j. (h j ∙ (λ m. slice_get (whole m) j)) k

-- what is made of arguments over a table that has grown
pub made_grown : (ts us : List Tree) (n : ℕ) (c : Context) (ls : List Local) (u : Head) (args : List Tree) → UseBelow n u → ((i : ℕ) → i < n → tree_at us i ≡ tree_at ts i) → made_of ts c ls u args [] ≡ made_of us c ls u args []
made_grown ts us n c ls (use_.Apply f) args h g = ap (λ t. built (applied t args) []) (sym (g f h))
made_grown ts us n c ls use_.Underscore args h g = refl
made_grown ts us n c ls use_.Arrow args h g = refl
made_grown ts us n c ls (use_.Fold k) args h g = refl
made_grown ts us n c ls (use_.Bind b k) args h g = refl
made_grown ts us n c ls (use_.Macro t) args h g = ap (λ x. built (put (slice_get args) x) []) (sym (g t h))
made_grown ts us n c ls (use_.Operator code) args h g = refl
