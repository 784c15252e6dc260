-- Spelling and reading of lists are inverse, and lists of values are spelled by values.
use Rattle.std.specs.Prelude.{◌≡◌, ℕ, zero, suc, ◌<◌, ◌≤◌, All, length, Bool, true, false, if◌then◌else◌, List, [], ◌∷◌, ◌++◌, map, Option, Some, None, is_some, option_map, refl}
use Rattle.std.specs.List.{list_all}
use Rattle.std.proofs.Common.{◌+◌, sym, ◌∙◌, ap, ap₂, subst, arith}
use Rattle.std.proofs.lemmas.List.Elements.{All-append}
use Rattle.std.proofs.lemmas.Option.{same_Some}
use Rattle.eo_base.proofs.Tests.{both, join, clash}
use Rattle.eo_term.specs.Tree.{Tree, App, height, is_value, tree_eq}
use Rattle.eo_term.specs.Terms.{tree_at}
use Rattle.eo_term.proofs.Equality.{tree_same, tree_refl}
use Rattle.eo_lists.specs.Lists.{link, spell, none_or_empty, spelled}
use Rattle.eo_lists.specs.Parts.{unlinked}

-- a list is at least as tall as its terminator
height_spell : (f : Tree) (n : Tree) (xs : List Tree) → height n ≤ height (spell f n xs)
height_spell f n [] = omega arith
height_spell f n (x ∷ xs) = let h = height_spell f n xs in omega arith

not_terminator : (f : Tree) (n x : Tree) (xs : List Tree) → tree_eq (spell f n (x ∷ xs)) n ≡ true → ⊥
not_terminator f n x xs e =
    let same : height (spell f n (x ∷ xs)) ≡ height n = ap height (tree_same (spell f n (x ∷ xs)) n e) in
    let h = height_spell f n xs in
    omega arith

pub of_terminator : (f : Tree) (n : Tree) → spelled f n n ≡ Some []
of_terminator f (App (App g a) t) = ap (λ (b : Bool). if b then Some [] else (if tree_eq g f then option_map (λ items. a ∷ items) (spelled f (App (App g a) t) t) else None)) (tree_refl (App (App g a) t))
of_terminator f n = ap none_or_empty (tree_refl n)

pub spelled-spell : (f : Tree) (n : Tree) (xs : List Tree) → spelled f n (spell f n xs) ≡ Some xs
spelled-spell f n [] = of_terminator f n
spelled-spell f n (x ∷ xs) = by_test (spelled-spell f n xs) (tree_eq (spell f n (x ∷ xs)) n) refl
  where
    rest : Option (List Tree)
    rest = if tree_eq f f then option_map (λ items. x ∷ items) (spelled f n (spell f n xs)) else None

    by_test : spelled f n (spell f n xs) ≡ Some xs → (b : Bool) → tree_eq (spell f n (x ∷ xs)) n ≡ b → (if b then Some [] else rest) ≡ Some (x ∷ xs)
    by_test inner true p = absurd (not_terminator f n x xs p)
    by_test inner false p = ap (λ (b : Bool). if b then option_map (λ items. x ∷ items) (spelled f n (spell f n xs)) else None) (tree_refl f) ∙ ap (option_map (λ items. x ∷ items)) inner

map_some : (x : Tree) (o : Option (List Tree)) (ys : List Tree) → option_map (λ items. x ∷ items) o ≡ Some ys → (xs : List Tree) × (o ≡ Some xs) × (x ∷ xs ≡ ys)
map_some x None ys e = clash (ap is_some e)
map_some x (Some xs) ys e = (xs, refl, same_Some _ _ e)

empty_same : (n t : Tree) (xs : List Tree) → none_or_empty (tree_eq t n) ≡ Some xs → (tree_eq t n ≡ true) × ([] ≡ xs)
empty_same n t xs e = by_test (tree_eq t n) e
  where
    by_test : (b : Bool) → none_or_empty b ≡ Some xs → (b ≡ true) × ([] ≡ xs)
    by_test true q = (refl, same_Some _ _ q)
    by_test false q = clash (ap is_some q)

-- what a tree that spells a list gives: it is the spelled list, and its items are values where it is
pub spell-spelled : (f : Tree) (n t : Tree) (xs : List Tree) → spelled f n t ≡ Some xs → (spell f n xs ≡ t) × (is_value t ≡ true → list_all is_value xs ≡ true)
spell-spelled f n (App (App g a) t) xs e = by_test (spell-spelled f n t) (tree_eq (App (App g a) t) n) (tree_eq g f) refl refl e
  where
    by_test : ((ys : List Tree) → spelled f n t ≡ Some ys → (spell f n ys ≡ t) × (is_value t ≡ true → list_all is_value ys ≡ true)) → (b c : Bool) → tree_eq (App (App g a) t) n ≡ b → tree_eq g f ≡ c → (if b then Some [] else (if c then option_map (λ items. a ∷ items) (spelled f n t) else None)) ≡ Some xs → (spell f n xs ≡ App (App g a) t) × (is_value (App (App g a) t) ≡ true → list_all is_value xs ≡ true)
    by_test inner true c p q h =
        let empty : [] ≡ xs = same_Some _ _ h in
        (ap (spell f n) (sym empty) ∙ sym (tree_same (App (App g a) t) n p), λ v. ap (list_all is_value) (sym empty))
    by_test inner false true p q h =
        let m = map_some a (spelled f n t) xs h in
        let r = inner m.0 m.1 in
        (ap (spell f n) (sym m.2) ∙ ap₂ (λ (x y : Tree). App (App x a) y) (sym (tree_same g f q)) r.0, λ v. ap (list_all is_value) (sym m.2) ∙ join (both (both v).0).1 (r.1 (both v).1))
    by_test inner false false p q h = clash (ap is_some h)
spell-spelled f n t xs e =
    let r = empty_same n t xs e in
    (ap (spell f n) (sym r.1) ∙ sym (tree_same t n r.0), λ v. ap (list_all is_value) (sym r.1))

-- the list of a tree that has a length
pub spelled_by : (f n t : Tree) → is_some (option_map length (spelled f n t)) ≡ true → (xs : List Tree) × (spelled f n t ≡ Some xs) × (spell f n xs ≡ t)
spelled_by f n t h = by_list (spelled f n t) refl h
  where
    by_list : (o : Option (List Tree)) → spelled f n t ≡ o → is_some (option_map length o) ≡ true → (xs : List Tree) × (o ≡ Some xs) × (spell f n xs ≡ t)
    by_list None e p = clash p
    by_list (Some xs) e p = (xs, refl, (spell-spelled f n t xs e).0)

pub spell_value : (f n : Tree) (ts : List Tree) → is_value f ≡ true → is_value n ≡ true → list_all is_value ts ≡ true → is_value (spell f n ts) ≡ true
spell_value f n [] g h k = h
spell_value f n (t ∷ ts) g h k = join (join g (both k).0) (spell_value f n ts g h (both k).1)

-- ---- a tree taken apart

abbrev taken : Tree → Tree → Option (Tree × Tree)
taken a t = Some (a, t)

pub no_link : (f n t : Tree) → tree_eq t n ≡ false → unlinked f t ≡ None → spelled f n t ≡ None
no_link f n (App (App g a) t) p e = by_test (tree_eq g f) refl e
  where
    by_test : (b : Bool) → tree_eq g f ≡ b → (if b then taken a t else None) ≡ None → spelled f n (App (App g a) t) ≡ None
    by_test true q h = clash (ap is_some (sym h))
    by_test false q h =
        ap (λ (b : Bool). if b then Some [] else (if tree_eq g f then option_map (λ items. a ∷ items) (spelled f n t) else None)) p
        ∙ ap (λ (b : Bool). if b then option_map (λ items. a ∷ items) (spelled f n t) else None) q
no_link f n t p e = ap none_or_empty p

pub one_link : (f n a t : Tree) → tree_eq (link f a t) n ≡ false → spelled f n (link f a t) ≡ option_map (λ items. a ∷ items) (spelled f n t)
one_link f n a t p =
    ap (λ (b : Bool). if b then Some [] else (if tree_eq f f then option_map (λ items. a ∷ items) (spelled f n t) else None)) p
    ∙ ap (λ (b : Bool). if b then option_map (λ items. a ∷ items) (spelled f n t) else None) (tree_refl f)

-- one item more before what is left
pub after_link : (ts : List Tree) (f n u b : Tree) (i : ℕ) (found more : List ℕ) (whole : Option (List Tree)) → whole ≡ option_map (λ xs. map (tree_at ts) found ++ xs) (spelled f n u) → tree_eq u n ≡ false
    → u ≡ link f (tree_at ts i) b → more ≡ found ++ i ∷ [] → whole ≡ option_map (λ xs. map (tree_at ts) more ++ xs) (spelled f n b)
after_link ts f n u b i found more whole w p e m =
    w ∙ ap (λ v. option_map (λ xs. map (tree_at ts) found ++ xs) (spelled f n v)) e
    ∙ ap (option_map (λ xs. map (tree_at ts) found ++ xs)) (one_link f n (tree_at ts i) b (ap (λ v. tree_eq v n) (sym e) ∙ p))
    ∙ by_rest (spelled f n b)
    ∙ ap (λ is. option_map (λ xs. map (tree_at ts) is ++ xs) (spelled f n b)) (sym m)
  where
    by_items : (is : List ℕ) (xs : List Tree) → map (tree_at ts) is ++ tree_at ts i ∷ xs ≡ map (tree_at ts) (is ++ i ∷ []) ++ xs
    by_items [] xs = refl
    by_items (k ∷ is) xs = ap (λ ys. tree_at ts k ∷ ys) (by_items is xs)

    by_rest : (o : Option (List Tree)) → option_map (λ xs. map (tree_at ts) found ++ xs) (option_map (λ items. tree_at ts i ∷ items) o) ≡ option_map (λ xs. map (tree_at ts) (found ++ i ∷ []) ++ xs) o
    by_rest None = refl
    by_rest (Some xs) = ap Some (by_items found xs)

-- one item more is counted before what is left
pub count_link : (f n u a b : Tree) (k : ℕ) (whole : Option ℕ) → whole ≡ option_map (λ xs. k + length xs) (spelled f n u) → tree_eq u n ≡ false → u ≡ link f a b → whole ≡ option_map (λ xs. k + 1 + length xs) (spelled f n b)
count_link f n u a b k whole w p e =
    w ∙ ap (λ v. option_map (λ xs. k + length xs) (spelled f n v)) e
    ∙ ap (option_map (λ xs. k + length xs)) (one_link f n a b (ap (λ v. tree_eq v n) (sym e) ∙ p))
    ∙ by_rest (spelled f n b)
  where
    by_rest : (o : Option (List Tree)) → option_map (λ xs. k + length xs) (option_map (λ items. a ∷ items) o) ≡ option_map (λ xs. k + 1 + length xs) o
    by_rest None = refl
    by_rest (Some xs) = let one : k + suc (length xs) ≡ k + 1 + length xs = omega arith in ap Some one

all_one : (P : ℕ → Type 0) (i : ℕ) → P i → All P (i ∷ [])
all_one P i h zero d l = h
all_one P i h (suc k) d l = absurd (omega arith)

pub all_pushed : (ts : List Tree) (found : List ℕ) (i : ℕ) (more : List ℕ) → All (λ j. j < length ts) found → i < length ts → more ≡ found ++ i ∷ [] → All (λ j. j < length ts) more
all_pushed ts found i more h l m = subst (All (λ j. j < length ts)) (sym m) (All-append (λ j. j < length ts) found (i ∷ []) h (all_one (λ j. j < length ts) i l))
