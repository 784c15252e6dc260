-- Elements by their places, and bounds of numbers.
use Rattle.std.proofs.Common.{◌≡◌, ℕ, zero, suc, ◌<◌, ◌≤◌, List, [], ◌∷◌, ◌++◌, nat_eq, length, map, slice_get, get_or, if◌then◌else◌, Bool, true, false, Option, Some, All, Contains, ◌⊎◌, inl, inr, refl, sym, ap, subst, ◌∙◌, arith}
use Rattle.std.proofs.lemmas.Bool.{eqb-true}
use Rattle.std.proofs.lemmas.Option.{none-some, same_Some}
use Rattle.std.proofs.lemmas.List.{map-append}
use Rattle.std.proofs.lemmas.List.Elements.{All-nil, All-cons, All-head, All-tail, All-push, All-weaker, Contains-append_right, Contains-append_cases}

-- what is at a place is there still when more comes at the end
pub slice_get_left : {X : Type 0} (xs ys : List X) (i : ℕ) (x : X) → slice_get xs i ≡ Some x → slice_get (xs ++ ys) i ≡ Some x
slice_get_left [] ys i x p = absurd (none-some x p)
slice_get_left (z ∷ zs) ys zero x p = p
slice_get_left (z ∷ zs) ys (suc i) x p = slice_get_left zs ys i x p

-- the first of what comes at the end
pub slice_get_seam : {X : Type 0} (xs : List X) (y : X) (ys : List X) → slice_get (xs ++ y ∷ ys) (length xs) ≡ Some y
slice_get_seam [] y ys = refl
slice_get_seam (x ∷ xs) y ys = slice_get_seam xs y ys

-- numbers below a bound are below a greater one
pub ids_more : (n m : ℕ) → n ≤ m → (is : List ℕ) → All (λ i. i < n) is → All (λ i. i < m) is
ids_more n m l is h = All-weaker (λ i. i < n) (λ i. i < m) (λ i g. omega (arith, l, g)) is h

-- and so they are with one more at the end
pub push_below : (n m i : ℕ) (is : List ℕ) → n ≤ m → i < m → All (λ j. j < n) is → All (λ j. j < m) (is ++ i ∷ [])
push_below n m i is l b h = All-push (λ j. j < m) is i (ids_more n m l is h) b

-- two functions that agree below a bound, on numbers below it
module _ {X : Type 0} (n : ℕ) (f g : ℕ → X) (same : (i : ℕ) → i < n → g i ≡ f i) where
  pub map_same : (is : List ℕ) → All (λ i. i < n) is → map g is ≡ map f is
  map_same [] h = refl
  map_same (i ∷ is) h = λ k. same i (All-head (λ j. j < n) i is h) k ∷ map_same is (All-tail (λ j. j < n) i is h) k

  pub push_same : (is : List ℕ) (i : ℕ) (x : X) → All (λ j. j < n) is → g i ≡ x → map g (is ++ i ∷ []) ≡ map f is ++ x ∷ []
  push_same is i x h e = map-append g is (i ∷ []) ∙ (λ k. map_same is h k ++ e k ∷ [])

-- what holds of all values of a function holds where it has one value more
pub holds_more : (R : ℕ → ℕ → Type 0) (f g : ℕ → Option ℕ) (i j : ℕ) → ((k : ℕ) → g k ≡ (if nat_eq i k then Some j else f k)) → ((k v : ℕ) → f k ≡ Some v → R k v) → R i j → (k v : ℕ) → g k ≡ Some v → R k v
holds_more R f g i j e h r k v p = by_test (nat_eq i k) refl (sym (e k) ∙ p)
  where
    by_test : (b : Bool) → nat_eq i k ≡ b → (if b then Some j else f k) ≡ Some v → R k v
    by_test true q w = subst (λ (x : ℕ). R x v) (eqb-true i k q) (subst (R i) (same_Some j v w) r)
    by_test false q w = h k v w

-- what all of a list pass, its first ones and its last one pass
-- the element at a place passes what all pass
pub all_at : {X : Type 0} (P : X → Type 0) (xs : List X) (i : ℕ) (x : X) → All P xs → i < length xs → x ≡ get_or xs i x → P x
all_at P xs i x h l e = subst P (sym e) (h i x l)

pub all_first : {X : Type 0} (P : X → Type 0) (xs ys : List X) → All P (xs ++ ys) → All P xs
all_first P [] ys h = All-nil P
all_first P (x ∷ xs) ys h = All-cons P x xs (All-head P x (xs ++ ys) h) (all_first P xs ys (All-tail P x (xs ++ ys) h))

pub all_last : {X : Type 0} (P : X → Type 0) (xs : List X) (y : X) → All P (xs ++ y ∷ []) → P y
all_last P [] y h = All-head P y [] h
all_last P (x ∷ xs) y h = all_last P xs y (All-tail P x (xs ++ y ∷ []) h)

-- what a function makes of the element at a place
pub get_or-at : {X Y : Type 0} (f : X → Y) (xs : List X) (i : ℕ) (x : X) (d : Y) → i < length xs → x ≡ get_or xs i x → get_or (map f xs) i d ≡ f x
get_or-at f [] i x d l e = absurd (omega arith)
get_or-at f (y ∷ ys) zero x d l e = ap f (sym e)
get_or-at f (y ∷ ys) (suc i) x d l e = get_or-at f ys i x d (omega arith) e

-- an element of a list is its first or a later one, and an empty list has none
pub contains_later : {X : Type 0} (y : X) (xs : List X) (x : X) → Contains xs x → Contains (y ∷ xs) x
contains_later y xs x h = Contains-append_right (y ∷ []) xs x h

pub contains_split : {X : Type 0} (y : X) (xs : List X) (x : X) → Contains (y ∷ xs) x → (y ≡ x) ⊎ Contains xs x
contains_split y xs x h = elim (Contains-append_cases (y ∷ []) xs x h) [ inl c ↦ inl (one c) | inr c ↦ inr c ]
  where
    one : Contains (y ∷ []) x → y ≡ x
    one c = at c.0 c.1 c.2
      where
        at : (k : ℕ) → k < length (y ∷ []) → get_or (y ∷ []) k x ≡ x → y ≡ x
        at zero l e = e
        at (suc k) l e = absurd (omega (arith, l))

pub contains_none : {X : Type 0} (x : X) {A : Type 0} → Contains {X = X} [] x → A
contains_none x c = absurd (omega (arith, c.1))
