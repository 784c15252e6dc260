-- The table of paths and the keys that hold it.
use Rattle.std.proofs.Common.{◌≡◌, ℕ, suc, ◌+◌, Bool, true, false, cond, not, ◌||◌, List, [], ◌∷◌, ◌++◌, length, map, position, slice_get, Some, None, refl, sym, ap, ◌∙◌, arith, nat_lt, get_or, is_some, if◌then◌else◌, eqb, eq-eqb, add-zero, lt-ltb, length-append}
use Rattle.std.proofs.lemmas.List.{map-append}
use Rattle.std.proofs.lemmas.Bool.{false≢true}
use Rattle.std.proofs.lemmas.List.Folds.{position_or_len_push}
use Rattle.eo_base.proofs.Tests.{nat_lt-first, nat_lt-suc}
use Rattle.indexmap.specs.IndexSet.{insert_key}
use Rattle.std.specs.List.{position_or_len, list_any}
use Rattle.std.specs.Str.{bytes_eq}
use Rattle.std.proofs.lemmas.Option.{slice_get-get_or}
use Rattle.std.proofs.lemmas.List.Quantifiers.{position-Some}
use Rattle.std.proofs.lemmas.Slice.Eq.{bytes_eq-Decides}
use Rattle.eo_io.specs.Paths.{with_path}

-- a test of what each element shows
pub position_or_len-map : {X Y : Type 0} (p : Y → Bool) (f : X → Y) (xs : List X) → position_or_len (λ x. p (f x)) xs ≡ position_or_len p (map f xs)
position_or_len-map p f [] = refl
position_or_len-map p f (x ∷ xs) = ap (λ n. cond (not (p (f x))) (1 + n) 0) (position_or_len-map p f xs)

list_any-map : {X Y : Type 0} (p : Y → Bool) (f : X → Y) (xs : List X) → list_any (λ x. p (f x)) xs ≡ list_any p (map f xs)
list_any-map p f [] = refl
list_any-map p f (x ∷ xs) = ap (λ b. p (f x) || b) (list_any-map p f xs)

length-map : {X Y : Type 0} (f : X → Y) (xs : List X) → length xs ≡ length (map f xs)
length-map f [] = refl
length-map f (x ∷ xs) = ap suc (length-map f xs)

pub position-map : {X Y : Type 0} (p : Y → Bool) (f : X → Y) (xs : List X) → position (λ x. p (f x)) xs ≡ position p (map f xs)
position-map p f xs =
    let n = position_or_len-map p f xs in
    let m = length-map f xs in
    λ i. cond (nat_lt (n i) (m i)) (Some (n i)) None

-- the number of a path that is there
pub found : (paths : List (List ℕ)) (path : List ℕ) (n : ℕ) → position (bytes_eq path) paths ≡ Some n → slice_get paths n ≡ Some path
found paths path n h =
    let is = position-Some (bytes_eq path) paths n [] h in
    slice_get-get_or paths n [] is.0 ∙ ap Some (sym ((bytes_eq-Decides path (get_or paths n [])).0 is.1))

module _ (p : List ℕ → Bool) where
  list_any-position : (paths : List (List ℕ)) → list_any p paths ≡ nat_lt (position_or_len p paths) (length paths)
  list_any-position [] = refl
  list_any-position (x ∷ xs) = by (p x) (list_any-position xs)
    where
      by : (b : Bool) → list_any p xs ≡ nat_lt (position_or_len p xs) (length xs) → (b || list_any p xs) ≡ nat_lt (cond (not b) (1 + position_or_len p xs) 0) (suc (length xs))
      by true h = nat_lt-first (length xs)
      by false h = h ∙ nat_lt-suc (position_or_len p xs) (length xs)

  -- whether there is a first place
  pub is_some-position : (paths : List (List ℕ)) → is_some (position p paths) ≡ list_any p paths
  is_some-position paths = by (nat_lt (position_or_len p paths) (length paths)) ∙ sym (list_any-position paths)
    where
      by : (b : Bool) → is_some (cond b (Some (position_or_len p paths)) None) ≡ b
      by true = refl
      by false = refl

-- the table after a path is added that is there
pub with_path-there : (paths : List (List ℕ)) (path : List ℕ) (n : ℕ) → position (bytes_eq path) paths ≡ Some n → paths ≡ with_path paths path
with_path-there paths path n h = ap (λ b. if b then paths else paths ++ path ∷ []) (sym (ap is_some h) ∙ is_some-position (bytes_eq path) paths)

absent_len : (p : List ℕ → Bool) (paths : List (List ℕ)) → list_any p paths ≡ false → position_or_len p paths ≡ length paths
absent_len p [] h = refl
absent_len p (x ∷ xs) h = by (p x) h (absent_len p xs)
  where
    by : (b : Bool) → (b || list_any p xs) ≡ false → (list_any p xs ≡ false → position_or_len p xs ≡ length xs) → cond (not b) (1 + position_or_len p xs) 0 ≡ suc (length xs)
    by true e rest = absurd (false≢true (sym e))
    by false e rest = ap (λ n. 1 + n) (rest e) ∙ omega arith

-- a path that is not there comes after all others
module _ (paths : List (List ℕ)) (path : List ℕ) (absent : position (bytes_eq path) paths ≡ None) where
  not_any : list_any (bytes_eq path) paths ≡ false
  not_any = sym (is_some-position (bytes_eq path) paths) ∙ ap is_some absent

  last_place : position_or_len (bytes_eq path) paths ≡ length paths
  last_place = absent_len (bytes_eq path) paths not_any

  -- the table with the path, after the others
  pub with_path-new : with_path paths path ≡ paths ++ path ∷ []
  with_path-new = ap (λ b. if b then paths else paths ++ path ∷ []) not_any

  -- its number
  pub position-new : position (bytes_eq path) (paths ++ path ∷ []) ≡ Some (length paths)
  position-new =
      let own : bytes_eq path path ≡ true = (bytes_eq-Decides path path).1 refl in
      let push = position_or_len_push (bytes_eq path) paths path in
      let place : position_or_len (bytes_eq path) (paths ++ path ∷ []) ≡ length paths =
      push ∙ (λ i. cond (eqb (last_place i) (length paths)) (length paths + cond (own i) 0 1) (last_place i))
      ∙ ap (λ b. cond b (length paths + 0) (length paths)) (eq-eqb (length paths) (length paths) refl) ∙ add-zero (length paths) in
      let within : nat_lt (length paths) (length (paths ++ path ∷ [])) ≡ true = lt-ltb _ _ (omega (arith, length-append paths (path ∷ []))) in
      (λ i. cond (nat_lt (place i) (length (paths ++ path ∷ []))) (Some (place i)) None) ∙ ap (λ b. cond b (Some (length paths)) None) within

-- the keys of a table after a new path is added
module _ {K : Type 0} (items : K → List ℕ) (keys : List K) (key : K) (paths : List (List ℕ)) (path : List ℕ)
    (seen : map items keys ≡ paths) (own : items key ≡ path) (absent : position (bytes_eq path) paths ≡ None) where
  not_key : list_any (λ k. bytes_eq (items key) (items k)) keys ≡ false
  not_key =
      (λ i. list_any (λ k. bytes_eq (own i) (items k)) keys) ∙ list_any-map (bytes_eq path) items keys
      ∙ ap (list_any (bytes_eq path)) seen ∙ not_any paths path absent

  pub keys-inserted : map items (insert_key (λ x y. bytes_eq (items x) (items y)) keys key) ≡ paths ++ path ∷ []
  keys-inserted =
      ap (λ b. map items (if b then keys else keys ++ key ∷ [])) not_key ∙ map-append items keys (key ∷ [])
      ∙ (λ i. seen i ++ own i ∷ [])

  pub number-inserted : position_or_len (λ k. bytes_eq (items key) (items k)) keys ≡ length paths
  number-inserted =
      (λ i. position_or_len (λ k. bytes_eq (own i) (items k)) keys) ∙ position_or_len-map (bytes_eq path) items keys
      ∙ ap (position_or_len (bytes_eq path)) seen ∙ last_place paths path absent
