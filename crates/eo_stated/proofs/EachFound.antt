-- What numbers of a list name, found one by one.
use Rattle.std.proofs.Common.{◌≡◌, refl, ℕ, suc, ◌+◌, ◌<◌, ◌≤◌, List, [], ◌∷◌, ◌++◌, length, drop, get_or, Option, Some, None, sym, ap, ◌∙◌, append_assoc, append-nil, add-one, drop-cons}
use Rattle.std.specs.Prelude.{option_map, option_and_then}
use Rattle.std.proofs.lemmas.List.{drop_all}
use Rattle.eo_cert.specs.Stated.{each}

-- the first i are found
abbrev pub EachFound : {A B : Type 0} → (A → Option B) → List A → ℕ → List B → Type 0
EachFound f xs i ys = each f xs ≡ option_map (λ r. ys ++ r) (each f (drop i xs))

one_more : {B : Type 0} (ys : List B) (y : B) (o : Option (List B)) → option_map (λ r. ys ++ r) (option_and_then (λ zs. Some (y ∷ zs)) o) ≡ option_map (λ r. (ys ++ y ∷ []) ++ r) o
one_more ys y None = refl
one_more ys y (Some r) = ap Some (sym (append_assoc ys (y ∷ []) r))

found_more : {A B : Type 0} (f : A → Option B) (x : A) (xs : List A) (ys : List B) (y : B) → Some y ≡ f x
    → option_map (λ r. ys ++ r) (each f (x ∷ xs)) ≡ option_map (λ r. (ys ++ y ∷ []) ++ r) (each f xs)
found_more f x xs ys y e = rw (← e) (one_more ys y (each f xs))

found_none : {A B : Type 0} (f : A → Option B) (x : A) (xs : List A) (ys : List B) → None ≡ f x → None ≡ option_map (λ r. ys ++ r) (each f (x ∷ xs))
found_none f x xs ys e = rw (← e) refl

pub each_step : {A B : Type 0} (f : A → Option B) (xs : List A) (i : ℕ) (d : A) (ys : List B) (y : B) → i < length xs → Some y ≡ f (get_or xs i d)
    → EachFound f xs i ys → EachFound f xs (i + 1) (ys ++ y ∷ [])
each_step f xs i d ys y lt e h =
    let cut = drop-cons xs i d lt in
    rw add-one (h ∙ ap (λ zs. option_map (λ r. ys ++ r) (each f zs)) cut ∙ found_more f (get_or xs i d) (drop (suc i) xs) ys y e)

pub each_fails : {A B : Type 0} (f : A → Option B) (xs : List A) (i : ℕ) (d : A) (ys : List B) → i < length xs → None ≡ f (get_or xs i d)
    → EachFound f xs i ys → None ≡ each f xs
each_fails f xs i d ys lt e h =
    let cut = drop-cons xs i d lt in
    found_none f (get_or xs i d) (drop (suc i) xs) ys e ∙ sym (h ∙ ap (λ zs. option_map (λ r. ys ++ r) (each f zs)) cut)

done_none : {B : Type 0} (ys : List B) → Some ys ≡ Some (ys ++ [])
done_none ys = ap Some (sym (append-nil ys))

pub each_done : {A B : Type 0} (f : A → Option B) (xs : List A) (i : ℕ) (ys : List B) → length xs ≤ i → EachFound f xs i ys → Some ys ≡ each f xs
each_done f xs i ys past h = done_none ys ∙ sym (h ∙ ap (λ zs. option_map (λ r. ys ++ r) (each f zs)) (drop_all i xs past))
