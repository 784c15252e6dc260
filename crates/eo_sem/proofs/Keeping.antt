-- The rules of the suite that preserve truth, by their names.
use Rattle.std.specs.Prelude.{◌≡◌, ℕ, Bool, false, ◌||◌, List, [], ◌∷◌, map, Option, None, Some, option_map, slice_get, bytes_eq, refl}
use Rattle.std.specs.List.{list_any}
use Rattle.std.specs.Option.{option_map_or}
use Rattle.std.proofs.Common.{sym, ◌∙◌, ap}
use Rattle.std.proofs.lemmas.Option.{slice_get-map}
use Rattle.eo_sig.specs.Signature.{Rule, rules}
use Rattle.eo_sem.specs.ProveAnswers.{rule_names}
use Rattle.eo_sem.specs.Proving.{keeps_truth}
use Rattle.eo_sem.specs.SemanticRules.{is_semantic, semantic_rules}
use Rattle.eo_sem.specs.Suite.{suite_signature}

-- a test of the name at a place
by_name : {A : Type 0} (p : List ℕ → Bool) (name : A → List ℕ) (xs : List A) (n : ℕ) → option_map_or (λ (x : A). p (name x)) (slice_get xs n) false ≡ option_map_or p (slice_get (map name xs) n) false
by_name {A} p name xs n =
    by (slice_get xs n) ∙ ap (λ (o : Option (List ℕ)). option_map_or p o false) (sym (slice_get-map name xs n))
  where
    by : (o : Option A) → option_map_or (λ (x : A). p (name x)) o false ≡ option_map_or p (option_map name o) false
    by None = refl
    by (Some x) = refl

-- one of several names
any_name : {A : Type 0} (name : A → List ℕ) (one : List ℕ) (xs : List A) → list_any (λ (x : A). bytes_eq one (name x)) xs ≡ list_any (bytes_eq one) (map name xs)
any_name name one [] = refl
any_name name one (x ∷ xs) = ap (λ (b : Bool). bytes_eq one (name x) || b) (any_name name one xs)

each : {A : Type 0} (p q : A → Bool) → ((x : A) → p x ≡ q x) → (o : Option A) → option_map_or p o false ≡ option_map_or q o false
each p q same None = refl
each p q same (Some x) = same x

-- Two tables of names, of the suite's rules and of those that preserve truth, say of a number whether its rule does.
pub kept_by : {A B : Type 0} (f : A → List ℕ) (g : B → List ℕ) (xs : List A) (ys : List B) → map f xs ≡ rule_names → map g ys ≡ semantic_rules → (n : ℕ)
    → option_map_or (λ (x : A). list_any (λ (y : B). bytes_eq (f x) (g y)) ys) (slice_get xs n) false ≡ keeps_truth suite_signature n
kept_by {A} {B} f g xs ys all some n =
    each (λ (x : A). list_any (λ (y : B). bytes_eq (f x) (g y)) ys) (λ (x : A). is_semantic (f x)) (λ x. any_name g (f x) ys ∙ ap (λ (names : List (List ℕ)). list_any (bytes_eq (f x)) names) some) (slice_get xs n)
    ∙ (by_name is_semantic f xs n ∙ (ap (λ (names : List (List ℕ)). option_map_or is_semantic (slice_get names n) false) all ∙ sym (by_name is_semantic (λ (r : Rule). r.name) (rules suite_signature) n)))
