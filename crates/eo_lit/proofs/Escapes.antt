-- Escapes in string literals.
use Rattle.std.specs.Prelude.{◌≡◌, ℕ, zero, suc, ◌+◌, Bool, true, false, ◌==◌, List, [], ◌∷◌, take, Option, Some, None, option_map, position, if◌then◌else◌, refl}
use Rattle.std.specs.List.{position_from}
use Rattle.std.proofs.Common.{sym, ◌∙◌, ap, arith, cond}
use Rattle.std.proofs.lemmas.Iterator.Adapters.{position_from-zero}
use Rattle.eo_lit.specs.Literals.{braced}

-- the place where the list begins only counts
shift_step : (b : Bool) (i : ℕ) (o q : Option ℕ) → q ≡ option_map suc o → cond b (Some (i + 1)) q ≡ option_map suc (cond b (Some i) o)
shift_step true i o q e = ap Some (omega arith)
shift_step false i o q e = e

position_from-shift : {X : Type 0} (p : X → Bool) (i : ℕ) (xs : List X) → position_from p (i + 1) xs ≡ option_map suc (position_from p i xs)
position_from-shift p i [] = refl
position_from-shift p i (x ∷ xs) = shift_step (p x) i (position_from p (i + 1) xs) (position_from p (i + 1 + 1) xs) (position_from-shift p (i + 1) xs)

braced_step : (t : Bool) (b : ℕ) (bytes : List ℕ) (digits : Option (List ℕ)) (o q : Option ℕ) → digits ≡ option_map (λ n. take n bytes) o → q ≡ option_map suc o
    → (if t then Some [] else option_map (λ ds. b ∷ ds) digits) ≡ option_map (λ n. take n (b ∷ bytes)) (cond t (Some 0) q)
braced_step true b bytes digits o q d e = refl
braced_step false b bytes digits None q d e = rw (d, e) refl
braced_step false b bytes digits (Some n) q d e = rw (d, e) refl

braced_from : (k : ℕ) (bytes : List ℕ) → braced k bytes ≡ option_map (λ n. take n bytes) (position_from (λ b. b == 125) 0 (take k bytes))
braced_from zero bytes = refl
braced_from (suc k) [] = refl
braced_from (suc k) (b ∷ bytes) =
    braced_step (b == 125) b bytes (braced k bytes) (position_from (λ c. c == 125) 0 (take k bytes)) (position_from (λ c. c == 125) 1 (take k bytes))
    (braced_from k bytes) (position_from-shift (λ c. c == 125) 0 (take k bytes))

pub braced_position : (k : ℕ) (bytes : List ℕ) → braced k bytes ≡ option_map (λ n. take n bytes) (position (λ b. b == 125) (take k bytes))
braced_position k bytes = braced_from k bytes ∙ ap (option_map (λ n. take n bytes)) (sym (position_from-zero (λ b. b == 125) (take k bytes)))
