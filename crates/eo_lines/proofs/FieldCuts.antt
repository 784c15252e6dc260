-- Fields by the place of the first space.
use Rattle.std.proofs.Common.{◌≡◌, ℕ, zero, suc, ◌+◌, ◌==◌, Bool, true, false, List, [], ◌∷◌, Option, Some, None, refl, ap, sym, ◌∙◌, arith, cond}
use Rattle.std.specs.Prelude.{position, option_map, if◌then◌else◌}
use Rattle.std.specs.List.{position_from}
use Rattle.std.proofs.lemmas.Iterator.Adapters.{position_from-zero}
use Rattle.eo_lines.specs.Forms.{Field, fields, longer_first}
use Rattle.eo_lines.specs.Reading.{cut, left}

abbrev is_space : ℕ → Bool
is_space b = b == 32

shift_step : (b : Bool) (i : ℕ) (o q : Option ℕ) → q ≡ option_map suc o → cond b (Some (i + 1)) q ≡ option_map suc (cond b (Some i) o)
shift_step true i o q e = ap Some (omega arith)
shift_step false i o q e = e

position_from-shift : (i : ℕ) (xs : List ℕ) → position_from is_space (i + 1) xs ≡ option_map suc (position_from is_space i xs)
position_from-shift i [] = refl
position_from-shift i (x ∷ xs) =
    shift_step (is_space x) i (position_from is_space (i + 1) xs) (position_from is_space (i + 1 + 1) xs) (position_from-shift (i + 1) xs)

cut_step : (t : Bool) (b : ℕ) (xs : List ℕ) (o q : Option ℕ) → fields xs ≡ cut o xs → q ≡ option_map suc o
    → (if t then [] ∷ fields xs else longer_first b (fields xs)) ≡ cut (cond t (Some 0) q) (b ∷ xs)
cut_step true b xs o q d e = refl
cut_step false b xs None q d e = rw (d, e) refl
cut_step false b xs (Some n) q d e = let s : suc n + 1 ≡ suc (n + 1) = omega arith in rw (d, e) (rw s refl)

fields_from : (xs : List ℕ) → fields xs ≡ cut (position_from is_space 0 xs) xs
fields_from [] = refl
fields_from (b ∷ xs) =
    cut_step (is_space b) b xs (position_from is_space 0 xs) (position_from is_space 1 xs) (fields_from xs) (position_from-shift 0 xs)

pub fields_cut : (xs : List ℕ) → fields xs ≡ cut (position (λ b. b == 32) xs) xs
fields_cut xs = fields_from xs ∙ ap (λ o. cut o xs) (sym (position_from-zero is_space xs))

longer_some : (b : ℕ) (fs : List Field) → longer_first b fs ≡ [] → {A : Type 0} → A
longer_some b [] e = cc
longer_some b (f ∷ fs) e = cc

some_step : (t : Bool) (b : ℕ) (xs : List ℕ) → (if t then [] ∷ fields xs else longer_first b (fields xs)) ≡ [] → {A : Type 0} → A
some_step true b xs e = cc
some_step false b xs e = longer_some b (fields xs) e

fields_some : (xs : List ℕ) → fields xs ≡ [] → {A : Type 0} → A
fields_some [] e = cc
fields_some (b ∷ xs) e = some_step (is_space b) b xs e

pub ended_none : (ended : Bool) (xs : List ℕ) → left ended xs ≡ [] → ended ≡ true
ended_none true xs e = refl
ended_none false xs e = fields_some xs e
