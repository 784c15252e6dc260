-- Lists of which the first elements stay, and those of the others that are chosen.
use Rattle.std.proofs.Common.{◌≡◌, ℕ, zero, suc, ◌+◌, ◌-◌, ◌<◌, ◌≤◌, ◌⊎◌, inl, inr, Bool, true, false, List, [], ◌∷◌, ◌++◌, length, get_or, take, drop, slice_get, Some, All, if◌then◌else◌, refl, sym, ap, ◌∙◌, subst, arith, length-append, lt-ltb, le-ltb}
use Rattle.std.proofs.Math.ListN.{get_or-append}
use Rattle.std.proofs.lemmas.List.{get_or-take, length-take-le, length-drop, get_or-append_right, get_or_default, get_or-drop}
use Rattle.std.proofs.lemmas.Bool.{cases_lt, false≢true}
use Rattle.std.proofs.lemmas.Option.{none-some}
use Rattle.eo_term.specs.Terms.{AreApart}
use Rattle.eo_term.specs.Carry.{chosen, trues, place, ArePlaces, IsNeeded}

-- what is chosen, and from where
pub chosen-at : {X : Type 0} (w : List Bool) (xs : List X) (k : ℕ) (d : X) → get_or w k false ≡ true → k < length xs → (trues (take k w) < length (chosen w xs)) × (get_or (chosen w xs) (trues (take k w)) d ≡ get_or xs k d)
chosen-at [] xs k d e h = absurd (false≢true e)
chosen-at (b ∷ bs) [] k d e h = absurd (omega arith)
chosen-at (true ∷ bs) (x ∷ xs) zero d e h = (omega arith, refl)
chosen-at (false ∷ bs) (x ∷ xs) zero d e h = absurd (false≢true e)
chosen-at (true ∷ bs) (x ∷ xs) (suc k) d e h =
    let r = chosen-at bs xs k d e (omega arith) in
    (omega (arith, r.0), ap (λ n. get_or (x ∷ chosen bs xs) n d) (one (trues (take k bs))) ∙ r.1)
  where
    one : (n : ℕ) → 1 + n ≡ suc n
    one n = omega arith
chosen-at (false ∷ bs) (x ∷ xs) (suc k) d e h =
    let r = chosen-at bs xs k d e (omega arith) in
    let z : 0 + trues (take k bs) ≡ trues (take k bs) = omega arith in
    (omega (arith, r.0), ap (λ n. get_or (chosen bs xs) n d) z ∙ r.1)

pub chosen-from : {X : Type 0} (w : List Bool) (xs : List X) (c : ℕ) → c < length (chosen w xs) → (k : ℕ) × (k < length xs) × (k < length w) × (get_or w k false ≡ true) × (c ≡ trues (take k w))
chosen-from [] xs c h = absurd (omega arith)
chosen-from (b ∷ bs) [] c h = absurd (omega arith)
chosen-from (true ∷ bs) (x ∷ xs) zero h = (0, omega arith, omega arith, refl, refl)
chosen-from (true ∷ bs) (x ∷ xs) (suc c) h =
    let r = chosen-from bs xs c (omega arith) in
    (suc r.0, omega (arith, r.1), omega (arith, r.2), r.3, omega (arith, r.4))
chosen-from (false ∷ bs) (x ∷ xs) c h =
    let r = chosen-from bs xs c h in
    (suc r.0, omega (arith, r.1), omega (arith, r.2), r.3, omega (arith, r.4))

pub trues-upto : (w : List Bool) (a b : ℕ) → a ≤ b → trues (take a w) ≤ trues (take b w)
trues-upto w zero b h = omega arith
trues-upto w (suc a) zero h = absurd (omega arith)
trues-upto [] (suc a) (suc b) h = omega arith
trues-upto (true ∷ w) (suc a) (suc b) h = omega (arith, trues-upto w a b (omega arith))
trues-upto (false ∷ w) (suc a) (suc b) h = omega (arith, trues-upto w a b (omega arith))

pub trues-below : (w : List Bool) (a b : ℕ) → a < b → get_or w a false ≡ true → trues (take a w) < trues (take b w)
trues-below w a zero h e = absurd (omega arith)
trues-below [] a (suc b) h e = absurd (false≢true e)
trues-below (true ∷ w) zero (suc b) h e = omega arith
trues-below (false ∷ w) zero (suc b) h e = absurd (false≢true e)
trues-below (true ∷ w) (suc a) (suc b) h e = omega (arith, trues-below w a b (omega arith) e)
trues-below (false ∷ w) (suc a) (suc b) h e = omega (arith, trues-below w a b (omega arith) e)

-- the same by `slice_get`
pub chosen_get : {X : Type 0} (w : List Bool) (xs : List X) (c : ℕ) (x : X) → slice_get (chosen w xs) c ≡ Some x
    → (k : ℕ) × (slice_get xs k ≡ Some x) × (k < length w) × (get_or w k false ≡ true) × (c ≡ trues (take k w))
chosen_get [] xs c x p = absurd (none-some x p)
chosen_get (b ∷ bs) [] c x p = absurd (none-some x p)
chosen_get (true ∷ bs) (y ∷ ys) zero x p = (0, p, omega arith, refl, refl)
chosen_get (true ∷ bs) (y ∷ ys) (suc c) x p =
    let r = chosen_get bs ys c x p in
    (suc r.0, r.1, omega (arith, r.2), r.3, omega (arith, r.4))
chosen_get (false ∷ bs) (y ∷ ys) c x p =
    let r = chosen_get bs ys c x p in
    (suc r.0, r.1, omega (arith, r.2), r.3, omega (arith, r.4))

module _ {X : Type 0} (xs : List X) (d : X) (n : ℕ) (low : n ≤ length xs) (w : List Bool) (long : n + length w ≡ length xs) where
  abbrev ys : List X
  ys = take n xs ++ chosen w (drop n xs)

  front : length (take n xs) ≡ n
  front = length-take-le n xs low

  rest : length (drop n xs) ≡ length w
  rest = omega (arith, length-drop n xs, long)

  -- what is needed goes to its place
  pub goes : (ps : List ℕ) → ArePlaces n w ps → (j : ℕ) → j < length xs → IsNeeded n w j → (place n ps j < length ys) × (get_or ys (place n ps j) d ≡ get_or xs j d)
  goes ps places j l need =
      elim (cases_lt j n) [
        | inl a ↦
            let e : place n ps j ≡ j = ap (λ b. if b then j else get_or ps (j - n) 0) (lt-ltb j n a) in
            (omega (arith, e, length-append (take n xs) (chosen w (drop n xs)), front), ap (λ c. get_or ys c d) e ∙ get_or-append (take n xs) (chosen w (drop n xs)) d j (omega (arith, front)) ∙ get_or-take n xs j d a)
        | inr b ↦
            let k : ℕ = j - n in
            let e : place n ps j ≡ n + trues (take k w) = ap (λ b. if b then j else get_or ps (j - n) 0) (le-ltb j n b) ∙ places k (omega (arith, long)) in
            let at = chosen-at w (drop n xs) k d (need b) (omega (arith, rest, long)) in
            let back : (n + trues (take k w)) - n ≡ trues (take k w) = omega arith in
            let there : n + k ≡ j = omega arith in (
              omega (arith, e, length-append (take n xs) (chosen w (drop n xs)), front, at.0),
              ap (λ c. get_or ys c d) e ∙ get_or-append_right (take n xs) (chosen w (drop n xs)) n (n + trues (take k w)) d front (omega arith)
                  ∙ ap (λ c. get_or (chosen w (drop n xs)) c d) back ∙ at.1 ∙ get_or-drop n xs k d ∙ ap (λ c. get_or xs c d) there,
            )
      ]

  -- what is at a place came from an old one, in order
  from : (i : ℕ) → i < length ys → (j : ℕ) × (j < length xs) × (get_or ys i d ≡ get_or xs j d) × (((i < n) × (j ≡ i)) ⊎ ((n ≤ i) × ((k : ℕ) × (j ≡ n + k) × (i ≡ n + trues (take k w)))))
  from i l =
      elim (cases_lt i n) [
        | inl a ↦ (i, omega (arith, long), get_or-append (take n xs) (chosen w (drop n xs)) d i (omega (arith, front)) ∙ get_or-take n xs i d a, inl (a, refl))
        | inr b ↦
            let c : ℕ = i - n in
            let o = chosen-from w (drop n xs) c (omega (arith, length-append (take n xs) (chosen w (drop n xs)), front)) in
            let at = chosen-at w (drop n xs) o.0 d o.3 o.1 in (
              n + o.0,
              omega (arith, o.1, length-drop n xs, long),
              get_or-append_right (take n xs) (chosen w (drop n xs)) n i d front b ∙ ap (λ c. get_or (chosen w (drop n xs)) c d) o.4 ∙ at.1 ∙ get_or-drop n xs o.0 d,
              inr (b, (o.0, refl, omega (arith, o.4))),
            )
      ]

  pub chosen_apart : AreApart xs → AreApart ys
  chosen_apart apart i j e l m same =
      let p = from i (omega arith) in
      let q = from j m in
      let one : get_or xs p.0 d ≡ get_or xs q.0 d = sym p.2 ∙ get_or_default ys i d e (omega arith) ∙ same ∙ get_or_default ys j e d m ∙ q.2 in
      apart p.0 q.0 d (rises p.3 q.3) q.1 one
    where
      rises : {a b : ℕ} → (((i < n) × (a ≡ i)) ⊎ ((n ≤ i) × ((k : ℕ) × (a ≡ n + k) × (i ≡ n + trues (take k w))))) → (((j < n) × (b ≡ j)) ⊎ ((n ≤ j) × ((k : ℕ) × (b ≡ n + k) × (j ≡ n + trues (take k w))))) → a < b
      rises (inl p) (inl q) = omega arith
      rises (inl p) (inr q) = omega arith
      rises (inr p) (inl q) = absurd (omega arith)
      rises (inr p) (inr q) =
          elim (cases_lt p.1.0 q.1.0) [ inl a ↦ omega arith | inr b ↦ absurd (omega (arith, trues-upto w q.1.0 p.1.0 b)) ]

pub trues_at_most : (w : List Bool) → trues w ≤ length w
trues_at_most [] = omega arith
trues_at_most (true ∷ w) = omega (arith, trues_at_most w)
trues_at_most (false ∷ w) = omega (arith, trues_at_most w)

-- where all are chosen, all stay
pub chosen_all : {X : Type 0} (xs : List X) (w : List Bool) → trues w ≡ length w → length xs ≡ length w → chosen w xs ≡ xs
chosen_all [] [] e l = refl
chosen_all (x ∷ xs) [] e l = absurd (omega arith)
chosen_all [] (b ∷ w) e l = refl
chosen_all (x ∷ xs) (true ∷ w) e l = ap (λ ys. x ∷ ys) (chosen_all xs w (omega arith) (omega arith))
chosen_all (x ∷ xs) (false ∷ w) e l = absurd (omega (arith, trues_at_most w))

-- what holds of all holds of those that are chosen
pub chosen_hold : {X : Type 0} (P : X → Type 0) (w : List Bool) (xs : List X) → All P xs → All P (chosen w xs)
chosen_hold P w xs h c d l =
    let o = chosen-from w xs c l in
    let at = chosen-at w xs o.0 d o.3 o.1 in
    subst P (sym (ap (λ j. get_or (chosen w xs) j d) o.4 ∙ at.1)) (h o.0 d o.1)
