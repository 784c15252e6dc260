-- Texts that are one after the other, by where they end.
use Rattle.std.proofs.Common.{◌≡◌, refl, sym, ap, subst, ◌∙◌, ℕ, zero, suc, ◌+◌, ◌-◌, ◌≤◌, List, [], ◌∷◌, ◌++◌, length, length-append, take, drop, Some, None, slice_get, arith}
use Rattle.std.specs.List.{slice_range}
use Rattle.std.proofs.lemmas.Option.{none-some, same_Some}
use Rattle.std.proofs.lemmas.List.{drop-take, take-take, length-take-le}
use Rattle.std.proofs.Math.Seq.{take-append_seam, drop-append_seam, take-length}
use Rattle.eo_proof.specs.Texts.{texts_from, AreEnds, last_end}

pub count : (s : ℕ) (b es : List ℕ) → length (texts_from s b es) ≡ length es
unfolding texts_from
count s b [] = refl
count s b (e ∷ es) = ap suc (count e b es)

-- ---- none

pub first-texts : (b es : List ℕ) → es ≡ [] → texts_from 0 b es ≡ []
unfolding texts_from
first-texts b es none = ap (texts_from 0 b) none

pub first-ends : (b es : List ℕ) → b ≡ [] → es ≡ [] → AreEnds 0 es (length b)
unfolding AreEnds
first-ends b es no-bytes none = subst (λ xs. AreEnds 0 xs (length b)) (sym none) (sym (ap length no-bytes))

-- ---- where texts end

ends-up : (s : ℕ) (es : List ℕ) (n : ℕ) → AreEnds s es n → s ≤ n
unfolding AreEnds
ends-up s [] n h = omega (arith, h)
ends-up s (e ∷ es) n h = omega (arith, h.0, ends-up e es n h.1)

last-is : (s : ℕ) (es : List ℕ) (n : ℕ) → AreEnds s es n → last_end s es ≡ n
unfolding AreEnds last_end
last-is s [] n h = h
last-is s (e ∷ es) n h = last-is e es n h.1

-- the last of some ends
pub last-none : (es : List ℕ) → slice_get es (length es - 1) ≡ None → last_end 0 es ≡ 0
unfolding last_end
last-none [] h = refl
last-none (e ∷ es) h = absurd (none-some (by e es).0 (sym h ∙ ap (slice_get (e ∷ es)) (omega arith) ∙ (by e es).1))
  where
    by : (e : ℕ) (es : List ℕ) → (x : ℕ) × (slice_get (e ∷ es) (length es) ≡ Some x)
    by e [] = (e, refl)
    by e (f ∷ fs) = by f fs

pub last-some : (es : List ℕ) (x : ℕ) → slice_get es (length es - 1) ≡ Some x → last_end 0 es ≡ x
unfolding last_end
last-some [] x h = absurd (none-some x h)
last-some (e ∷ es) x h = by e es (ap (slice_get (e ∷ es)) (omega arith) ∙ h)
  where
    by : (e : ℕ) (es : List ℕ) → slice_get (e ∷ es) (length es) ≡ Some x → last_end e es ≡ x
    by e [] h = same_Some e x h
    by e (f ∷ fs) h = by f fs h

-- ---- a text

pub text-at : (s : ℕ) (b es : List ℕ) (i end : ℕ) → slice_get es i ≡ Some end → slice_get (texts_from s b es) i ≡ Some (slice_range b (last_end s (take i es)) end)
unfolding texts_from last_end
text-at s b [] i end at = absurd (none-some end at)
text-at s b (e ∷ es) zero end at = ap (λ x. Some (slice_range b s x)) (same_Some e end at)
text-at s b (e ∷ es) (suc i) end at = text-at e b es i end at

pub no-text : (s : ℕ) (b es : List ℕ) (i : ℕ) → slice_get es i ≡ None → slice_get (texts_from s b es) i ≡ None
unfolding texts_from
no-text s b [] i h = refl
no-text s b (e ∷ es) zero h = absurd (none-some e (sym h))
no-text s b (e ∷ es) (suc i) h = no-text e b es i h

pub within : (s : ℕ) (es : List ℕ) (n i end : ℕ) → AreEnds s es n → slice_get es i ≡ Some end → (last_end s (take i es) ≤ end) × (end ≤ n)
unfolding AreEnds last_end
within s [] n i end h at = absurd (none-some end at)
within s (e ∷ es) n zero end h at =
    let same : e ≡ end = same_Some e end at in
    (omega (arith, h.0, same), omega (arith, ends-up e es n h.1, same))
within s (e ∷ es) n (suc i) end h at = within e es n i end h.1 at

-- ---- the texts of a front

-- what ends there is the same in a front of the bytes
range-front : (k s e : ℕ) (b : List ℕ) → s ≤ e → e ≤ k → slice_range (take k b) s e ≡ slice_range b s e
range-front k s e b up l =
    let rest : k ≡ s + (k - s) = omega (arith, up, l) in
    ap (λ n. take (e - s) (drop s (take n b))) rest ∙ ap (take (e - s)) (drop-take s (k - s) b) ∙ take-take (e - s) (k - s) (drop s b) (omega (arith, up, l))

front : (k s : ℕ) (b es : List ℕ) (n : ℕ) → AreEnds s es n → n ≤ k → texts_from s (take k b) es ≡ texts_from s b es
unfolding texts_from AreEnds
front k s b [] n h l = refl
front k s b (e ∷ es) n h l =
    let here = range-front k s e b h.0 (omega (arith, l, ends-up e es n h.1)) in
    let rest = front k e b es n h.1 l in
    (λ j. here j ∷ rest j)

-- ---- one text more

more-texts : (s : ℕ) (b es : List ℕ) (e : ℕ) → texts_from s b (es ++ e ∷ []) ≡ texts_from s b es ++ slice_range b (last_end s es) e ∷ []
unfolding texts_from last_end
more-texts s b [] e = refl
more-texts s b (f ∷ fs) e = ap (λ (ts : List (List ℕ)). slice_range b s f ∷ ts) (more-texts f b fs e)

pub more-ends : (s : ℕ) (es : List ℕ) (n m : ℕ) → AreEnds s es n → n ≤ m → AreEnds s (es ++ m ∷ []) m
unfolding AreEnds
more-ends s [] n m h l = (omega (arith, h, l), refl)
more-ends s (e ∷ es) n m h l = (h.0, more-ends e es n m h.1 l)

behind : (b t : List ℕ) → slice_range (b ++ t) (length b) (length (b ++ t)) ≡ t
behind b t =
    ap (take (length (b ++ t) - length b)) (drop-append_seam b t)
    ∙ ap (λ n. take n t) (omega (arith, length-append b t)) ∙ take-length t

pub pushed : (s : ℕ) (b es t : List ℕ) → AreEnds s es (length b) → texts_from s (b ++ t) (es ++ length (b ++ t) ∷ []) ≡ texts_from s b es ++ t ∷ []
pushed s b es t h =
    let old : texts_from s (b ++ t) es ≡ texts_from s b es = sym (front (length b) s (b ++ t) es (length b) h (omega arith)) ∙ ap (λ c. texts_from s c es) (take-append_seam b t) in
    let new : slice_range (b ++ t) (last_end s es) (length (b ++ t)) ≡ t = ap (λ l. slice_range (b ++ t) l (length (b ++ t))) (last-is s es (length b) h) ∙ behind b t in
    more-texts s (b ++ t) es (length (b ++ t)) ∙ (λ j. old j ++ new j ∷ [])

-- ---- the first texts alone

fewer-texts : (n s : ℕ) (b es : List ℕ) → texts_from s b (take n es) ≡ take n (texts_from s b es)
unfolding texts_from
fewer-texts zero s b es = refl
fewer-texts (suc n) s b [] = refl
fewer-texts (suc n) s b (e ∷ es) = ap (λ (ts : List (List ℕ)). slice_range b s e ∷ ts) (fewer-texts n e b es)

fewer-ends : (n s : ℕ) (es : List ℕ) (m : ℕ) → AreEnds s es m → AreEnds s (take n es) (last_end s (take n es)) × (last_end s (take n es) ≤ m)
unfolding AreEnds last_end
fewer-ends zero s es m h = (refl, ends-up s es m h)
fewer-ends (suc n) s [] m h = (refl, omega (arith, h))
fewer-ends (suc n) s (e ∷ es) m h = let rest = fewer-ends n e es m h.1 in ((h.0, rest.0), rest.1)

module _ (n s : ℕ) (b es : List ℕ) (h : AreEnds s es (length b)) where
  pub cut-texts : texts_from s (take (last_end s (take n es)) b) (take n es) ≡ take n (texts_from s b es)
  cut-texts = front (last_end s (take n es)) s b (take n es) (last_end s (take n es)) (fewer-ends n s es (length b) h).0 (omega arith) ∙ fewer-texts n s b es

  pub cut-ends : AreEnds s (take n es) (length (take (last_end s (take n es)) b))
  cut-ends =
      let kept = fewer-ends n s es (length b) h in
      subst (AreEnds s (take n es)) (sym (length-take-le (last_end s (take n es)) b kept.1)) kept.0
