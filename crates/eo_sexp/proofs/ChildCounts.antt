-- The innermost list has a child more.
use Rattle.std.proofs.Common.{◌≡◌, refl, ℕ, ◌+◌, ◌-◌, ◌<◌, List, [], ◌∷◌, ◌++◌, length, length-append, reverse, set, get_or, ap, sym, ◌∙◌, arith}
use Rattle.std.proofs.lemmas.List.{reverse-append, reverse-reverse, length-reverse}
use Rattle.std.proofs.Math.Seq.{set-append_seam, get_or-append_seam}
use Rattle.eo_sexp.specs.declared.buffer.Open.{Open}
use Rattle.eo_sexp.specs.Buffers.{counted}

pub reverse-last : {A : Type 0} → (xs : List A) (x : A) → reverse (xs ++ x ∷ []) ≡ x ∷ reverse xs
reverse-last xs x = reverse-append xs (x ∷ [])

-- the list whose reverse begins with o
pub last_of : (xs : List Open) (o : Open) (os : List Open) → reverse xs ≡ o ∷ os → xs ≡ reverse os ++ o ∷ []
last_of xs o os e = sym (reverse-reverse xs) ∙ ap reverse e ∙ reverse-append (o ∷ []) os

counted_at : (xs rs : List Open) (i : Open) → reverse xs ≡ rs → 0 < length xs → i ≡ get_or xs (length xs - 1) i →
    reverse (set xs (length xs - 1) (record i { children = i.children + 1 })) ≡ counted rs
counted_at xs [] i e h v = absurd (omega (arith, ap length e, length-reverse xs))
counted_at xs (o ∷ os) i e h v =
    let all = last_of xs o os e in
    let n : length xs - 1 ≡ length (reverse os) = omega (arith, ap length all, length-append (reverse os) (o ∷ [])) in
    let same : i ≡ o = v ∙ ap (λ k. get_or xs k i) n ∙ ap (λ l. get_or l (length (reverse os)) i) all ∙ get_or-append_seam (reverse os) o [] i in
    let j : Open = record i { children = i.children + 1 } in
    ap (λ k. reverse (set xs k j)) n ∙ ap (λ l. reverse (set l (length (reverse os)) j)) all
    ∙ ap reverse (set-append_seam (reverse os) o [] j) ∙ reverse-last (reverse os) j ∙ ap (λ l. j ∷ l) (reverse-reverse os)
    ∙ ap (λ (k : Open). record k { children = k.children + 1 } ∷ os) same

pub counted_last : (xs : List Open) (i : Open) (n : ℕ) → n ≡ length xs → 0 < n → i ≡ get_or xs (n - 1) i →
    reverse (set xs (n - 1) (record i { children = i.children + 1 })) ≡ counted (reverse xs)
counted_last xs i n e h v =
    ap (λ k. reverse (set xs (k - 1) (record i { children = i.children + 1 }))) e
    ∙ counted_at xs (reverse xs) i refl (omega arith) (v ∙ ap (λ k. get_or xs (k - 1) i) e)

pub pushed : (xs : List Open) (ys : List Open) (o : Open) → ys ≡ xs ++ o ∷ [] → reverse ys ≡ o ∷ reverse xs
pushed xs ys o e = ap reverse e ∙ reverse-last xs o
