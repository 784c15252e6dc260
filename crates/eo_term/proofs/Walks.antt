-- Walks over the parts of a term: what holds of the terms that were begun, and that a walk ends.
use Rattle.std.proofs.Common.{◌≡◌, ◌⊎◌, inl, inr, ℕ, zero, suc, ◌<◌, ◌≤◌, ◌+◌, Bool, true, false, nat_eq, List, [], ◌∷◌, ◌++◌, Option, Some, None, if◌then◌else◌, refl, sym, ap, ◌∙◌, subst, arith}
use Rattle.std.proofs.lemmas.Bool.{eqb-true, eqb-false}
use Rattle.eo_term.specs.Memo.{told}
pub use Rattle.eo_term.specs.Walk.{IsBegun, AreBegun, left}
use Rattle.eo_term.specs.Walk.{Visits, Begins, Finishes, Upon, Stacked, weight, weights}

top_upon : (P : ℕ → Type 0) (x : ℕ) (ys : List ℕ) (top : ℕ) → Upon P x ys top → (top < x) × P top
top_upon P x [] top h = h
top_upon P x (y ∷ ys) top h = let r = top_upon P y ys top h.1.1 in (omega (arith, h.0, r.0), r.1)

push_upon : (P : ℕ → Type 0) (x : ℕ) (ys : List ℕ) (top part : ℕ) → Upon P x ys top → part < top → P part → Upon P x (ys ++ top ∷ []) part
push_upon P x [] top part h l p = (h.0, (h.1, (l, p)))
push_upon P x (y ∷ ys) top part h l p = (h.0, (h.1.0, push_upon P y ys top part h.1.1 l p))

pop_upon : (P Q : ℕ → Type 0) (x : ℕ) (ys : List ℕ) (next top : ℕ) → ((y : ℕ) → top < y → P y → Q y) → Upon P x (ys ++ next ∷ []) top → Upon Q x ys next
pop_upon P Q x [] next top f h = (h.0, f next h.1.1.0 h.1.0)
pop_upon P Q x (y ∷ ys) next top f h = (h.0, (f y (top_upon P y (ys ++ next ∷ []) top h.1.1).0 h.1.0, pop_upon P Q y ys next top f h.1.1))

top_stacked : (P : ℕ → Type 0) (id : ℕ) (xs : List ℕ) (top : ℕ) → Stacked P id xs top → P top
top_stacked P id [] top h = h.1
top_stacked P id (x ∷ xs) top h = (top_upon P x xs top h.1.1).1

push_stacked : (P : ℕ → Type 0) (id : ℕ) (xs : List ℕ) (top part : ℕ) → Stacked P id xs top → part < top → P part → Stacked P id (xs ++ top ∷ []) part
push_stacked P id [] top part h l p = (h.0, (h.1, (l, p)))
push_stacked P id (x ∷ xs) top part h l p = (h.0, (h.1.0, push_upon P x xs top part h.1.1 l p))

pop_stacked : (P Q : ℕ → Type 0) (id : ℕ) (xs : List ℕ) (next top : ℕ) → ((y : ℕ) → top < y → P y → Q y) → Stacked P id (xs ++ next ∷ []) top → Stacked Q id xs next
pop_stacked P Q id [] next top f h = (h.0, f next h.1.1.0 h.1.0)
pop_stacked P Q id (x ∷ xs) next top f h = (h.0, (f x (top_upon P x (xs ++ next ∷ []) top h.1.1).0 h.1.0, pop_upon P Q x xs next top f h.1.1))

-- what is found for other terms than the one that was found
other_told : (m new : List (ℕ × ℕ)) (i j k : ℕ) → told new k ≡ (if nat_eq i k then Some j else told m k) → (i ≡ k → ⊥) → told new k ≡ told m k
other_told m new i j k e n = by_test (nat_eq i k) refl e
  where
    by_test : (b : Bool) → nat_eq i k ≡ b → told new k ≡ (if b then Some j else told m k) → told new k ≡ told m k
    by_test true p q = absurd (n (eqb-true i k p))
    by_test false p q = q

module _ (n : ℕ) (R : ℕ → Type 0) (id : ℕ) where
  -- a walk begins
  pub begun_first : (w : Visits) → ((k : ℕ) → told w.memo k ≡ None) → w.waiting ≡ [] → w.top ≡ id → id < n → R id → AreBegun n R id w
  begun_first w f a e l r =
      let P : ℕ → Type 0 = IsBegun n w.memo R in
      let first : Stacked P id [] id = (refl, record { live = l; untold = f id; leads = r }) in
      record { stacked = subst (λ (xs : List ℕ). Stacked P id xs w.top) (sym a) (subst (λ (k : ℕ). Stacked P id [] k) (sym e) first) }

  -- what holds of the term that is looked at
  pub begun_top : (w : Visits) → AreBegun n R id w → IsBegun n w.memo R w.top
  begun_top w h = top_stacked (IsBegun n w.memo R) id w.waiting w.top h.stacked

  -- where none waits, it is the one that was asked for
  pub begun_last : (w : Visits) → w.waiting ≡ [] → AreBegun n R id w → w.top ≡ id
  begun_last w e h = (subst (λ (xs : List ℕ). Stacked (IsBegun n w.memo R) id xs w.top) e h.stacked).0

  -- a part is begun
  pub begun_part : (w v : Visits) (part : ℕ) → AreBegun n R id w → Begins w part v → part < w.top → told w.memo part ≡ None → R part → AreBegun n R id v
  begun_part w v part h b l u r =
      let P : ℕ → Type 0 = IsBegun n w.memo R in
      let pushed : Stacked P id (w.waiting ++ w.top ∷ []) part = push_stacked P id w.waiting w.top part h.stacked l (record { live = omega (arith, l, (begun_top w h).live); untold = u; leads = r }) in
      record { stacked = subst (λ (s : Visits). Stacked (IsBegun n s.memo R) id s.waiting s.top) (λ i. record { memo = sym b.memo i; waiting = sym b.waiting i; top = sym b.top i }) pushed }

  -- a term is found
  pub begun_rest : (w v : Visits) (found : ℕ) → AreBegun n R id w → Finishes w found v → AreBegun n R id v
  begun_rest w v found h f =
      let P : ℕ → Type 0 = IsBegun n w.memo R in
      let Q : ℕ → Type 0 = IsBegun n v.memo R in
      let before : Stacked P id (v.waiting ++ v.top ∷ []) w.top = subst (λ (xs : List ℕ). Stacked P id xs w.top) f.waiting h.stacked in
      record {
        stacked = pop_stacked P Q id v.waiting v.top w.top (λ y l p. record { live = p.live; untold = other_told w.memo v.memo w.top found y (f.memo y) (λ e. omega (arith, l, e)) ∙ p.untold; leads = p.leads }) before;
      }

weight_less : (w : ℕ) (o p : Option ℕ) → (p ≡ o) ⊎ ((v : ℕ) × (p ≡ Some v)) → weight w p ≤ weight w o
weight_less w o p (inl e) = omega (arith, ap (weight w) e)
weight_less w o p (inr e) = omega (arith, ap (weight w) e.1)

module _ (w : ℕ) (m new : List (ℕ × ℕ)) (i j : ℕ) (f : (k : ℕ) → told new k ≡ (if nat_eq i k then Some j else told m k)) where
  kept_or : (k : ℕ) → (told new k ≡ told m k) ⊎ ((v : ℕ) × (told new k ≡ Some v))
  kept_or k = by_test (nat_eq i k) (f k)
    where
      by_test : (b : Bool) → told new k ≡ (if b then Some j else told m k) → (told new k ≡ told m k) ⊎ ((v : ℕ) × (told new k ≡ Some v))
      by_test true e = inr (j, e)
      by_test false e = inl e

  weights_less : (n : ℕ) → weights w n new ≤ weights w n m
  weights_less zero = omega arith
  weights_less (suc n) = omega (arith, weight_less w (told m n) (told new n) (kept_or n), weights_less n)

  weights_kept : told m i ≡ None → (n : ℕ) → i < n → w + weights w n new ≤ weights w n m
  weights_kept u zero l = absurd (omega arith)
  weights_kept u (suc n) l = by_test (nat_eq i n) refl (weights_kept u n)
    where
      by_test : (b : Bool) → nat_eq i n ≡ b → (i < n → w + weights w n new ≤ weights w n m) → w + weights w (suc n) new ≤ weights w (suc n) m
      by_test true p older =
          let e : i ≡ n = eqb-true i n p in
          let found : told new n ≡ Some j = f n ∙ ap (λ (b : Bool). if b then Some j else told m n) p in
          omega (arith, ap (weight w) found, ap (λ (k : ℕ). weight w (told m k)) (sym e), ap (weight w) u, weights_less n)
      by_test false p older =
          let apart : i ≡ n → ⊥ = eqb-false i n p in
          omega (arith, weight_less w (told m n) (told new n) (kept_or n), older (omega (arith, l, apart)))

pub left_part : (n : ℕ) (w v : Visits) (part : ℕ) → Begins w part v → part < w.top → left n v < left n w
left_part n w v part b l = omega (arith, ap (weights n n) b.memo, b.top, l)

pub left_rest : (n : ℕ) (R : ℕ → Type 0) (id : ℕ) (w v : Visits) (found : ℕ) → AreBegun n R id w → Finishes w found v → left n v < left n w
left_rest n R id w v found h f =
    let top = begun_top n R id w h in
    omega (arith, weights_kept n w.memo v.memo w.top found f.memo top.untold n top.live, (begun_top n R id v (begun_rest n R id w v found h f)).live)
