-- The type that is kept for a term: where nothing changes, over two calls, where one is added, and where only those before a number of terms stay.
use Rattle.std.proofs.Common.{◌≡◌, ℕ, ◌+◌, Bool, true, false, ◌&&◌, cond, nat_eq, nat_lt, eqb-true, eq-eqb, ne_eqb, true≢false, List, [], ◌∷◌, ◌++◌, filter, Some, None, is_some, unwrap_or, refl, sym, ap, ap₂, ◌∙◌, arith}
use Rattle.eo_term.specs.Terms.{Terms}
use Rattle.eo_sig.specs.Reading.{Kept}
use Rattle.eo_type.specs.Known.{Fit, StillFit, kept_type, is_before, Keeps, FindsBelow}

-- types that have not changed still fit, where they fit
pub fits_same : {k : Kept} {t : Terms} {known : List (ℕ × ℕ)} → Fit k t known → StillFit k t known known
fits_same f = record { fit = f; kept = λ i u h. h }

-- and types that still fit after each of two calls do so after both
pub fits_on : {k : Kept} {t u : Terms} {old now new : List (ℕ × ℕ)} → StillFit k t old now → StillFit k u now new → StillFit k u old new
fits_on f g = record { fit = g.fit; kept = λ i u h. g.kept i u (f.kept i u h) }

-- what is kept is kept where one more is
pub keeps_more : (known : List (ℕ × ℕ)) (e : ℕ × ℕ) → Keeps known (known ++ e ∷ [])
keeps_more [] e i u h = absurd (true≢false (sym (ap is_some h)))
keeps_more (d ∷ es) e i u h = by (nat_eq i d.0) (keeps_more es e i u) h
  where
    by : (b : Bool) → (kept_type es i ≡ Some u → kept_type (es ++ e ∷ []) i ≡ Some u) → cond b (Some d.1) (kept_type es i) ≡ Some u → cond b (Some d.1) (kept_type (es ++ e ∷ []) i) ≡ Some u
    by true later g = g
    by false later g = later g

-- and so is the new one, if none was kept for its term
pub kept_new : (known : List (ℕ × ℕ)) (k v : ℕ) → kept_type known k ≡ None → kept_type (known ++ (k, v) ∷ []) k ≡ Some v
kept_new [] k v h = ap (λ b. cond b (Some v) None) (eq-eqb k k refl)
kept_new (d ∷ es) k v h = by (nat_eq k d.0) (kept_new es k v) h
  where
    by : (b : Bool) → (kept_type es k ≡ None → kept_type (es ++ (k, v) ∷ []) k ≡ Some v) → cond b (Some d.1) (kept_type es k) ≡ None → cond b (Some d.1) (kept_type (es ++ (k, v) ∷ []) k) ≡ Some v
    by true later g = absurd (true≢false (ap is_some g))
    by false later g = later g

kept_other : (known : List (ℕ × ℕ)) (k v i : ℕ) → nat_eq i k ≡ false → kept_type (known ++ (k, v) ∷ []) i ≡ kept_type known i
kept_other [] k v i h = ap (λ b. cond b (Some v) None) h
kept_other (d ∷ es) k v i h = ap (λ o. cond (nat_eq i d.0) (Some d.1) o) (kept_other es k v i h)

-- for older terms alone, and its own, more is kept than before
pub finds_more : (known : List (ℕ × ℕ)) (k v : ℕ) → FindsBelow (k + 1) known (known ++ (k, v) ∷ [])
finds_more known k v i l = kept_other known k v i (ne_eqb i k (λ e. omega (arith, e, l)))

kept_before : (n : ℕ) (known : List (ℕ × ℕ)) (i u : ℕ) → kept_type known i ≡ Some u → is_before n (i, u) ≡ true → kept_type (filter (is_before n) known) i ≡ Some u
kept_before n [] i u h m = h
kept_before n (d ∷ es) i u h m = by (nat_eq i d.0) (is_before n d) refl refl (λ g. kept_before n es i u g m) h
  where
    by : (b a : Bool) → nat_eq i d.0 ≡ b → is_before n d ≡ a → (kept_type es i ≡ Some u → kept_type (filter (is_before n) es) i ≡ Some u)
        → cond b (Some d.1) (kept_type es i) ≡ Some u → kept_type (cond a (d ∷ filter (is_before n) es) (filter (is_before n) es)) i ≡ Some u
    by true true p q later g = ap (λ b. cond b (Some d.1) (kept_type (filter (is_before n) es) i)) p ∙ g
    by true false p q later g =
        absurd (true≢false (sym m ∙ ap₂ (λ x y. nat_lt x n && nat_lt y n) (eqb-true i d.0 p) (sym (ap (λ o. unwrap_or o u) g)) ∙ q))
    by false true p q later g = ap (λ b. cond b (Some d.1) (kept_type (filter (is_before n) es) i)) p ∙ later g
    by false false p q later g = later g

-- what was kept is kept, where it is before n
pub keeps_before : (n : ℕ) (old now : List (ℕ × ℕ)) → ((i u : ℕ) → kept_type old i ≡ Some u → is_before n (i, u) ≡ true) → Keeps old now → Keeps old (filter (is_before n) now)
keeps_before n old now before keeps i u h = kept_before n now i u (keeps i u h) (before i u h)
