-- Different things, with numbers and with how many terms there were when each came.
use Rattle.eo_base.proofs.Elements.{slice_get_left, slice_get_seam}
use Rattle.std.proofs.Common.{◌≡◌, ◌≢◌, ℕ, zero, suc, ◌-◌, ◌<◌, ◌≤◌, inl, inr, Bool, true, false, cond, List, [], ◌∷◌, ◌++◌, length, map, get_or, take, slice_get, position, Option, Some, None, IfSome, IfNone, Result, Ok, Err, OnErr, refl, sym, ap, ◌∙◌, subst, arith, length-append, is_some, true≢false}
use Rattle.std.specs.Map.{keys_of, lookup}
use Rattle.std.proofs.Math.ListN.{get_or-append}
use Rattle.std.proofs.Math.Seq.{get_or-append_seam}
use Rattle.std.proofs.lemmas.Bool.{cases_lt}
use Rattle.std.proofs.lemmas.List.{get_or-take, length-take-le, length-map, map-append}
use Rattle.std.proofs.lemmas.List.Quantifiers.{all_pairs_push, position-Some}
use Rattle.std.proofs.lemmas.Option.{none-some, same_Some, slice_get-get_or, get_or_from_slice_get}
use Rattle.eo_term.specs.Keys.{ages_of, IsOld, IsNumbered, HasNumber, IsAbsent, Numbers, IsCut}

pub slice_get_at_map : {X Y : Type 0} (f : X → Y) (xs : List X) (i : ℕ) (x : X) → slice_get xs i ≡ Some x → slice_get (map f xs) i ≡ Some (f x)
slice_get_at_map f [] i x p = absurd (none-some x p)
slice_get_at_map f (z ∷ zs) zero x p = ap (λ y. Some (f y)) (same_Some z x p)
slice_get_at_map f (z ∷ zs) (suc i) x p = slice_get_at_map f zs i x p

pub slice_get_of_map : {X Y : Type 0} (f : X → Y) (xs : List X) (i : ℕ) (y : Y) → slice_get (map f xs) i ≡ Some y → (x : X) × (slice_get xs i ≡ Some x) × (f x ≡ y)
slice_get_of_map f [] i y p = absurd (none-some y p)
slice_get_of_map f (z ∷ zs) zero y p = (z, refl, same_Some (f z) y p)
slice_get_of_map f (z ∷ zs) (suc i) y p = slice_get_of_map f zs i y p

-- the entry at the place that a key has
pub found_entry : {K X : Type 0} (test : K → Bool) (es : List (K × X)) (i : ℕ) → position test (keys_of es) ≡ Some i → (e : K × X) × (slice_get es i ≡ Some e) × (test e.0 ≡ true)
found_entry test [] i p = absurd (none-some i p)
found_entry {K} {X} test (f ∷ es) i p =
    let h = position-Some test (keys_of (f ∷ es)) i f.0 p in
    let at = slice_get_of_map (λ (e : K × X). e.0) (f ∷ es) i (get_or (keys_of (f ∷ es)) i f.0) (slice_get-get_or (keys_of (f ∷ es)) i f.0 h.0) in
    (at.0, at.1, ap test at.2 ∙ h.1)

-- a key that is not there is no entry's
pub no_entry : {K X : Type 0} (test : K → Bool) (es : List (K × X)) → lookup test es ≡ None → (i : ℕ) (e : K × X) → slice_get es i ≡ Some e → test e.0 ≡ true → ⊥
no_entry test [] n i e p t = none-some e p
no_entry test (f ∷ es) n zero e p t = none-some f.1 (sym n ∙ ap (λ b. cond b (Some f.1) (lookup test es)) (ap (λ x. test x.0) (same_Some f e p) ∙ t))
no_entry test (f ∷ es) n (suc i) e p t = no_entry test es (rest (test f.0) n) i e p t
  where
    rest : (b : Bool) → cond b (Some f.1) (lookup test es) ≡ None → lookup test es ≡ None
    rest true q = absurd (none-some f.1 (sym q))
    rest false q = q

-- a key that is no entry's is not there
pub lookup_none : {K X : Type 0} (test : K → Bool) (es : List (K × X)) → ((i : ℕ) (e : K × X) → slice_get es i ≡ Some e → test e.0 ≡ true → ⊥) → lookup test es ≡ None
lookup_none test [] h = refl
lookup_none test (e ∷ es) h = by (test e.0) refl (lookup_none test es (λ i f p. h (suc i) f p))
  where
    by : (b : Bool) → test e.0 ≡ b → lookup test es ≡ None → lookup test (e ∷ es) ≡ None
    by true t n = absurd (h 0 e refl t)
    by false t n = ap (λ b. cond b (Some e.1) (lookup test es)) t ∙ n

pub none_from_is_some : {A B : Type 0} (o : Option A) (r : Option B) → is_some o ≡ is_some r → r ≡ None → o ≡ None
none_from_is_some None r e n = refl
none_from_is_some (Some x) r e n = absurd (true≢false (e ∙ ap is_some n))

-- a look-up by a test that finds just x
module _ {K X : Type 0} (f : K → X) (x : X) (test : K → Bool) (exact : (k : K) → test k ≡ true → f k ≡ x) (same : (k : K) → f k ≡ x → test k ≡ true) where
  abbrev items : List (K × ℕ) → List X
  items es = map (λ e. f e.0) es

  pub number_found : (es : List (K × ℕ)) (r : Option ℕ) → r ≡ position test (keys_of es) → IfSome r (λ l. slice_get (items es) l ≡ Some x)
  number_found es None p = tt
  number_found es (Some l) p =
      let e = found_entry test es l (sym p) in
      slice_get_at_map (λ e. f e.0) es l e.0 e.1 ∙ ap Some (exact e.0.0 e.2)

  pub number_missing : (es : List (K × ℕ)) (r : Option ℕ) → is_some r ≡ is_some (lookup test es) → IfNone r (IsAbsent (items es) x)
  number_missing es (Some l) p = tt
  number_missing es None p = λ l q.
      let e = slice_get_of_map (λ e. f e.0) es l x q in
      no_entry test es (none_from_is_some {B = ℕ} (lookup test es) None (sym p) (λ i. None)) l e.0 e.1 (same e.0.0 e.2)

  pub not_there : (es : List (K × ℕ)) → IsAbsent (items es) x → lookup test es ≡ None
  not_there es a = lookup_none test es (λ i e p t. a i (slice_get_at_map (λ e. f e.0) es i e p ∙ ap Some (exact e.0 t)))

module _ {X : Type 0} (n : ℕ) (xs : List X) (ages : List ℕ) (h : IsNumbered n xs ages) where
  low_pushed : (i : ℕ) → i < length (ages ++ n ∷ []) → get_or (ages ++ n ∷ []) i 0 ≤ n
  low_pushed i l =
      elim (cases_lt i (length ages)) [
        | inl a ↦ omega (arith, get_or-append ages (n ∷ []) 0 i a, h.low i a)
        | inr a ↦
            let last : i ≡ length ages = omega (arith, length-append ages (n ∷ [])) in
            omega (arith, ap (λ j. get_or (ages ++ n ∷ []) j 0) last, get_or-append_seam ages n [] 0)
      ]

  rising_pushed : (i j : ℕ) → i ≤ j → j < length (ages ++ n ∷ []) → get_or (ages ++ n ∷ []) i 0 ≤ get_or (ages ++ n ∷ []) j 0
  rising_pushed i j g l =
      elim (cases_lt j (length ages)) [
        | inl a ↦ omega (arith, get_or-append ages (n ∷ []) 0 i (omega arith), get_or-append ages (n ∷ []) 0 j a, h.rising i j g a)
        | inr a ↦
            let last : j ≡ length ages = omega (arith, length-append ages (n ∷ [])) in
            omega (arith, ap (λ k. get_or (ages ++ n ∷ []) k 0) last, get_or-append_seam ages n [] 0, low_pushed i (omega arith))
      ]

  pub numbers_push : (x : X) → IsAbsent xs x → Numbers n xs ages (xs ++ x ∷ []) (ages ++ n ∷ [])
  numbers_push x absent = record {
    numbered = record {
      long = omega (arith, length-append xs (x ∷ []), length-append ages (n ∷ []), h.long);
      apart = all_pairs_push (λ x y. x ≢ y) xs x h.apart (λ i d l q. absent i (slice_get-get_or xs i d l ∙ ap Some q));
      low = low_pushed;
      rising = rising_pushed;
    };
    same = λ l y p. slice_get_left xs (x ∷ []) l y p;
    aged = λ l m p. (omega (arith, length-append ages (n ∷ []), p.0), omega (arith, get_or-append ages (n ∷ []) 0 l p.0, p.1));
  }

  pub has_pushed : (x : X) → HasNumber n (xs ++ x ∷ []) (ages ++ n ∷ []) x (length xs)
  has_pushed x =
      let within : length xs < length (ages ++ n ∷ []) = omega (arith, length-append ages (n ∷ []), h.long) in
      record { at = slice_get_seam xs x []; old = (within, low_pushed (length xs) within) }

  pub numbered_later : (m : ℕ) → n ≤ m → IsNumbered m xs ages
  numbered_later m g = record { long = h.long; apart = h.apart; low = λ i l. omega (arith, h.low i l); rising = h.rising }

  pub numbered_cut : (m k : ℕ) → IsCut ages m k → IsNumbered m (take k xs) (take k ages)
  numbered_cut m k c =
      let long : length (take k ages) ≡ k = length-take-le k ages c.within in
      let size : length (take k xs) ≡ k = length-take-le k xs (omega (arith, c.within, h.long)) in
      record {
        long = long ∙ sym size;
        apart = λ i j d l g e. h.apart i j d l (omega (arith, size, c.within, h.long)) (sym (get_or-take k xs i d (omega (arith, size))) ∙ e ∙ get_or-take k xs j d (omega (arith, size)));
        low = λ i l. low k c i (omega (arith, long));
        rising = λ i j g l. omega (arith, get_or-take k ages i 0 (omega (arith, long)), get_or-take k ages j 0 (omega (arith, long)), h.rising i j g (omega (arith, long, c.within)));
      }
    where
      low : (k : ℕ) → IsCut ages m k → (i : ℕ) → i < k → get_or (take k ages) i 0 ≤ m
      low zero c i l = absurd (omega arith)
      low (suc k) c i l = omega (arith, get_or-take (suc k) ages i 0 l, h.rising i k (omega arith) (omega (arith, c.within)), c.older k refl)

  -- what an older term uses is not cut
  pub old_kept : (m k : ℕ) → IsCut ages m k → (i l : ℕ) → i < m → IsOld ages i l → IsOld (take k ages) i l
  old_kept m k c i l g o =
      elim (cases_lt l k) [
        | inl a ↦ (omega (arith, length-take-le k ages c.within), omega (arith, get_or-take k ages l 0 a, o.1))
        | inr a ↦ absurd (omega (arith, c.newer l a o.0, o.1))
      ]

-- one more entry
module _ {K X : Type 0} (f : K → X) (n : ℕ) (es fs : List (K × ℕ)) (k : K) (pushed : fs ≡ es ++ (k, n) ∷ []) (h : IsNumbered n (map (λ e. f e.0) es) (ages_of es)) where
  things : map (λ e. f e.0) fs ≡ map (λ e. f e.0) es ++ f k ∷ []
  things = ap (map (λ e. f e.0)) pushed ∙ map-append (λ e. f e.0) es ((k, n) ∷ [])

  ages : ages_of fs ≡ ages_of es ++ n ∷ []
  ages = ap ages_of pushed ∙ map-append (λ e. e.1) es ((k, n) ∷ [])

  pub more_numbers : IsAbsent (map (λ e. f e.0) es) (f k) → Numbers n (map (λ e. f e.0) es) (ages_of es) (map (λ e. f e.0) fs) (ages_of fs)
  more_numbers a =
      subst (λ xs. Numbers n (map (λ e. f e.0) es) (ages_of es) xs (ages_of fs)) (sym things)
      (subst (Numbers n (map (λ e. f e.0) es) (ages_of es) (map (λ e. f e.0) es ++ f k ∷ [])) (sym ages) (numbers_push n (map (λ e. f e.0) es) (ages_of es) h (f k) a))

  pub new_number : HasNumber n (map (λ e. f e.0) fs) (ages_of fs) (f k) (length es)
  new_number =
      subst (λ xs. HasNumber n xs (ages_of fs) (f k) (length es)) (sym things)
      (subst (λ as'. HasNumber n (map (λ e. f e.0) es ++ f k ∷ []) as' (f k) (length es)) (sym ages)
      (subst (HasNumber n (map (λ e. f e.0) es ++ f k ∷ []) (ages_of es ++ n ∷ []) (f k)) (length-map es (λ e. f e.0)) (has_pushed n (map (λ e. f e.0) es) (ages_of es) h (f k))))

pub on_err : {A E : Type 0} (r : Result A E) (P : Type 0) → P → OnErr r P
on_err (Ok x) P h = tt
on_err (Err e) P h = h

-- a search for the first that came late, from the end
module _ {K : Type 0} (es : List (K × ℕ)) (n c : ℕ) (k : K) (a : ℕ) (within : c ≤ length es) (some : 0 < c) (at : slice_get es (c - 1) ≡ Some (k, a))
    (newer : (i : ℕ) → c ≤ i → i < length (ages_of es) → n ≤ get_or (ages_of es) i 0) where
  age : get_or (ages_of es) (c - 1) 0 ≡ a
  age = get_or_from_slice_get (ages_of es) (c - 1) a 0 (slice_get_at_map (λ e. e.1) es (c - 1) (k, a) at)

  pub cut_here : a < n → IsCut (ages_of es) n c
  cut_here l = record { within = omega (arith, length-map es (λ e. e.1)); older = λ i e. omega (arith, ap (λ j. get_or (ages_of es) j 0) (before i e), age); newer = newer }
    where
      before : (i : ℕ) → suc i ≡ c → i ≡ c - 1
      before i e = omega arith

  pub newer_before : n ≤ a → (i : ℕ) → c - 1 ≤ i → i < length (ages_of es) → n ≤ get_or (ages_of es) i 0
  newer_before l i g m =
      elim (cases_lt i c) [
        | inl b ↦
            let here : i ≡ c - 1 = omega arith in
            omega (arith, ap (λ j. get_or (ages_of es) j 0) here, age)
        | inr b ↦ newer i b m
      ]
