-- Names that are found by their numbers and by their hashes.
use Rattle.std.proofs.Common.{◌≡◌, ◌≢◌, refl, sym, ap, subst, ◌∙◌, ℕ, zero, suc, ◌+◌, ◌≤◌, ◌<◌, ◌⊎◌, inl, inr, Bool, true, false, List, [], ◌∷◌, ◌++◌, map, length, length-append, take, drop, drop-cons, get_or, set, length-set, Option, Some, None, slice_get, if◌then◌else◌, arith}
use Rattle.std.specs.Prelude.{option_map, option_and_then, bytes_eq, cond, not, nat_lt}
use Rattle.std.specs.List.{position, position_or_len, zip}
use Rattle.std.specs.Map.{lookup, keys_of}
use Rattle.std.proofs.lemmas.List.{get_or-set_same, get_or-set_other}
use Rattle.std.proofs.lemmas.Option.{none-some, same_Some, slice_get-map, slice_get_within, slice_get_past, slice_get-get_or}
use Rattle.std.proofs.lemmas.Slice.Eq.{bytes_eq-Decides}
use Rattle.std.proofs.lemmas.Slice.Zip.{length-zip}
use Rattle.std.proofs.lemmas.Bool.{cases_lt, cases_eq, lt-ltb, le-ltb}
use Rattle.std.proofs.Math.Seq.{take-append_seam, take-length}
use Rattle.indexmap.specs.IndexMap.{insert_entry}
use Rattle.indexmap.proofs.MapLemmas.{Found-position, Missing-position, some_index}
use Rattle.eo_base.proofs.Elements.{slice_get_left, slice_get_seam}
use Rattle.eo_term.proofs.Grown.{slice_get_take}
use Rattle.eo_term.proofs.Numbers.{none_from_is_some}
use Rattle.eo_proof.specs.Kept.{Made, NamedId}
use Rattle.eo_proof.specs.Places.{Entry, next_number, number_from, number_in, held_at, at_place, first_of, place_in, AreFound, IsFree, LeadsTo}

-- a byte more of a number
pub number_on : (n : ℕ) (name : List ℕ) (i : ℕ) → i < length name → number_from n (drop i name) ≡ number_from (next_number n (get_or name i 0)) (drop (suc i) name)
unfolding number_from
number_on n name i h = ap (number_from n) (drop-cons name i 0 h)

pub number_end : (n : ℕ) (name : List ℕ) (i : ℕ) → length name ≤ i → number_from n (drop i name) ≡ n
unfolding number_from
number_end n [] zero h = refl
number_end n [] (suc i) h = refl
number_end n (b ∷ bs) zero h = absurd (omega (arith, h))
number_end n (b ∷ bs) (suc i) h = number_end n bs i (omega (arith, h))

-- ---- entries by their keys

own-key : (q : List ℕ) → bytes_eq q q ≡ true
own-key q = (bytes_eq-Decides q q).1 refl

apart-keys : (r q : List ℕ) → q ≢ r → bytes_eq r q ≡ false
apart-keys r q other = by (bytes_eq r q) refl
  where
    by : (b : Bool) → bytes_eq r q ≡ b → b ≡ false
    by true t = absurd (other (sym ((bytes_eq-Decides r q).0 t)))
    by false t = refl

lookup-inserted : (q : List ℕ) (v : ℕ) (es : List Entry) → lookup (bytes_eq q) (insert_entry bytes_eq es q v) ≡ Some v
lookup-inserted q v [] = ap (λ b. cond b (Some v) None) (own-key q)
lookup-inserted q v (e ∷ es) = by (bytes_eq q e.0) refl (lookup-inserted q v es)
  where
    by : (b : Bool) → bytes_eq q e.0 ≡ b → lookup (bytes_eq q) (insert_entry bytes_eq es q v) ≡ Some v → lookup (bytes_eq q) (if b then (e.0, v) ∷ es else e ∷ insert_entry bytes_eq es q v) ≡ Some v
    by true t rest = ap (λ b. cond b (Some v) (lookup (bytes_eq q) es)) t
    by false t rest = ap (λ b. cond b (Some e.1) (lookup (bytes_eq q) (insert_entry bytes_eq es q v))) t ∙ rest

lookup-other : (q r : List ℕ) (v : ℕ) → q ≢ r → (es : List Entry) → lookup (bytes_eq r) (insert_entry bytes_eq es q v) ≡ lookup (bytes_eq r) es
lookup-other q r v other [] = ap (λ b. cond b (Some v) None) (apart-keys r q other)
lookup-other q r v other (e ∷ es) = by (bytes_eq q e.0) refl (lookup-other q r v other es)
  where
    by : (b : Bool) → bytes_eq q e.0 ≡ b → lookup (bytes_eq r) (insert_entry bytes_eq es q v) ≡ lookup (bytes_eq r) es
        → lookup (bytes_eq r) (if b then (e.0, v) ∷ es else e ∷ insert_entry bytes_eq es q v) ≡ lookup (bytes_eq r) (e ∷ es)
    by true t rest =
        let off : bytes_eq r e.0 ≡ false = apart-keys r e.0 (λ same. other ((bytes_eq-Decides q e.0).0 t ∙ same)) in
        ap (λ b. cond b (Some v) (lookup (bytes_eq r) es)) off ∙ sym (ap (λ b. cond b (Some e.1) (lookup (bytes_eq r) es)) off)
    by false t rest = ap (λ o. cond (bytes_eq r e.0) (Some e.1) o) rest

-- the value of a key is that of an entry
value-at : (q : List ℕ) (es : List Entry) (v : ℕ) → lookup (bytes_eq q) es ≡ Some v → (i : ℕ) × (e : Entry) × (slice_get es i ≡ Some e) × (e.1 ≡ v)
value-at q [] v h = absurd (none-some v h)
value-at q (e ∷ es) v h = by (bytes_eq q e.0) h (value-at q es v)
  where
    by : (b : Bool) → cond b (Some e.1) (lookup (bytes_eq q) es) ≡ Some v → (lookup (bytes_eq q) es ≡ Some v → (i : ℕ) × (f : Entry) × (slice_get es i ≡ Some f) × (f.1 ≡ v))
        → (i : ℕ) × (f : Entry) × (slice_get (e ∷ es) i ≡ Some f) × (f.1 ≡ v)
    by true h rest = (0, e, refl, same_Some e.1 v h)
    by false h rest = let r = rest h in (suc r.0, r.1, r.2, r.3)

-- a value below a bound is found before entries whose values are not
lookup-front : (q : List ℕ) (n v : ℕ) → v < n → (es : List Entry) (m : ℕ) → ((i : ℕ) (e : Entry) → m ≤ i → slice_get es i ≡ Some e → n ≤ e.1) → lookup (bytes_eq q) es ≡ Some v → lookup (bytes_eq q) (take m es) ≡ Some v
lookup-front q n v low [] m behind h = absurd (none-some v h)
lookup-front q n v low (e ∷ es) zero behind h = let r = value-at q (e ∷ es) v h in absurd (omega (arith, low, behind r.0 r.1 (omega arith) r.2, r.3))
lookup-front q n v low (e ∷ es) (suc m) behind h = by (bytes_eq q e.0) refl (lookup-front q n v low es m (λ i f l at. behind (suc i) f (omega (arith, l)) at)) h
  where
    by : (b : Bool) → bytes_eq q e.0 ≡ b → (lookup (bytes_eq q) es ≡ Some v → lookup (bytes_eq q) (take m es) ≡ Some v) → cond b (Some e.1) (lookup (bytes_eq q) es) ≡ Some v
        → cond (bytes_eq q e.0) (Some e.1) (lookup (bytes_eq q) (take m es)) ≡ Some v
    by true t rest h = ap (λ b. cond b (Some e.1) (lookup (bytes_eq q) (take m es))) t ∙ h
    by false t rest h = ap (λ b. cond b (Some e.1) (lookup (bytes_eq q) (take m es))) t ∙ rest h

-- ---- what is found

-- where the first look finds nothing, the second decides
first-none : (o p : Option ℕ) → o ≡ None → first_of o p ≡ p
first-none o p e = ap (λ r. first_of r p) e

-- what is found so is there
at-sound : (es : List (List ℕ)) (q : List ℕ) (o : Option ℕ) (i : ℕ) → option_and_then (at_place es q) o ≡ Some i → (e : List ℕ) × (slice_get es i ≡ Some e) × (q ≡ e)
at-sound es q None i h = absurd (none-some i h)
at-sound es q (Some p) i h = by (slice_get es p) refl h
  where
    stands : (e : List ℕ) (b : Bool) → slice_get es p ≡ Some e → bytes_eq q e ≡ b → (if b then Some p else None) ≡ Some i → (e : List ℕ) × (slice_get es i ≡ Some e) × (q ≡ e)
    stands e true at t h = (e, ap (slice_get es) (sym (same_Some p i h)) ∙ at, (bytes_eq-Decides q e).0 t)
    stands e false at t h = absurd (none-some i h)

    by : (r : Option (List ℕ)) → slice_get es p ≡ r → held_at q p r ≡ Some i → (e : List ℕ) × (slice_get es i ≡ Some e) × (q ≡ e)
    by None at h = absurd (none-some i h)
    by (Some e) at h = stands e (bytes_eq q e) at refl h

pub sound : (es : List (List ℕ)) (nb : List ℕ) (ot : List Entry) (q : List ℕ) (i : ℕ) → place_in es nb ot q ≡ Some i → (e : List ℕ) × (slice_get es i ≡ Some e) × (q ≡ e)
sound es nb ot q i h = by (option_and_then (at_place es q) (slice_get nb (number_in q))) refl h
  where
    by : (r : Option ℕ) → option_and_then (at_place es q) (slice_get nb (number_in q)) ≡ r → first_of r (option_and_then (at_place es q) (lookup (bytes_eq q) ot)) ≡ Some i → (e : List ℕ) × (slice_get es i ≡ Some e) × (q ≡ e)
    by None a h = at-sound es q (lookup (bytes_eq q) ot) i h
    by (Some p) a h = at-sound es q (slice_get nb (number_in q)) i (a ∙ h)

-- where a name is, it is found
stands-found : (es : List (List ℕ)) (q : List ℕ) (i : ℕ) (e : List ℕ) → slice_get es i ≡ Some e → q ≡ e → at_place es q i ≡ Some i
stands-found es q i e at same = ap (held_at q i) at ∙ ap (λ b. if b then Some i else None) ((bytes_eq-Decides q e).1 same)

-- and where another is, or none, it is not
other-found : (es : List (List ℕ)) (q : List ℕ) (i : ℕ) (e : List ℕ) → slice_get es i ≡ Some e → q ≢ e → at_place es q i ≡ None
other-found es q i e at other = ap (held_at q i) at ∙ by (bytes_eq q e) refl
  where
    by : (b : Bool) → bytes_eq q e ≡ b → (if b then Some i else None) ≡ None
    by true t = absurd (other ((bytes_eq-Decides q e).0 t))
    by false t = refl

past-found : (es : List (List ℕ)) (q : List ℕ) (i : ℕ) → length es ≤ i → at_place es q i ≡ None
past-found es q i l = ap (held_at q i) (slice_get_past es i l)

-- ---- the place of a name is that of the first entry with it

module _ (q : List ℕ) where
  place-none : (es : List (List ℕ)) → ((i : ℕ) (e : List ℕ) → slice_get es i ≡ Some e → q ≢ e) → position_or_len (bytes_eq q) es ≡ length es
  place-none [] a = refl
  place-none (e ∷ es) a =
      ap (λ b. cond (not b) (1 + position_or_len (bytes_eq q) es) 0) (apart-keys q e (λ same. a 0 e refl (sym same)))
      ∙ ap (λ n. 1 + n) (place-none es (λ i f at. a (suc i) f at)) ∙ omega arith

  place-some : (es : List (List ℕ)) (i : ℕ) (e : List ℕ) → slice_get es i ≡ Some e → q ≡ e → ((j : ℕ) (f : List ℕ) → j < i → slice_get es j ≡ Some f → q ≢ f)
      → (position_or_len (bytes_eq q) es ≡ i) × (i < length es)
  place-some [] i e at same first = absurd (none-some e at)
  place-some (f ∷ fs) zero e at same first =
      (ap (λ b. cond (not b) (1 + position_or_len (bytes_eq q) fs) 0) ((bytes_eq-Decides q f).1 (same ∙ sym (same_Some f e at))), omega arith)
  place-some (f ∷ fs) (suc i) e at same first =
      let rest = place-some fs i e at same (λ j g l there. first (suc j) g (omega (arith, l)) there) in (
        ap (λ b. cond (not b) (1 + position_or_len (bytes_eq q) fs) 0) (apart-keys q f (λ same. first 0 f (omega arith) refl (sym same)))
            ∙ ap (λ n. 1 + n) rest.0 ∙ omega arith,
        omega (arith, rest.1),
      )

  first-or-none : (es : List (List ℕ)) (o : Option ℕ) → ((i : ℕ) (e : List ℕ) → slice_get es i ≡ Some e → q ≡ e → o ≡ Some i) → ((i : ℕ) → o ≡ Some i → (e : List ℕ) × (slice_get es i ≡ Some e) × (q ≡ e))
      → o ≡ position (bytes_eq q) es
  first-or-none es None found stands =
      let end = place-none es (λ i e at same. none-some i (found i e at same)) in
      sym (ap (λ n. cond (nat_lt n (length es)) (Some n) None) end ∙ ap (λ b. cond b (Some (length es)) None) (le-ltb (length es) (length es) (omega arith)))
  first-or-none es (Some i) found stands =
      let e = stands i refl in
      let first = place-some es i e.0 e.1 e.2 (λ j f l at same. let own : i ≡ j = same_Some i j (found j f at same) in omega (arith, l, own)) in
      sym (ap (λ n. cond (nat_lt n (length es)) (Some n) None) first.0 ∙ ap (λ b. cond b (Some i) None) (lt-ltb i (length es) first.1))

pub place-is : (es : List (List ℕ)) (nb : List ℕ) (ot : List Entry) (q : List ℕ) → AreFound es nb ot → place_in es nb ot q ≡ position (bytes_eq q) es
place-is es nb ot q h = first-or-none q es (place_in es nb ot q) (λ i e at same. ap (place_in es nb ot) same ∙ h i e at) (sound es nb ot q)

-- ---- the terms of names

pub value-is : (es : List NamedId) (q : List ℕ) (i : ℕ) (e : NamedId) → position (bytes_eq q) (keys_of es) ≡ Some i → slice_get es i ≡ Some e → lookup (bytes_eq q) es ≡ Some e.1
value-is es q i e p at = (Found-position (bytes_eq q) es i p).value ∙ slice_get-map (λ (e : NamedId). e.1) es i ∙ ap (option_map (λ (e : NamedId). e.1)) at

pub found-value : (g : Made → ℕ) (es : List NamedId) (q : List ℕ) (i r : ℕ) → position (bytes_eq q) (keys_of es) ≡ Some i → ((e : NamedId) → slice_get es i ≡ Some e → g e.1 ≡ r) → Some r ≡ option_map g (lookup (bytes_eq q) es)
found-value g es q i r p f =
    let e : NamedId = get_or es i ([], (0, 0)) in
    let at : slice_get es i ≡ Some e = slice_get-get_or es i ([], (0, 0)) (Found-position (bytes_eq q) es i p).within in
    sym (ap (option_map g) (value-is es q i e p at) ∙ ap Some (f e at))

pub place-within : (es : List NamedId) (q : List ℕ) (i : ℕ) → position (bytes_eq q) (keys_of es) ≡ Some i → i < length es
place-within es q i p = (Found-position (bytes_eq q) es i p).within

pub no-value : (es : List NamedId) (q : List ℕ) → position (bytes_eq q) (keys_of es) ≡ None → lookup (bytes_eq q) es ≡ None
no-value es q p = (Missing-position (bytes_eq q) es p).value

-- a name that no term has is not found
pub unplaced : (es : List NamedId) (ns : List (List ℕ)) (nb : List ℕ) (ot : List Entry) (q : List ℕ) → keys_of es ≡ ns → AreFound ns nb ot → lookup (bytes_eq q) es ≡ None → place_in ns nb ot q ≡ None
unplaced es ns nb ot q are h none =
    place-is ns nb ot q h ∙ ap (position (bytes_eq q)) (sym are)
    ∙ none_from_is_some (position (bytes_eq q) (keys_of es)) (lookup (bytes_eq q) es) (some_index (bytes_eq q) es) none

-- there are as many terms by names as names
pub named-count : (ns : List (List ℕ)) (ms : List Made) → length ms ≡ length ns → length (zip ns ms) ≡ length ns
named-count ns ms same = length-zip ns ms ∙ omega (arith, same)

-- and as many pairs of a term and a command's number
pub made-count : (ns : List (List ℕ)) (is ks : List ℕ) → length is ≡ length ns → length ks ≡ length ns → length (zip is ks) ≡ length ns
made-count ns is ks a b = length-zip is ks ∙ omega (arith, a, b)

pub terms-are : (ns : List (List ℕ)) (is ks : List ℕ) → length is ≡ length ns → length ks ≡ length ns → is ≡ map (λ (e : NamedId). e.1.0) (zip ns (zip is ks))
terms-are [] [] ks a b = refl
terms-are [] (i ∷ is) ks a b = absurd (omega (arith, a))
terms-are (n ∷ ns) [] ks a b = absurd (omega (arith, a))
terms-are (n ∷ ns) (i ∷ is) [] a b = absurd (omega (arith, b))
terms-are (n ∷ ns) (i ∷ is) (k ∷ ks) a b = ap (λ (l : List ℕ). i ∷ l) (terms-are ns is ks (omega (arith, a)) (omega (arith, b)))

pub commands-are : (ns : List (List ℕ)) (is ks : List ℕ) → length is ≡ length ns → length ks ≡ length ns → ks ≡ map (λ (e : NamedId). e.1.1) (zip ns (zip is ks))
commands-are [] is [] a b = refl
commands-are [] is (k ∷ ks) a b = absurd (omega (arith, b))
commands-are (n ∷ ns) [] ks a b = absurd (omega (arith, a))
commands-are (n ∷ ns) (i ∷ is) [] a b = absurd (omega (arith, b))
commands-are (n ∷ ns) (i ∷ is) (k ∷ ks) a b = ap (λ (l : List ℕ). k ∷ l) (commands-are ns is ks (omega (arith, a)) (omega (arith, b)))

-- ---- one name more

-- a look answers no place but its own
at-itself : (es : List (List ℕ)) (q : List ℕ) (p j : ℕ) → at_place es q p ≡ Some j → j ≡ p
at-itself es q p j h = by (slice_get es p) h
  where
    by : (r : Option (List ℕ)) → held_at q p r ≡ Some j → j ≡ p
    by None h = absurd (none-some j h)
    by (Some e) h = by_test (bytes_eq q e) h
      where
        by_test : (b : Bool) → (if b then Some p else None) ≡ Some j → j ≡ p
        by_test true h = sym (same_Some p j h)
        by_test false h = absurd (none-some j h)

-- a name that is not found is none of those
pub apart : (es : List (List ℕ)) (nb : List ℕ) (ot : List Entry) (q : List ℕ) → AreFound es nb ot → place_in es nb ot q ≡ None → (i : ℕ) (e : List ℕ) → slice_get es i ≡ Some e → q ≢ e
apart es nb ot q h none i e at = λ same. none-some i (sym none ∙ ap (place_in es nb ot) same ∙ h i e at)

module _ (es : List (List ℕ)) (nb : List ℕ) (ot : List Entry) (q : List ℕ) (h : AreFound es nb ot) (new : place_in es nb ot q ≡ None) where
  abbrev more : List (List ℕ)
  more = es ++ q ∷ []

  -- a look for an older name answers what it did
  same-look : (i : ℕ) (e : List ℕ) → slice_get es i ≡ Some e → (p : ℕ) → at_place more e p ≡ at_place es e p
  same-look i e at p = elim (cases_lt p (length es)) [
    | inl l ↦ let x = slice_get-get_or es p e l in ap (held_at e p) (slice_get_left es (q ∷ []) p (get_or es p e) x ∙ sym x)
    | inr l ↦ by l (cases_lt (length es) p)
  ]
    where
      by : length es ≤ p → (length es < p) ⊎ (p ≤ length es) → at_place more e p ≡ at_place es e p
      by l (inl g) = past-found more e p (omega (arith, g, length-append es (q ∷ []))) ∙ sym (past-found es e p l)
      by l (inr g) =
          let last : p ≡ length es = omega (arith, l, g) in
          other-found more e p q (ap (slice_get more) last ∙ slice_get_seam es q []) (λ same. apart es nb ot q h new i e at (sym same)) ∙ sym (past-found es e p l)

  same-looks : (i : ℕ) (e : List ℕ) → slice_get es i ≡ Some e → (o : Option ℕ) → option_and_then (at_place more e) o ≡ option_and_then (at_place es e) o
  same-looks i e at None = refl
  same-looks i e at (Some p) = same-look i e at p

  -- the last one, or one of the others
  last-or : (i : ℕ) (e : List ℕ) → slice_get more i ≡ Some e → ((i ≡ length es) × (e ≡ q)) ⊎ (slice_get es i ≡ Some e)
  last-or i e at = elim (cases_lt i (length es)) [
    | inl l ↦ let x = slice_get-get_or es i e l in inr (x ∙ sym (slice_get_left es (q ∷ []) i (get_or es i e) x) ∙ at)
    | inr l ↦
        let within : i < length more = slice_get_within more i e at in
        let last : i ≡ length es = omega (arith, l, within, length-append es (q ∷ [])) in
        inl (last, same_Some e q (sym at ∙ ap (slice_get more) last ∙ slice_get_seam es q []))
  ]

  here : at_place more q (length es) ≡ Some (length es)
  here = stands-found more q (length es) q (slice_get_seam es q []) refl

  -- its number leads to it
  pub found-numbered : (nc : List ℕ) → IsFree es nb (number_in q) → length es < 4294967295 → LeadsTo nb (number_in q) (length es) nc → AreFound more nc ot
  found-numbered nc free short leads i e at = elim (last-or i e at) [
    | inl a ↦
        ap (place_in more nc ot) (a.1)
        ∙ ap (λ o. first_of (option_and_then (at_place more q) o) (option_and_then (at_place more q) (lookup (bytes_eq q) ot))) leads.here
        ∙ ap (λ o. first_of o (option_and_then (at_place more q) (lookup (bytes_eq q) ot))) here ∙ ap Some (sym a.0)
    | inr b ↦ by b (cases_eq (number_in e) (number_in q))
  ]
    where
      hashed : slice_get es i ≡ Some e → option_and_then (at_place more e) (lookup (bytes_eq e) ot) ≡ option_and_then (at_place es e) (lookup (bytes_eq e) ot)
      hashed b = same-looks i e b (lookup (bytes_eq e) ot)

      -- nothing was found by the number that another takes
      unheld : slice_get es i ≡ Some e → number_in e ≡ number_in q → (o : Option ℕ) → slice_get nb (number_in q) ≡ o → option_and_then (at_place es e) o ≡ None
      unheld b same None t = refl
      unheld b same (Some p) t = by_look (at_place es e p) refl
        where
          by_look : (r : Option ℕ) → at_place es e p ≡ r → r ≡ None
          by_look None a = refl
          by_look (Some j) a =
              let s = at-sound es e (Some p) j a in
              let there : j ≡ p = at-itself es e p j a in
              absurd (free p s.0 t (ap (slice_get es) (sym there) ∙ s.1) (ap number_in (sym s.2) ∙ same))

      by : slice_get es i ≡ Some e → (number_in e ≡ number_in q) ⊎ (number_in e ≢ number_in q) → place_in more nc ot e ≡ Some i
      by b (inl same) =
          let old : option_and_then (at_place es e) (slice_get nb (number_in e)) ≡ None = ap (λ k. option_and_then (at_place es e) (slice_get nb k)) same ∙ unheld b same (slice_get nb (number_in q)) refl in
          let new_look : option_and_then (at_place more e) (slice_get nc (number_in e)) ≡ None =
          ap (λ k. option_and_then (at_place more e) (slice_get nc k)) same ∙ ap (option_and_then (at_place more e)) leads.here ∙ same-look i e b (length es) ∙ past-found es e (length es) (omega arith) in
          first-none _ _ new_look ∙ hashed b ∙ sym (first-none _ _ old) ∙ h i e b
      by b (inr other) = elim (leads.others (number_in e) other) [
        | inl kept ↦
            (λ j. first_of (option_and_then (at_place more e) (kept j)) (hashed b j))
            ∙ ap (λ o. first_of o (option_and_then (at_place es e) (lookup (bytes_eq e) ot))) (same-looks i e b (slice_get nb (number_in e))) ∙ h i e b
        | inr fresh ↦
            let new_look : option_and_then (at_place more e) (slice_get nc (number_in e)) ≡ None = ap (option_and_then (at_place more e)) fresh.1 ∙ past-found more e 4294967295 (omega (arith, short, length-append es (q ∷ []))) in
            first-none _ _ new_look ∙ hashed b ∙ sym (first-none _ _ (ap (option_and_then (at_place es e)) fresh.0)) ∙ h i e b
      ]

  -- its hash leads to it
  pub found-hashed : (ou : List Entry) → ou ≡ insert_entry bytes_eq ot q (length es) → AreFound more nb ou
  found-hashed ou is i e at = elim (last-or i e at) [
    | inl a ↦ ap (place_in more nb ou) (a.1) ∙ by_number (slice_get nb (number_in q)) refl ∙ ap Some (sym a.0)
    | inr b ↦
        (λ j. first_of (same-looks i e b (slice_get nb (number_in e)) j) (option_and_then (at_place more e) (lookup (bytes_eq e) ou)))
        ∙ ap (λ o. first_of (option_and_then (at_place es e) (slice_get nb (number_in e))) (option_and_then (at_place more e) o)) (others e b)
        ∙ ap (first_of (option_and_then (at_place es e) (slice_get nb (number_in e)))) (same-looks i e b (lookup (bytes_eq e) ot)) ∙ h i e b
  ]
    where
      own : lookup (bytes_eq q) ou ≡ Some (length es)
      own = ap (lookup (bytes_eq q)) is ∙ lookup-inserted q (length es) ot

      others : (e : List ℕ) → slice_get es i ≡ Some e → lookup (bytes_eq e) ou ≡ lookup (bytes_eq e) ot
      others e b = ap (lookup (bytes_eq e)) is ∙ lookup-other q e (length es) (apart es nb ot q h new i e b) ot

      by_hash : option_and_then (at_place more q) (lookup (bytes_eq q) ou) ≡ Some (length es)
      by_hash = ap (option_and_then (at_place more q)) own ∙ here

      by_number : (o : Option ℕ) → slice_get nb (number_in q) ≡ o → first_of (option_and_then (at_place more q) o) (option_and_then (at_place more q) (lookup (bytes_eq q) ou)) ≡ Some (length es)
      by_number None t = by_hash
      by_number (Some p) t = by_look (at_place more q p) refl
        where
          by_look : (r : Option ℕ) → at_place more q p ≡ r → first_of r (option_and_then (at_place more q) (lookup (bytes_eq q) ou)) ≡ Some (length es)
          by_look None a = by_hash
          by_look (Some j) a =
              let s = at-sound more q (Some p) j a in
              elim (last-or j s.0 s.1) [
                | inl c ↦ ap Some c.0
                | inr c ↦ absurd (apart es nb ot q h new j s.0 c s.2)
              ]

-- ---- fewer names

module _ (es : List (List ℕ)) (nb : List ℕ) (ot : List Entry) (n m : ℕ) (behind : (i : ℕ) (e : Entry) → m ≤ i → slice_get ot i ≡ Some e → n ≤ e.1) where
  -- where a look found nothing, it finds nothing among fewer
  none-cut : (q : List ℕ) (o : Option ℕ) → option_and_then (at_place es q) o ≡ None → option_and_then (at_place (take n es) q) o ≡ None
  none-cut q None h = refl
  none-cut q (Some p) h = by (at_place (take n es) q p) refl
    where
      by : (r : Option ℕ) → at_place (take n es) q p ≡ r → r ≡ None
      by None a = refl
      by (Some j) a =
          let s = at-sound (take n es) q (Some p) j a in
          let was = (slice_get_take n es j s.0 s.1).1 in
          let there : at_place es q p ≡ Some j = ap (at_place es q) (sym (at-itself (take n es) q p j a)) ∙ stands-found es q j s.0 was s.2 in
          absurd (none-some j (sym h ∙ there))

  -- and where it found one of those, it does so still
  some-cut : (q : List ℕ) (o : Option ℕ) (i : ℕ) → i < n → option_and_then (at_place es q) o ≡ Some i → option_and_then (at_place (take n es) q) o ≡ Some i
  some-cut q None i l h = absurd (none-some i h)
  some-cut q (Some p) i l h =
      let s = at-sound es q (Some p) i h in
      ap (at_place (take n es) q) (sym (at-itself es q p i h)) ∙ stands-found (take n es) q i s.0 (slice_get-take es i s.0 l s.1) s.2
    where
      slice_get-take : (xs : List (List ℕ)) (i : ℕ) (e : List ℕ) → i < n → slice_get xs i ≡ Some e → slice_get (take n xs) i ≡ Some e
      slice_get-take xs i e l at = go n xs i l at
        where
          go : (n : ℕ) (xs : List (List ℕ)) (i : ℕ) → i < n → slice_get xs i ≡ Some e → slice_get (take n xs) i ≡ Some e
          go zero xs i l at = absurd (omega (arith, l))
          go (suc n) [] i l at = at
          go (suc n) (x ∷ xs) zero l at = at
          go (suc n) (x ∷ xs) (suc i) l at = go n xs i (omega (arith, l)) at

  pub found-cut : AreFound es nb ot → AreFound (take n es) nb (take m ot)
  found-cut h i e at =
      let was = slice_get_take n es i e at in
      by was.0 (option_and_then (at_place es e) (slice_get nb (number_in e))) refl (h i e was.1)
    where
      by : i < n → (r : Option ℕ) → option_and_then (at_place es e) (slice_get nb (number_in e)) ≡ r → first_of r (option_and_then (at_place es e) (lookup (bytes_eq e) ot)) ≡ Some i → place_in (take n es) nb (take m ot) e ≡ Some i
      by l (Some p) a found =
          ap (λ o. first_of o (option_and_then (at_place (take n es) e) (lookup (bytes_eq e) (take m ot)))) (some-cut e (slice_get nb (number_in e)) i l (a ∙ found))
      by l None a found = first-none _ _ (none-cut e (slice_get nb (number_in e)) a) ∙ by_other (lookup (bytes_eq e) ot) refl found
        where
          by_other : (o : Option ℕ) → lookup (bytes_eq e) ot ≡ o → option_and_then (at_place es e) o ≡ Some i → option_and_then (at_place (take n es) e) (lookup (bytes_eq e) (take m ot)) ≡ Some i
          by_other None t found = absurd (none-some i found)
          by_other (Some v) t found =
              let own : i ≡ v = at-itself es e v i found in
              ap (option_and_then (at_place (take n es) e)) (lookup-front e n v (omega (arith, l, own)) ot m behind t) ∙ some-cut e (Some v) i l found

-- a place that is kept for a name that is not there does no harm
pub found-without : (ns : List (List ℕ)) (nb : List ℕ) (ot : List Entry) (q : List ℕ) → AreFound (ns ++ q ∷ []) nb ot → AreFound ns nb ot
found-without ns nb ot q h =
    let cut = found-cut (ns ++ q ∷ []) nb ot (length ns) (length ot) (λ i e l at. absurd (omega (arith, l, slice_get_within ot i e at))) h in
    subst (λ (os : List Entry). AreFound ns nb os) (take-length ot) (subst (λ (ms : List (List ℕ)). AreFound ms nb (take (length ot) ot)) (take-append_seam ns (q ∷ [])) cut)

-- a list of numbers that was made longer, where need be, and then lets one number lead to a place
pub led : (old wide : List ℕ) (number place : ℕ) → number < length wide → ((k : ℕ) → k < length old → (k < length wide) × (get_or wide k 0 ≡ get_or old k 0))
    → ((k : ℕ) → length old ≤ k → k < length wide → get_or wide k 0 ≡ 4294967295) → LeadsTo old number place (set wide number place)
led old wide number place within same filled =
    let new = set wide number place in
    let long : length new ≡ length wide = length-set wide number place in
    record {
      here = slice_get-get_or new number 0 (omega arith) ∙ ap Some (get_or-set_same wide number place 0 within);
      others = λ k apart. elim (cases_lt k (length old)) [
        | inl low ↦
            let kept = same k low in
            inl (slice_get-get_or new k 0 (omega (arith, kept.0)) ∙ ap Some (get_or-set_other wide number k place 0 apart ∙ kept.1) ∙ sym (slice_get-get_or old k 0 low))
        | inr high ↦ elim (cases_lt k (length wide)) [
          | inl there ↦ inr (slice_get_past old k high, slice_get-get_or new k 0 (omega arith) ∙ ap Some (get_or-set_other wide number k place 0 apart ∙ filled k high there))
          | inr past ↦ inl (slice_get_past new k (omega arith) ∙ sym (slice_get_past old k high))
        ]
      ];
    }
