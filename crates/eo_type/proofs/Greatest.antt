-- Numbers beside the entries that are kept, where one is added and where only older ones stay.
use Rattle.std.proofs.Common.{◌≡◌, ◌≢◌, ℕ, zero, suc, ◌+◌, ◌-◌, ◌<◌, ◌≤◌, ⊎_elim, cond, true, List, [], ◌∷◌, ◌++◌, length, length-append, length-set, take, drop, filter, replicate, set, get_or, get_or-set_same, get_or-set_other, All, refl, sym, ap, ◌∙◌, subst, subst₂, arith, Bool, nat_lt, ltb-true, lt-ltb, take-take, length-take-le, get_or-take}
use Rattle.std.proofs.Math.Seq.{take-length}
use Rattle.std.specs.Prelude.{slice_get, slice_index_or, Some, swap}
use Rattle.std.specs.List.{SwappedAt}
use Rattle.std.proofs.lemmas.List.Edits.{swap_is}
use Rattle.std.proofs.lemmas.List.{get_or_append_left, get_or_push, get_or-append_right, get_or-replicate, length-replicate, length_push, take_all, take-append-le}
use Rattle.std.proofs.lemmas.List.Elements.{All-take, All-weaker, All-head, All-tail, filter_passes}
use Rattle.std.proofs.lemmas.Option.{get_or_from_slice_get, slice_get_within}
use Rattle.std.proofs.lemmas.Bool.{cases_lt, cases_eq, and_parts, and_from}
use Rattle.eo_type.specs.Known.{is_before}
use Rattle.eo_type.specs.Greatest.{IsUpTo, AreGreatest}

module _ {X : Type 0} (p : X → Bool) where
  -- where the first n pass, they stay
  pub filter_front : (n : ℕ) (xs : List X) → All (λ x. p x ≡ true) (take n xs) → filter p xs ≡ take n xs ++ filter p (drop n xs)
  filter_front zero xs h = refl
  filter_front (suc n) [] h = refl
  filter_front (suc n) (x ∷ xs) h =
      ap (λ b. cond b (x ∷ filter p xs) (filter p xs)) (All-head (λ y. p y ≡ true) x (take n xs) h) ∙ ap (λ l. x ∷ l) (filter_front n xs (All-tail (λ y. p y ≡ true) x (take n xs) h))

  pub filter_all : (xs : List X) → All (λ x. p x ≡ true) xs → filter p xs ≡ xs
  filter_all [] h = refl
  filter_all (x ∷ xs) h =
      ap (λ b. cond b (x ∷ filter p xs) (filter p xs)) (All-head (λ y. p y ≡ true) x xs h) ∙ ap (λ l. x ∷ l) (filter_all xs (All-tail (λ y. p y ≡ true) x xs h))

-- two elements in each other's place
pub swapped : {X : Type 0} (xs : List X) (i j : ℕ) → i < length xs → j < length xs → SwappedAt xs (swap xs i j) i j
swapped {X} xs i j p q = (first, second, others, sets)
  where
    sets : (d : X) → swap xs i j ≡ set (set xs i (get_or xs j d)) j (get_or xs i d)
    sets d = sym (swap_is xs i j d p q)

    second : (d : X) → get_or (swap xs i j) j d ≡ get_or xs i d
    second d =
        ap (λ l. get_or l j d) (sets d) ∙ get_or-set_same (set xs i (get_or xs j d)) j (get_or xs i d) d (omega (arith, q, length-set xs i (get_or xs j d)))

    first : (d : X) → get_or (swap xs i j) i d ≡ get_or xs j d
    first d =
        ⊎_elim (λ e. ap (λ k. get_or (swap xs i j) k d) e ∙ second d ∙ ap (λ k. get_or xs k d) e) (λ n. ap (λ l. get_or l i d) (sets d) ∙ get_or-set_other (set xs i (get_or xs j d)) j i (get_or xs i d) d n ∙ get_or-set_same xs i (get_or xs j d) d p) (cases_eq i j)

    others : (k : ℕ) (d : X) → k ≢ i → k ≢ j → get_or (swap xs i j) k d ≡ get_or xs k d
    others k d m n =
        ap (λ l. get_or l k d) (sets d) ∙ get_or-set_other (set xs i (get_or xs j d)) j k (get_or xs i d) d n ∙ get_or-set_other xs i k (get_or xs j d) d m

-- one more entry
pub greatest_more : (ns : List ℕ) (es : List (ℕ × ℕ)) (n : ℕ) (e : ℕ × ℕ) → AreGreatest ns es → All (IsUpTo n) (es ++ e ∷ []) → AreGreatest (ns ++ n ∷ []) (es ++ e ∷ [])
greatest_more ns es n e g h = record {
  long = length_push ns n ∙ ap (λ k. k + 1) g.long ∙ sym (length_push es e);
  upto = λ i l. ⊎_elim (older i) (last i l) (cases_lt i (length es));
}
  where
    at : ℕ → List (ℕ × ℕ) → Type 0
    at m xs = All (IsUpTo m) xs

    older : (i : ℕ) → i < length es → at (slice_index_or (ns ++ n ∷ []) i 0) (take (i + 1) (es ++ e ∷ []))
    older i l = subst₂ at (sym (get_or_append_left ns (n ∷ []) 0 i (omega (arith, g.long, l)))) (sym (take-append-le (i + 1) es (e ∷ []) (omega (arith, l)))) (g.upto i l)

    last : (i : ℕ) → i < length (es ++ e ∷ []) → length es ≤ i → at (slice_index_or (ns ++ n ∷ []) i 0) (take (i + 1) (es ++ e ∷ []))
    last i l m = subst₂ at (sym (get_or_push ns n 0 i (omega (arith, g.long, l, m, length_push es e)))) (sym (take_all (i + 1) (es ++ e ∷ []) (omega (arith, m, length_push es e)))) h

-- an entry before n
pub upto_before : (n : ℕ) (e : ℕ × ℕ) → is_before n e ≡ true → IsUpTo (n - 1) e
upto_before n e h =
    let both = and_parts (nat_lt e.0 n) (nat_lt e.1 n) h in
    record { term = omega (arith, ltb-true e.0 n both.0); type = omega (arith, ltb-true e.1 n both.1) }

-- the entries that are before n, of which the first `start` are
pub greatest_before : (ns : List ℕ) (es fs : List (ℕ × ℕ)) (n start : ℕ) → AreGreatest ns es → start ≤ length es → All (λ e. is_before n e ≡ true) (take start es)
    → fs ≡ filter (is_before n) es → start ≤ length fs → AreGreatest (take start ns ++ replicate (length fs - start) (n - 1)) fs
greatest_before ns es fs n start g within h same from = record {
  long = length-append (take start ns) (replicate (length fs - start) (n - 1)) ∙ omega (arith, front, length-replicate (length fs - start) (n - 1), from);
  upto = λ i l. ⊎_elim (older i) (newer i l) (cases_lt i start);
}
  where
    at : ℕ → List (ℕ × ℕ) → Type 0
    at m xs = All (IsUpTo m) xs

    front : length (take start ns) ≡ start
    front = length-take-le start ns (omega (arith, within, g.long))

    split : fs ≡ take start es ++ filter (is_before n) (drop start es)
    split = same ∙ filter_front (is_before n) start es h

    seen : (i : ℕ) → i < start → take (i + 1) fs ≡ take (i + 1) es
    seen i l =
        ap (take (i + 1)) split ∙ take-append-le (i + 1) (take start es) (filter (is_before n) (drop start es)) (omega (arith, l, within, length-take-le start es within)) ∙ take-take (i + 1) start es (omega (arith, l))

    older : (i : ℕ) → i < start → at (slice_index_or (take start ns ++ replicate (length fs - start) (n - 1)) i 0) (take (i + 1) fs)
    older i l =
        subst₂ at (sym (get_or_append_left (take start ns) (replicate (length fs - start) (n - 1)) 0 i (omega (arith, front, l)) ∙ get_or-take start ns i 0 l)) (sym (seen i l)) (g.upto i (omega (arith, l, within)))

    passed : All (IsUpTo (n - 1)) fs
    passed = subst₂ at refl (sym same) (All-weaker (λ e. is_before n e ≡ true) (IsUpTo (n - 1)) (upto_before n) (filter (is_before n) es) (filter_passes (is_before n) es))

    newer : (i : ℕ) → i < length fs → start ≤ i → at (slice_index_or (take start ns ++ replicate (length fs - start) (n - 1)) i 0) (take (i + 1) fs)
    newer i l m =
        subst₂ at (sym (get_or-append_right (take start ns) (replicate (length fs - start) (n - 1)) start i 0 front m ∙ get_or-replicate (length fs - start) (i - start) (n - 1) 0 (omega (arith, l, m)))) refl (All-take (IsUpTo (n - 1)) (i + 1) fs passed)

-- where all entries are before a mark, none is forgotten
pub nothing_forgotten : (n start : ℕ) (es : List (ℕ × ℕ)) → start ≡ length es → All (λ e. is_before n e ≡ true) (take start es) → es ≡ filter (is_before n) es
nothing_forgotten n start es long before =
    sym (filter_all (is_before n) es (subst (All (λ e. is_before n e ≡ true)) (ap (λ k. take k es) long ∙ take-length es) before))

-- where what is beside the last entry is before a mark, none is forgotten
pub all_kept : (n m : ℕ) (ns : List ℕ) (es : List (ℕ × ℕ)) → AreGreatest ns es → slice_get ns (length ns - 1) ≡ Some m → m < n → es ≡ filter (is_before n) es
all_kept n m ns es g e l = sym (filter_all (is_before n) es (All-weaker (IsUpTo m) (λ e. is_before n e ≡ true) before es upto))
  where
    within : length ns - 1 < length ns
    within = slice_get_within ns (length ns - 1) m e

    upto : All (IsUpTo m) es
    upto = subst₂ (λ k xs. All (IsUpTo k) xs) (get_or_from_slice_get ns (length ns - 1) m 0 e) (take_all (length ns - 1 + 1) es (omega (arith, within, g.long))) (g.upto (length ns - 1) (omega (arith, within, g.long)))

    before : (e : ℕ × ℕ) → IsUpTo m e → is_before n e ≡ true
    before e h = and_from (nat_lt e.0 n) (nat_lt e.1 n) (lt-ltb e.0 n (omega (arith, h.term, l))) (lt-ltb e.1 n (omega (arith, h.type, l)))
