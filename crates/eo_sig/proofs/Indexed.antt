-- Tables that are kept with each constant find what the signature has.
use Rattle.std.specs.Prelude.{◌≡◌, ℕ, zero, suc, ◌+◌, ◌<◌, ◌≤◌, ◌==◌, Bool, true, false, not, ◌&&◌, ◌||◌, nat_eq, nat_le, bytes_eq, if◌then◌else◌, List, [], ◌∷◌, ◌++◌, length, Option, Some, None, is_some, option_map, option_and_then, position, slice_get, refl}
use Rattle.std.specs.List.{list_any}
use Rattle.std.specs.Option.{option_or, option_map_or}
use Rattle.std.specs.Cmp.Lexicographic.{bytes_decides}
use Rattle.std.proofs.Common.{◌∙◌, ap, sym, subst, arith, cond, true≢false}
use Rattle.std.proofs.lemmas.Bool.{eqb-true}
use Rattle.std.proofs.lemmas.Bool.Decides.{nat_tests}
use Rattle.std.proofs.lemmas.List.{length-append}
use Rattle.std.proofs.lemmas.List.Elements.{filter_map-append}
use Rattle.std.proofs.lemmas.Option.{same_Some, none-some}
use Rattle.eo_base.proofs.Elements.{slice_get_seam}
use Rattle.eo_base.proofs.Tests.{both}
use Rattle.eo_sig.specs.Signature.{Signature, IsConstant, Constant, Counts, Exactly, From, constant_of, counted_of, constants, counted, constant_named, constant_taking, takes, meet, is_apart}
use Rattle.eo_sig.specs.Indexed.{Tables, IsIndexed, no_tables, counts_at, takes_own, meets_own, if_enough, later_at, at_first, found, is_reached, later_reaches, reaches, reached, is_met, with_new, raised, with_other}
use Rattle.eo_sig.proofs.Positions.{position-cons, position-push}
use Rattle.eo_sig.proofs.Single.{as_many, none_taking}

-- ---- counts

pub eqb-self : (n : ℕ) → nat_eq n n ≡ true
eqb-self n = grind (arith, nat_tests)

eqb-sym : (n m : ℕ) → nat_eq n m ≡ nat_eq m n
eqb-sym n m = grind (arith, nat_tests)

le-self : (n : ℕ) → nat_le n n ≡ true
le-self n = grind (arith, nat_tests)

-- two counts that share a number meet
pub shared_meets : (a b : Counts) (n : ℕ) → takes a n ≡ true → takes b n ≡ true → meet a b ≡ true
shared_meets (Exactly k) b n h g = subst (λ (m : ℕ). takes b m ≡ true) (eqb-true n k h) g
shared_meets (From k) (Exactly m) n h g = subst (λ (m : ℕ). nat_le k m ≡ true) (eqb-true n m g) h
shared_meets (From k) (From m) n h g = refl

-- and two counts that meet share one
pub meets_shared : (a b : Counts) → meet a b ≡ true → (n : ℕ) × (takes a n ≡ true) × (takes b n ≡ true)
meets_shared (Exactly k) b h = (k, eqb-self k, h)
meets_shared (From k) (Exactly n) h = (n, h, eqb-self n)
meets_shared (From k) (From m) h = (k + m, grind (arith, nat_tests), grind (arith, nat_tests))

-- to meet one number is to take it
meet-exactly : (m : Counts) (n : ℕ) → meet m (Exactly n) ≡ takes m n
meet-exactly (Exactly k) n = eqb-sym k n
meet-exactly (From k) n = refl

not-true : (b : Bool) → not b ≡ true → b ≡ false
not-true true e = absurd (true≢false (sym e))
not-true false e = refl

-- no constant of the name takes what a constant apart from all takes
pub apart_takes_none : (S : Signature) (name : List ℕ) (m : Counts) (n : ℕ) → is_apart S name m ≡ true → takes m n ≡ true → constant_taking S name n ≡ None
apart_takes_none S name m n apart h =
    none_taking (λ (d : Constant × Counts). bytes_eq name d.0.name && meet d.1 m) (λ d. bytes_eq name d.0.name && takes d.1 n) (counted S)
    (not-true (list_any (λ (d : Constant × Counts). bytes_eq name d.0.name && meet d.1 m) (counted S)) apart)
    (λ d e. let two = both e in (λ i. two.0 i && shared_meets d.1 m n two.1 h i))

-- ---- places

module _ {X : Type 0} (p : X → Bool) where
  -- a place at which the test passes
  abbrev IsAt : List X → ℕ → Type 0
  IsAt xs i = (x : X) × (slice_get xs i ≡ Some x) × (p x ≡ true) × (i < length xs)

  pub at_position : (xs : List X) (i : ℕ) → position p xs ≡ Some i → IsAt xs i
  at_position [] i e = absurd (cc e)
  at_position (x ∷ xs) i e = by (p x) refl (position p xs) refl (sym (position-cons p x xs) ∙ e) (at_position xs)
    where
      by : (b : Bool) → p x ≡ b → (o : Option ℕ) → position p xs ≡ o → cond b (Some 0) (option_map suc o) ≡ Some i → ((j : ℕ) → position p xs ≡ Some j → IsAt xs j) → IsAt (x ∷ xs) i
      by true h o g e rest = subst (IsAt (x ∷ xs)) (same_Some 0 i e) (x, refl, h, omega arith)
      by false h None g e rest = absurd (cc e)
      by false h (Some j) g e rest =
          let r = rest j g in
          let l : j < length xs = r.3 in
          subst (IsAt (x ∷ xs)) (same_Some (suc j) i e) (r.0, r.1, r.2, omega (arith, l))

  some_position : (xs : List X) → is_some (position p xs) ≡ list_any p xs
  some_position [] = refl
  some_position (x ∷ xs) = ap is_some (position-cons p x xs) ∙ by (p x) (position p xs) (some_position xs)
    where
      by : (b : Bool) (o : Option ℕ) → is_some o ≡ list_any p xs → is_some (cond b (Some 0) (option_map suc o)) ≡ (b || list_any p xs)
      by true o e = refl
      by false None e = e
      by false (Some j) e = e

  any-append : (xs ys : List X) → list_any p (xs ++ ys) ≡ (list_any p xs || list_any p ys)
  any-append [] ys = refl
  any-append (x ∷ xs) ys = ap (λ b. p x || b) (any-append xs ys) ∙ assoc (p x)
    where
      assoc : (b : Bool) → (b || (list_any p xs || list_any p ys)) ≡ ((b || list_any p xs) || list_any p ys)
      assoc true = refl
      assoc false = refl

get_front : {X : Type 0} (xs ys : List X) (i : ℕ) → i < length xs → slice_get (xs ++ ys) i ≡ slice_get xs i
get_front [] ys i l = absurd (omega (arith, l))
get_front (x ∷ xs) ys zero l = refl
get_front (x ∷ xs) ys (suc i) l = get_front xs ys i (omega (arith, l))

-- names that have one first constant are one name
same_first : (S : Signature) (v w : List ℕ) (f : ℕ) → constant_named S v ≡ Some f → constant_named S w ≡ Some f → bytes_eq v w ≡ true
same_first S v w f e g =
    let a = at_position (λ (c : Constant). bytes_eq v c.name) (constants S) f e in
    let b = at_position (λ (c : Constant). bytes_eq w c.name) (constants S) f g in
    let one : a.0 ≡ b.0 = same_Some a.0 b.0 (sym a.1 ∙ b.1) in
    let left : v ≡ a.0.name = (bytes_decides v a.0.name).0 a.2 in
    let right : w ≡ b.0.name = (bytes_decides w b.0.name).0 b.2 in
    (bytes_decides v w).1 (left ∙ ap (λ (c : Constant). c.name) one ∙ sym right)

pub first_below : (S : Signature) (w : List ℕ) (f : ℕ) → constant_named S w ≡ Some f → f < length (constants S)
first_below S w f e = (at_position (λ (c : Constant). bytes_eq w c.name) (constants S) f e).3

pub taking_below : (S : Signature) (w : List ℕ) (n k : ℕ) → constant_taking S w n ≡ Some k → k < length (constants S)
taking_below S w n k e = subst (λ l. k < l) (as_many S) (at_position (λ (d : Constant × Counts). bytes_eq w d.0.name && takes d.1 n) (counted S) k e).3

-- ---- what is asked of the tables

-- a constant of the name takes so many arguments exactly where it meets them
pub met_exactly : (S : Signature) (w : List ℕ) (n : ℕ) → is_some (constant_taking S w n) ≡ is_met S w (Exactly n)
met_exactly S w n =
    some_position (λ (d : Constant × Counts). bytes_eq w d.0.name && takes d.1 n) (counted S)
    ∙ sym (λ i. list_any (λ (d : Constant × Counts). bytes_eq w d.0.name && meet-exactly d.1 n i) (counted S))

-- ---- one constant more

none_or : (o p : Option ℕ) → option_or o p ≡ None → (o ≡ None) × (p ≡ None)
none_or None p e = (refl, e)
none_or (Some k) p e = absurd (cc e)

or_none : (o : Option ℕ) → option_or o None ≡ o
or_none None = refl
or_none (Some k) = refl

or_false : (b : Bool) → (b || false) ≡ b
or_false true = refl
or_false false = refl

-- what differs is told apart
differ : (f g : ℕ) → (f ≡ g → ⊥) → nat_eq f g ≡ false
differ f g h = by (nat_eq f g) refl
  where
    by : (b : Bool) → nat_eq f g ≡ b → b ≡ false
    by true e = absurd (h (eqb-true f g e))
    by false e = refl

bytes-sym : (v w : List ℕ) → bytes_eq v w ≡ bytes_eq w v
bytes-sym v w = by (bytes_eq v w) refl (bytes_eq w v) refl
  where
    by : (a : Bool) → bytes_eq v w ≡ a → (b : Bool) → bytes_eq w v ≡ b → a ≡ b
    by true e true g = refl
    by false e false g = refl
    by true e false g = absurd (true≢false (sym ((bytes_decides w v).1 (sym ((bytes_decides v w).0 e))) ∙ g))
    by false e true g = absurd (true≢false (sym ((bytes_decides v w).1 (sym ((bytes_decides w v).0 g))) ∙ e))

-- where a constant is apart from all of its name, no other takes all from some number on, if it does
no_other_from : (exact : ℕ → Option ℕ) (rest : Option (ℕ × ℕ)) (c : ℕ) → ((n : ℕ) → nat_le c n ≡ true → option_or (exact n) (if_enough n rest) ≡ None) → rest ≡ None
no_other_from exact None c h = refl
no_other_from exact (Some p) c h =
    let n = c + p.0 in
    let enough : nat_le p.0 n ≡ true = grind (arith, nat_tests) in
    let more : nat_le c n ≡ true = grind (arith, nat_tests) in
    let none = (none_or (exact n) (if_enough n (Some p)) (h n more)).1 in
    absurd (none-some p.1 (sym none ∙ ap (λ b. if b then Some p.1 else None) enough))

-- none is found where the first constant does not take so many either
no_later : (b : Bool) (f : ℕ) (o : Option ℕ) → (if b then Some f else o) ≡ None → o ≡ None
no_later true f o e = absurd (none-some f (sym e))
no_later false f o e = e

reached_more : (c k : ℕ) (o : Option ℕ) → is_reached c (Some (raised k o)) ≡ (is_reached c o || nat_le c k)
reached_more c k None = refl
reached_more c k (Some m) = by (nat_le m k) refl
  where
    by : (b : Bool) → nat_le m k ≡ b → nat_le c (if b then k else m) ≡ (nat_le c m || nat_le c k)
    by true e = grind (arith, nat_tests, e)
    by false e = grind (arith, nat_tests, e)

module _ (S : Signature) (x : Tables) (d : Constant) (m : Counts) (is : IsIndexed S x) where
  abbrev next : ℕ
  next = length (constants S)

  abbrev longer : Signature
  longer = S ++ IsConstant d m ∷ []

  self : bytes_eq d.name d.name ≡ true
  self = (bytes_decides d.name d.name).1 refl

  -- ---- the signature

  counted_more : counted longer ≡ counted S ++ (d, m) ∷ []
  counted_more = filter_map-append counted_of S (IsConstant d m ∷ [])

  counts_before : (f : ℕ) → f < next → counts_at longer f ≡ counts_at S f
  counts_before f l =
      ap (λ (cs : List (Constant × Counts)). option_map (λ (q : Constant × Counts). q.1) (slice_get cs f)) counted_more
      ∙ ap (option_map (λ (q : Constant × Counts). q.1)) (get_front (counted S) ((d, m) ∷ []) f (subst (λ n. f < n) (sym (as_many S)) l))

  counts_last : counts_at longer next ≡ Some m
  counts_last =
      ap (λ (cs : List (Constant × Counts)). option_map (λ (q : Constant × Counts). q.1) (slice_get cs next)) counted_more
      ∙ ap (λ n. option_map (λ (q : Constant × Counts). q.1) (slice_get (counted S ++ (d, m) ∷ []) n)) (sym (as_many S))
      ∙ ap (option_map (λ (q : Constant × Counts). q.1)) (slice_get_seam (counted S) (d, m) [])

  named_more : (w : List ℕ) → constant_named longer w ≡ option_or (constant_named S w) (if bytes_eq w d.name then Some next else None)
  named_more w = ap (position (λ (c : Constant). bytes_eq w c.name)) (filter_map-append constant_of S (IsConstant d m ∷ [])) ∙ position-push (λ (c : Constant). bytes_eq w c.name) (constants S) d

  taking_more : (w : List ℕ) (n : ℕ) → constant_taking longer w n ≡ option_or (constant_taking S w n) (if bytes_eq w d.name && takes m n then Some next else None)
  taking_more w n =
      ap (position (λ (c : Constant × Counts). bytes_eq w c.0.name && takes c.1 n)) counted_more
      ∙ position-push (λ (c : Constant × Counts). bytes_eq w c.0.name && takes c.1 n) (counted S) (d, m)
      ∙ ap (λ k. option_or (constant_taking S w n) (if bytes_eq w d.name && takes m n then Some k else None)) (as_many S)

  met_more : (w : List ℕ) (c : ℕ) → is_met longer w (From c) ≡ (is_met S w (From c) || (bytes_eq w d.name && meet m (From c)))
  met_more w c =
      ap (list_any (λ (q : Constant × Counts). bytes_eq w q.0.name && meet q.1 (From c))) counted_more
      ∙ any-append (λ (q : Constant × Counts). bytes_eq w q.0.name && meet q.1 (From c)) (counted S) ((d, m) ∷ [])
      ∙ ap (λ b. is_met S w (From c) || b) (or_false (bytes_eq w d.name && meet m (From c)))

  count_more : length (constants longer) ≡ next + 1
  count_more = ap length (filter_map-append constant_of S (IsConstant d m ∷ [])) ∙ length-append (constants S) (d ∷ [])

  -- ---- another name, under whose first constant nothing changes

  module _ (y : Tables) (w : List ℕ) (e : bytes_eq w d.name ≡ false) (first : y.first w ≡ x.first w)
      (exact : (g n : ℕ) → constant_named S w ≡ Some g → y.exact g n ≡ x.exact g n)
      (rest : (g : ℕ) → constant_named S w ≡ Some g → y.rest g ≡ x.rest g)
      (most : (g : ℕ) → constant_named S w ≡ Some g → y.most g ≡ x.most g) where
    other_taking : (n : ℕ) → found longer y w n ≡ constant_taking longer w n
    other_taking n =
        ap (option_and_then (at_first longer y n)) first ∙ same (x.first w) refl ∙ is.taking w n ∙ sym (or_none (constant_taking S w n))
        ∙ sym (taking_more w n ∙ ap (λ b. option_or (constant_taking S w n) (if b && takes m n then Some next else None)) e)
      where
        same : (o : Option ℕ) → x.first w ≡ o → option_and_then (at_first longer y n) o ≡ option_and_then (at_first S x n) o
        same None h = refl
        same (Some g) h =
            let named : constant_named S w ≡ Some g = sym (is.first w) ∙ h in
            λ i. if option_map_or (λ (q : Counts). takes q n) (counts_before g (first_below S w g named) i) false then Some g else option_or (exact g n named i) (if_enough n (rest g named i))

    other_reaching : (c : ℕ) → reached longer y w c ≡ is_met longer w (From c)
    other_reaching c =
        ap (λ o. option_map_or (reaches longer y c) o false) first ∙ same (x.first w) refl ∙ is.reaching w c ∙ sym (or_false (is_met S w (From c)))
        ∙ sym (met_more w c ∙ ap (λ b. is_met S w (From c) || (b && meet m (From c))) e)
      where
        same : (o : Option ℕ) → x.first w ≡ o → option_map_or (reaches longer y c) o false ≡ option_map_or (reaches S x c) o false
        same None h = refl
        same (Some g) h =
            let named : constant_named S w ≡ Some g = sym (is.first w) ∙ h in
            λ i. option_map_or (λ (q : Counts). meet q (From c)) (counts_before g (first_below S w g named) i) false || (is_some (rest g named i) || is_reached c (most g named i))

  -- ---- a constant of a new name

  module _ (none : constant_named S d.name ≡ None) where
    abbrev renewed : Tables
    renewed = with_new x d.name next

    first_none : x.first d.name ≡ None
    first_none = is.first d.name ∙ none

    first_own : renewed.first d.name ≡ Some next
    first_own = ap (λ b. if b then Some next else x.first d.name) self

    new_taking : (n : ℕ) → found longer renewed d.name n ≡ constant_taking longer d.name n
    new_taking n =
        ap (option_and_then (at_first longer renewed n)) first_own
        ∙ (λ i. if option_map_or (λ (q : Counts). takes q n) (counts_last i) false then Some next else option_or (is.no_exact next n (omega arith) i) (if_enough n (is.no_rest next (omega arith) i)))
        ∙ sym (ap (λ o. option_or o (if takes m n then Some next else None)) (sym (is.taking d.name n) ∙ ap (option_and_then (at_first S x n)) first_none))
        ∙ sym (taking_more d.name n ∙ ap (λ b. option_or (constant_taking S d.name n) (if b && takes m n then Some next else None)) self)

    new_reaching : (c : ℕ) → reached longer renewed d.name c ≡ is_met longer d.name (From c)
    new_reaching c =
        ap (λ o. option_map_or (reaches longer renewed c) o false) first_own
        ∙ (λ i. option_map_or (λ (q : Counts). meet q (From c)) (counts_last i) false || (is_some (is.no_rest next (omega arith) i) || is_reached c (is.no_most next (omega arith) i)))
        ∙ or_false (meet m (From c))
        ∙ sym (ap (λ b. b || meet m (From c)) (sym (is.reaching d.name c) ∙ ap (λ o. option_map_or (reaches S x c) o false) first_none))
        ∙ sym (met_more d.name c ∙ ap (λ b. is_met S d.name (From c) || (b && meet m (From c))) self)

    other_first : (w : List ℕ) → bytes_eq w d.name ≡ false → renewed.first w ≡ x.first w
    other_first w e = ap (λ b. if b then Some next else x.first w) (bytes-sym d.name w ∙ e)

    first_is : (w : List ℕ) → renewed.first w ≡ constant_named longer w
    first_is w = by (bytes_eq w d.name) refl
      where
        by : (b : Bool) → bytes_eq w d.name ≡ b → renewed.first w ≡ constant_named longer w
        by true e =
            let w_is : w ≡ d.name = (bytes_decides w d.name).0 e in
            ap (λ b. if b then Some next else x.first w) (bytes-sym d.name w ∙ e)
            ∙ sym (named_more w ∙ (λ i. option_or ((ap (constant_named S) w_is ∙ none) i) (if e i then Some next else None)))
        by false e =
            other_first w e ∙ is.first w ∙ sym (or_none (constant_named S w))
            ∙ sym (named_more w ∙ ap (λ b. option_or (constant_named S w) (if b then Some next else None)) e)

    -- The tables with a constant more of a new name find what the signature with it has.
    pub indexed_new : IsIndexed longer renewed
    indexed_new = record {
      first = first_is;
      taking = λ w n. by_taking w n (bytes_eq w d.name) refl;
      reaching = λ w c. by_reaching w c (bytes_eq w d.name) refl;
      no_exact = λ f n l. is.no_exact f n (less f l);
      no_rest = λ f l. is.no_rest f (less f l);
      no_most = λ f l. is.no_most f (less f l);
    }
      where
        less : (f : ℕ) → length (constants longer) ≤ f → next ≤ f
        less f l = let count = count_more in omega (arith, l, count)

        by_taking : (w : List ℕ) (n : ℕ) (b : Bool) → bytes_eq w d.name ≡ b → found longer renewed w n ≡ constant_taking longer w n
        by_taking w n true e = subst (λ v. found longer renewed v n ≡ constant_taking longer v n) (sym ((bytes_decides w d.name).0 e)) (new_taking n)
        by_taking w n false e = other_taking renewed w e (other_first w e) (λ g n h. refl) (λ g h. refl) (λ g h. refl) n

        by_reaching : (w : List ℕ) (c : ℕ) (b : Bool) → bytes_eq w d.name ≡ b → reached longer renewed w c ≡ is_met longer w (From c)
        by_reaching w c true e = subst (λ v. reached longer renewed v c ≡ is_met longer v (From c)) (sym ((bytes_decides w d.name).0 e)) (new_reaching c)
        by_reaching w c false e = other_reaching renewed w e (other_first w e) (λ g n h. refl) (λ g h. refl) (λ g h. refl) c

  -- ---- one more of a name that has one

  module _ (f : ℕ) (named : constant_named S d.name ≡ Some f) (apart : is_apart S d.name m ≡ true) where
    here : f < next
    here = first_below S d.name f named

    first_there : x.first d.name ≡ Some f
    first_there = is.first d.name ∙ named

    same_at : nat_eq f f ≡ true
    same_at = eqb-self f

    at_none : (n : ℕ) → takes m n ≡ true → later_at x n f ≡ None
    at_none n h =
        no_later (takes_own S n f) f (later_at x n f)
        (sym (ap (option_and_then (at_first S x n)) first_there) ∙ is.taking d.name n ∙ apart_takes_none S d.name m n apart h)

    -- the later ones
    later_is : (q : Counts) (n : ℕ) → ((n : ℕ) → takes q n ≡ true → later_at x n f ≡ None) → later_at (with_other x f next q) n f ≡ option_or (later_at x n f) (if takes q n then Some next else None)
    later_is (Exactly c) n none =
        ap (λ b. option_or (if b && nat_eq c n then Some next else x.exact f n) (if_enough n (x.rest f))) same_at
        ∙ ap (λ b. option_or (if b then Some next else x.exact f n) (if_enough n (x.rest f))) (eqb-sym c n)
        ∙ exactly (nat_eq n c) refl
      where
        exactly : (b : Bool) → nat_eq n c ≡ b → option_or (if b then Some next else x.exact f n) (if_enough n (x.rest f)) ≡ option_or (later_at x n f) (if b then Some next else None)
        exactly true e = sym (ap (λ o. option_or o (Some next)) (none n e))
        exactly false e = sym (or_none (later_at x n f))
    later_is (From c) n none =
        let empty = no_other_from (x.exact f) (x.rest f) c none in
        ap (λ b. option_or (x.exact f n) (if_enough n (if b then Some (c, next) else x.rest f))) same_at ∙ from_on empty (nat_le c n)
      where
        from_on : x.rest f ≡ None → (b : Bool) → option_or (x.exact f n) (if b then Some next else None) ≡ option_or (later_at x n f) (if b then Some next else None)
        from_on e b = ap (λ o. option_or o (if b then Some next else None)) (sym (or_none (x.exact f n)) ∙ ap (λ p. option_or (x.exact f n) (if_enough n p)) (sym e))

    either : (b : Bool) (o p : Option ℕ) → (if b then Some f else option_or o p) ≡ option_or (if b then Some f else o) p
    either true o p = refl
    either false o p = refl

    reach_is : (q : Counts) (c : ℕ) → later_reaches (with_other x f next q) c f ≡ (later_reaches x c f || meet q (From c))
    reach_is (Exactly k) c =
        ap (λ b. is_some (x.rest f) || is_reached c (if b then Some (raised k (x.most f)) else x.most f)) same_at
        ∙ ap (λ b. is_some (x.rest f) || b) (reached_more c k (x.most f)) ∙ assoc (is_some (x.rest f)) (is_reached c (x.most f)) (nat_le c k)
      where
        assoc : (a b c : Bool) → (a || (b || c)) ≡ ((a || b) || c)
        assoc true b c = refl
        assoc false b c = refl
    reach_is (From k) c =
        ap (λ b. is_some (if b then Some (k, next) else x.rest f) || is_reached c (x.most f)) same_at ∙ all (is_some (x.rest f) || is_reached c (x.most f))
      where
        all : (a : Bool) → true ≡ (a || true)
        all true = refl
        all false = refl

    assoc_own : (a b c : Bool) → (a || (b || c)) ≡ ((a || b) || c)
    assoc_own true b c = refl
    assoc_own false b c = refl

    first_stays : (q : Counts) (w : List ℕ) → (with_other x f next q).first w ≡ x.first w
    first_stays (Exactly c) w = refl
    first_stays (From c) w = refl

    more_taking : (n : ℕ) → found longer (with_other x f next m) d.name n ≡ constant_taking longer d.name n
    more_taking n =
        ap (option_and_then (at_first longer (with_other x f next m) n)) (first_stays m d.name ∙ first_there)
        ∙ (λ i. if option_map_or (λ (q : Counts). takes q n) (counts_before f here i) false then Some f else later_is m n at_none i)
        ∙ either (takes_own S n f) (later_at x n f) (if takes m n then Some next else None)
        ∙ ap (λ o. option_or o (if takes m n then Some next else None)) (sym (ap (option_and_then (at_first S x n)) first_there) ∙ is.taking d.name n)
        ∙ sym (taking_more d.name n ∙ ap (λ b. option_or (constant_taking S d.name n) (if b && takes m n then Some next else None)) self)

    more_reaching : (c : ℕ) → reached longer (with_other x f next m) d.name c ≡ is_met longer d.name (From c)
    more_reaching c =
        ap (λ o. option_map_or (reaches longer (with_other x f next m) c) o false) (first_stays m d.name ∙ first_there)
        ∙ (λ i. option_map_or (λ (q : Counts). meet q (From c)) (counts_before f here i) false || reach_is m c i)
        ∙ assoc_own (meets_own S c f) (later_reaches x c f) (meet m (From c))
        ∙ ap (λ b. b || meet m (From c)) (sym (ap (λ o. option_map_or (reaches S x c) o false) first_there) ∙ is.reaching d.name c)
        ∙ sym (met_more d.name c ∙ ap (λ b. is_met S d.name (From c) || (b && meet m (From c))) self)

    -- under another number nothing changes
    module _ (g : ℕ) (differs : nat_eq f g ≡ false) where
      exact_stays : (q : Counts) (n : ℕ) → (with_other x f next q).exact g n ≡ x.exact g n
      exact_stays (Exactly c) n = ap (λ b. if b && nat_eq c n then Some next else x.exact g n) differs
      exact_stays (From c) n = refl

      rest_stays : (q : Counts) → (with_other x f next q).rest g ≡ x.rest g
      rest_stays (Exactly c) = refl
      rest_stays (From c) = ap (λ b. if b then Some (c, next) else x.rest g) differs

      most_stays : (q : Counts) → (with_other x f next q).most g ≡ x.most g
      most_stays (Exactly c) = ap (λ b. if b then Some (raised c (x.most f)) else x.most g) differs
      most_stays (From c) = refl

    apart_from : (w : List ℕ) (g : ℕ) → bytes_eq w d.name ≡ false → constant_named S w ≡ Some g → nat_eq f g ≡ false
    apart_from w g e h = differ f g (λ q. true≢false (sym (same_first S w d.name g h (named ∙ ap Some q)) ∙ e))

    past : (g : ℕ) → next ≤ g → nat_eq f g ≡ false
    past g l = let low = here in differ f g (λ q. absurd (omega (arith, l, low, q)))

    first_more : (w : List ℕ) → (with_other x f next m).first w ≡ constant_named longer w
    first_more w = first_stays m w ∙ is.first w ∙ by (bytes_eq w d.name) refl ∙ sym (named_more w)
      where
        by : (b : Bool) → bytes_eq w d.name ≡ b → constant_named S w ≡ option_or (constant_named S w) (if bytes_eq w d.name then Some next else None)
        by true e =
            let there : constant_named S w ≡ Some f = ap (constant_named S) ((bytes_decides w d.name).0 e) ∙ named in
            there ∙ sym (ap (λ o. option_or o (if bytes_eq w d.name then Some next else None)) there)
        by false e = sym (or_none (constant_named S w)) ∙ sym (ap (λ b. option_or (constant_named S w) (if b then Some next else None)) e)

    -- The tables with a constant more, which is apart from those of its name, find what the signature with it has.
    pub indexed_other : IsIndexed longer (with_other x f next m)
    indexed_other = record {
      first = first_more;
      taking = λ w n. by_taking w n (bytes_eq w d.name) refl;
      reaching = λ w c. by_reaching w c (bytes_eq w d.name) refl;
      no_exact = λ g n l. exact_stays g (past g (less g l)) m n ∙ is.no_exact g n (less g l);
      no_rest = λ g l. rest_stays g (past g (less g l)) m ∙ is.no_rest g (less g l);
      no_most = λ g l. most_stays g (past g (less g l)) m ∙ is.no_most g (less g l);
    }
      where
        less : (g : ℕ) → length (constants longer) ≤ g → next ≤ g
        less g l = let count = count_more in omega (arith, l, count)

        by_taking : (w : List ℕ) (n : ℕ) (b : Bool) → bytes_eq w d.name ≡ b → found longer (with_other x f next m) w n ≡ constant_taking longer w n
        by_taking w n true e = subst (λ v. found longer (with_other x f next m) v n ≡ constant_taking longer v n) (sym ((bytes_decides w d.name).0 e)) (more_taking n)
        by_taking w n false e =
            other_taking (with_other x f next m) w e (first_stays m w) (λ g n h. exact_stays g (apart_from w g e h) m n) (λ g h. rest_stays g (apart_from w g e h) m) (λ g h. most_stays g (apart_from w g e h) m) n

        by_reaching : (w : List ℕ) (c : ℕ) (b : Bool) → bytes_eq w d.name ≡ b → reached longer (with_other x f next m) w c ≡ is_met longer w (From c)
        by_reaching w c true e = subst (λ v. reached longer (with_other x f next m) v c ≡ is_met longer v (From c)) (sym ((bytes_decides w d.name).0 e)) (more_reaching c)
        by_reaching w c false e =
            other_reaching (with_other x f next m) w e (first_stays m w) (λ g n h. exact_stays g (apart_from w g e h) m n) (λ g h. rest_stays g (apart_from w g e h) m) (λ g h. most_stays g (apart_from w g e h) m) c

-- ---- an entry of another kind

-- the tables stay where the constants do
pub indexed_same : (S T : Signature) (x : Tables) → constants T ≡ constants S → counted T ≡ counted S → IsIndexed S x → IsIndexed T x
indexed_same S T x c d is = record {
  first = λ w. is.first w ∙ ap (position (λ (k : Constant). bytes_eq w k.name)) (sym c);
  taking = λ w n.
      ap (λ (cs : List (Constant × Counts)). option_and_then (λ f. if option_map_or (λ (m : Counts). takes m n) (option_map (λ (q : Constant × Counts). q.1) (slice_get cs f)) false then Some f else later_at x n f) (x.first w)) d
      ∙ is.taking w n ∙ ap (position (λ (q : Constant × Counts). bytes_eq w q.0.name && takes q.1 n)) (sym d);
  reaching = λ w n.
      ap (λ (cs : List (Constant × Counts)). option_map_or (λ f. option_map_or (λ (m : Counts). meet m (From n)) (option_map (λ (q : Constant × Counts). q.1) (slice_get cs f)) false || later_reaches x n f) (x.first w) false) d
      ∙ is.reaching w n ∙ ap (list_any (λ (q : Constant × Counts). bytes_eq w q.0.name && meet q.1 (From n))) (sym d);
  no_exact = λ f n l. is.no_exact f n (subst (λ (cs : List Constant). length cs ≤ f) c l);
  no_rest = λ f l. is.no_rest f (subst (λ (cs : List Constant). length cs ≤ f) c l);
  no_most = λ f l. is.no_most f (subst (λ (cs : List Constant). length cs ≤ f) c l);
}

-- nothing is declared, and nothing is kept
pub indexed_none : IsIndexed [] no_tables
indexed_none = record { first = λ w. refl; taking = λ w n. refl; reaching = λ w c. refl; no_exact = λ f n l. refl; no_rest = λ f l. refl; no_most = λ f l. refl }
