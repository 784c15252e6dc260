-- Tables of names beside the list of declarations.
use Rattle.eo_base.proofs.Elements.{slice_get_left, slice_get_seam}
use Rattle.std.proofs.Common.{◌≡◌, ℕ, zero, suc, ◌+◌, Bool, not, cond, List, [], ◌∷◌, ◌++◌, length, map, position, slice_get, get_or, Option, Some, None, All, refl, sym, ap, ap₂, ◌∙◌, subst}
use Rattle.std.specs.List.{filter_map, position_or_len, cons_option}
use Rattle.std.specs.Prelude.{option_map, nat_lt}
use Rattle.std.specs.Borrow.{Bor}
use Rattle.std.specs.Option.{option_or, option_copied, IsSome}
use Rattle.std.proofs.lemmas.List.{length-map, map-append, append-nil}
use Rattle.std.proofs.lemmas.List.Elements.{filter_map-append, All-head, All-tail}
use Rattle.std.proofs.lemmas.Option.{none-some, same_Some, slice_get-map}
use Rattle.eo_lit.specs.declared.LiteralClass.{LiteralClass}
use Rattle.eo_sig.specs.declared.records.Declared.{Declared}
use Rattle.eo_sig.specs.Held.{tagged, IsTable, literal_id, first_literal}

-- lists

position_len : {X Y L : Type 0} (p : L → Bool) (f : X → L) (g : Y → L) (xs : List X) (ys : List Y) → map f xs ≡ map g ys → (position_or_len (λ x. p (f x)) xs ≡ position_or_len (λ y. p (g y)) ys) × (length xs ≡ length ys)
position_len p f g [] [] e = (refl, refl)
position_len p f g [] (y ∷ ys) e = absurd cc
position_len p f g (x ∷ xs) [] e = absurd cc
position_len p f g (x ∷ xs) (y ∷ ys) e =
    let h : f x ≡ g y = cc in
    let t : map f xs ≡ map g ys = cc in
    let r = position_len p f g xs ys t in
    (λ i. cond (not (p (h i))) (1 + r.0 i) 0, ap suc r.1)

-- what passes first is at one place, where the two lists show the same
pub position_same : {X Y L : Type 0} (p : L → Bool) (f : X → L) (g : Y → L) (xs : List X) (ys : List Y) → map f xs ≡ map g ys → position (λ x. p (f x)) xs ≡ position (λ y. p (g y)) ys
position_same p f g xs ys e =
    let r = position_len p f g xs ys e in
    λ i. cond (nat_lt (r.0 i) (r.1 i)) (Some (r.0 i)) None

pub map_twice : {X Y Z : Type 0} (g : Y → Z) (f : X → Y) (h : X → Z) → ((x : X) → g (f x) ≡ h x) → (xs : List X) → map g (map f xs) ≡ map h xs
map_twice g f h e [] = refl
map_twice g f h e (x ∷ xs) = λ i. e x i ∷ map_twice g f h e xs i

-- the element at a place
pub get_of_some : {X : Type 0} (xs : List X) (i : ℕ) (x d : X) → slice_get xs i ≡ Some x → get_or xs i d ≡ x
get_of_some [] i x d p = absurd (none-some x p)
get_of_some (y ∷ ys) zero x d p = same_Some y x p
get_of_some (y ∷ ys) (suc i) x d p = get_of_some ys i x d p

first_append : {X : Type 0} (xs ys : List X) → slice_get (xs ++ ys) 0 ≡ option_or (slice_get xs 0) (slice_get ys 0)
first_append [] ys = refl
first_append (x ∷ xs) ys = refl

abbrev pub placed : List Declared → List ℕ × ℕ → List ℕ × Option Declared
placed es e = (e.0, slice_get es e.1)

-- each of these has a declaration
abbrev AllSome : List (List ℕ × Option Declared) → Type 0
AllSome [] = Unit {0}
AllSome (q ∷ qs) = ((d : Declared) × (q.1 ≡ Some d)) × AllSome qs

all_some : (pick : Declared → Option (List ℕ)) (es : List Declared) → AllSome (filter_map (tagged pick) es)
all_some pick [] = tt
all_some pick (d ∷ es) = by (pick d) (all_some pick es)
  where
    by : (o : Option (List ℕ)) → AllSome (filter_map (tagged pick) es) → AllSome (cons_option (option_map (λ w. (w, Some d)) o) (filter_map (tagged pick) es))
    by None h = h
    by (Some w) h = ((d, refl), h)

-- a longer list has the same at the places
stay : (es : List Declared) (x : Declared) (names : List (List ℕ × ℕ)) (qs : List (List ℕ × Option Declared)) → AllSome qs → map (placed es) names ≡ qs → map (placed (es ++ x ∷ [])) names ≡ qs
stay es x [] qs a e = e
stay es x (n ∷ ns) [] a e = absurd cc
stay es x (n ∷ ns) (q ∷ qs) a e =
    let h : placed es n ≡ q = cc in
    let t : map (placed es) ns ≡ qs = cc in
    let at : slice_get (es ++ x ∷ []) n.1 ≡ Some a.0.0 = slice_get_left es (x ∷ []) n.1 a.0.0 (ap (λ (r : List ℕ × Option Declared). r.1) h ∙ a.0.1) in
    let same : slice_get (es ++ x ∷ []) n.1 ≡ slice_get es n.1 = at ∙ sym (ap (λ (r : List ℕ × Option Declared). r.1) h ∙ a.0.1) in
    let head : placed (es ++ x ∷ []) n ≡ q = ap (λ (o : Option Declared). (n.0, o)) same ∙ h in
    λ i. head i ∷ stay es x ns qs a.1 t i

-- one more declaration of the kind
pub push_own : (pick : Declared → Option (List ℕ)) (es : List Declared) (names : List (List ℕ × ℕ)) (x : Declared) (key : List ℕ) → IsTable pick es names → pick x ≡ Some key → IsTable pick (es ++ x ∷ []) (names ++ (key, length es) ∷ [])
push_own pick es names x key h e =
    let own : filter_map (tagged pick) (x ∷ []) ≡ (key, Some x) ∷ [] = ap (λ (o : Option (List ℕ)). cons_option (option_map (λ w. (w, Some x)) o) []) e in
    let last : placed (es ++ x ∷ []) (key, length es) ≡ (key, Some x) = ap (λ (o : Option Declared). (key, o)) (slice_get_seam es x []) in
    map-append (placed (es ++ x ∷ [])) names ((key, length es) ∷ [])
    ∙ ap₂ (λ as' bs. as' ++ bs) (stay es x names (filter_map (tagged pick) es) (all_some pick es) h) (ap (λ q. q ∷ []) last ∙ sym own)
    ∙ sym (filter_map-append (tagged pick) es (x ∷ []))

-- one more of another kind
pub push_other : (pick : Declared → Option (List ℕ)) (es : List Declared) (names : List (List ℕ × ℕ)) (x : Declared) → IsTable pick es names → pick x ≡ None → IsTable pick (es ++ x ∷ []) names
push_other pick es names x h e =
    let own : filter_map (tagged pick) (x ∷ []) ≡ [] = ap (λ (o : Option (List ℕ)). cons_option (option_map (λ w. (w, Some x)) o) []) e in
    stay es x names (filter_map (tagged pick) es) (all_some pick es) h
    ∙ sym (append-nil (filter_map (tagged pick) es))
    ∙ ap (λ bs. filter_map (tagged pick) es ++ bs) (sym own)
    ∙ sym (filter_map-append (tagged pick) es (x ∷ []))

-- the names in a table
pub table_names : (pick : Declared → Option (List ℕ)) (es : List Declared) (names : List (List ℕ × ℕ)) → IsTable pick es names → map (λ (e : List ℕ × ℕ). e.0) names ≡ filter_map pick es
table_names pick es names h =
    sym (map_twice (λ (q : List ℕ × Option Declared). q.0) (placed es) (λ e. e.0) (λ e. refl) names) ∙ ap (map (λ (q : List ℕ × Option Declared). q.0)) h ∙ untagged es
  where
    untagged : (ds : List Declared) → map (λ (q : List ℕ × Option Declared). q.0) (filter_map (tagged pick) ds) ≡ filter_map pick ds
    untagged [] = refl
    untagged (d ∷ ds) = by (pick d) (untagged ds)
      where
        by : (o : Option (List ℕ)) → map (λ (q : List ℕ × Option Declared). q.0) (filter_map (tagged pick) ds) ≡ filter_map pick ds
            → map (λ (q : List ℕ × Option Declared). q.0) (cons_option (option_map (λ w. (w, Some d)) o) (filter_map (tagged pick) ds)) ≡ cons_option o (filter_map pick ds)
        by None h = h
        by (Some w) h = ap (λ ws. w ∷ ws) h

pub table_length : (pick : Declared → Option (List ℕ)) (es : List Declared) (names : List (List ℕ × ℕ)) → IsTable pick es names → length names ≡ length (filter_map pick es)
table_length pick es names h = sym (length-map names (λ e. e.0)) ∙ ap length (table_names pick es names h)

-- Declarations of one kind, in the table of their names.
module _ {D : Type 0} (own : Declared → Option D) (name : D → List ℕ) where
  abbrev pick : Declared → Option (List ℕ)
  pick x = option_map name (own x)

  -- the declaration that is shown is of the kind, and has number n in the list
  abbrev Picked : List D → ℕ → Option Declared → Type 0
  Picked ds n o = (x : Declared) × (d : D) × (o ≡ Some x) × (own x ≡ Some d) × (slice_get ds n ≡ Some d)

  picked_step : (x : Declared) (o : Option D) → own x ≡ o → (es : List Declared) (n : ℕ) (q : List ℕ × Option Declared) → ((m : ℕ) → slice_get (filter_map (tagged pick) es) m ≡ Some q → Picked (filter_map own es) m q.1)
      → slice_get (cons_option (option_map (λ w. (w, Some x)) (option_map name o)) (filter_map (tagged pick) es)) n ≡ Some q → Picked (cons_option o (filter_map own es)) n q.1
  picked_step x None e es n q h p = h n p
  picked_step x (Some d) e es zero q h p = (x, d, sym (ap (λ (r : List ℕ × Option Declared). r.1) (same_Some _ q p)), e, refl)
  picked_step x (Some d) e es (suc n) q h p = h n p

  picked : (es : List Declared) (n : ℕ) (q : List ℕ × Option Declared) → slice_get (filter_map (tagged pick) es) n ≡ Some q → Picked (filter_map own es) n q.1
  picked [] n q p = absurd (none-some q p)
  picked (x ∷ es) n q p = picked_step x (own x) refl es n q (λ m r. picked es m q r) p

  -- by its number
  pub numbered : (es : List Declared) (names : List (List ℕ × ℕ)) (n : ℕ) (e : List ℕ × ℕ) → IsTable pick es names → slice_get names n ≡ Some e → Picked (filter_map own es) n (slice_get es e.1)
  numbered es names n e h p =
      picked es n (e.0, slice_get es e.1) (ap (λ qs. slice_get qs n) (sym h) ∙ slice_get-map (placed es) names n ∙ ap (option_map (placed es)) p)

  -- how many there are
  own_count : (es : List Declared) → length (filter_map pick es) ≡ length (filter_map own es)
  own_count [] = refl
  own_count (x ∷ es) = by (own x) (own_count es)
    where
      by : (o : Option D) → length (filter_map pick es) ≡ length (filter_map own es) → length (cons_option (option_map name o) (filter_map pick es)) ≡ length (cons_option o (filter_map own es))
      by None h = h
      by (Some d) h = ap suc h

  pub numbers : (es : List Declared) (names : List (List ℕ × ℕ)) → IsTable pick es names → length names ≡ length (filter_map own es)
  numbers es names h = table_length pick es names h ∙ own_count es

  -- what holds of every declaration holds of one by its number
  own_holds_step : (P : Declared → Type 0) (Q : D → Type 0) → ((x : Declared) (d : D) → own x ≡ Some d → P x → Q d) → (x : Declared) (o : Option D) → own x ≡ o → P x → (ds : List D) (n : ℕ) (d : D) → ((m : ℕ) → slice_get ds m ≡ Some d → Q d)
      → slice_get (cons_option o ds) n ≡ Some d → Q d
  own_holds_step P Q f x None e h ds n d g p = g n p
  own_holds_step P Q f x (Some c) e h ds zero d g p = subst Q (same_Some c d p) (f x c e h)
  own_holds_step P Q f x (Some c) e h ds (suc n) d g p = g n p

  pub own_holds : (P : Declared → Type 0) (Q : D → Type 0) → ((x : Declared) (d : D) → own x ≡ Some d → P x → Q d) → (es : List Declared) → All P es → (n : ℕ) (d : D) → slice_get (filter_map own es) n ≡ Some d → Q d
  own_holds P Q f [] h n d p = absurd (none-some d p)
  own_holds P Q f (x ∷ es) h n d p =
      own_holds_step P Q f x (own x) refl (All-head P x es h) (filter_map own es) n d (λ m r. own_holds P Q f es (All-tail P x es h) m d r) p

-- the types of the classes of literals
pub literal_other : (l : LiteralClass) (es : List Declared) (x : Declared) → literal_id l x ≡ None → first_literal l (es ++ x ∷ []) ≡ first_literal l es
literal_other l es x e =
    ap (λ ns. slice_get ns 0) (filter_map-append (literal_id l) es (x ∷ []) ∙ ap (λ (o : Option ℕ). filter_map (literal_id l) es ++ cons_option o []) e ∙ append-nil (filter_map (literal_id l) es))

pub literal_own : (l : LiteralClass) (es : List Declared) (x : Declared) (t : ℕ) → first_literal l es ≡ None → literal_id l x ≡ Some t → first_literal l (es ++ x ∷ []) ≡ Some t
literal_own l es x t n e =
    ap (λ ns. slice_get ns 0) (filter_map-append (literal_id l) es (x ∷ []) ∙ ap (λ (o : Option ℕ). filter_map (literal_id l) es ++ cons_option o []) e)
    ∙ first_append (filter_map (literal_id l) es) (t ∷ [])
    ∙ ap (λ (o : Option ℕ). option_or o (Some t)) n

-- an element that was read at a place, where the place has a declaration of the kind
pub numbered_here : {D : Type 0} (own : Declared → Option D) (name : D → List ℕ) (es : List Declared) (names : List (List ℕ × ℕ)) (n : ℕ) (e : List ℕ × ℕ) (x : Declared)
    → IsTable (pick own name) es names → slice_get names n ≡ Some e → x ≡ get_or es e.1 x → (d : D) × (own x ≡ Some d) × (slice_get (filter_map own es) n ≡ Some d)
numbered_here own name es names n e x h p g =
    let r = numbered own name es names n e h p in
    (r.1, ap own (g ∙ get_of_some es e.1 r.0 x r.2) ∙ r.3, r.4)

pub some_copied : {D : Type 0} (o : Option (Bor D)) (d : D) → option_copied o ≡ Some d → IsSome o
some_copied None d e = absurd (none-some d e)
some_copied (Some r) d e = refl
