-- What the look-ups of constants by name find.
use Rattle.std.proofs.Common.{◌≡◌, ℕ, zero, suc, ◌<◌, false, ◌&&◌, ◌||◌, List, [], ◌∷◌, length, slice_get, get_or, Option, Some, None, refl, sym, ap, ◌∙◌, subst, arith}
use Rattle.std.specs.List.{filter_map}
use Rattle.std.specs.Prelude.{option_and_then, if◌then◌else◌, IfSome}
use Rattle.std.specs.Option.{option_or, option_map_or, IsSome}
use Rattle.std.proofs.lemmas.Option.{none-some}
use Rattle.eo_sig.specs.declared.records.Declared.{Declared}
use Rattle.eo_sig.specs.Signature as sig
use Rattle.eo_sig.specs.Reading.{Kept, signature, const_of, constants_of}
use Rattle.eo_sig.specs.Held.{IsPlaces}
use Rattle.eo_sig.specs.Indexed.{Tables, IsIndexed, counts_at, later_at, later_reaches, at_first, reaches, is_met}
use Rattle.eo_sig.proofs.Indexed.{eqb-self, first_below, taking_below, apart_takes_none}
use Rattle.eo_sig.proofs.Readings.{AtPlace, at_place, place_in, places_count, bare_count}
use Rattle.eo_sig.proofs.Single.{apart_new}

-- ---- places

got : {X : Type 0} (xs : List X) (n : ℕ) (p : X) → n < length xs → p ≡ get_or xs n p → slice_get xs n ≡ Some p
got [] n p l e = absurd (omega (arith, l))
got (x ∷ xs) zero p l e = ap Some (sym e)
got (x ∷ xs) (suc n) p l e = got xs n p (omega (arith, l)) e

module _ (es : List Declared) (places : List ℕ) (h : IsPlaces es places) (n : ℕ) (l : n < length (filter_map const_of es)) where
  pub place_below : n < length places
  place_below = let c = places_count es places h in omega (arith, l, c)

  pub entry_below : (p : ℕ) → p ≡ get_or places n p → p < length es
  entry_below p e = place_in es places n p h (got places n p place_below e)

  pub at_number : (p : ℕ) (x : Declared) → p ≡ get_or places n p → x ≡ get_or es p x → AtPlace es n x
  at_number p x e g = at_place es places n p x h (got places n p place_below e) g

-- ---- within

pub named_within : (k : Kept) (w : List ℕ) (o : Option ℕ) → o ≡ sig.constant_named (signature [] k) w → IfSome o (λ n. n < length (constants_of k))
named_within k w None e = tt
named_within k w (Some n) e = subst (λ l. n < l) (bare_count [] k) (first_below (signature [] k) w n (sym e))

pub taking_within : (k : Kept) (w : List ℕ) (n : ℕ) (o : Option ℕ) → o ≡ sig.constant_taking (signature [] k) w n → IfSome o (λ n. n < length (constants_of k))
taking_within k w n None e = tt
taking_within k w n (Some j) e = subst (λ l. j < l) (bare_count [] k) (taking_below (signature [] k) w n j (sym e))

pub for_within : (k : Kept) (w : List ℕ) (n : ℕ) (o : Option ℕ) → o ≡ sig.constant_for (signature [] k) w n → IfSome o (λ n. n < length (constants_of k))
for_within k w n o e = by (sig.constant_taking (signature [] k) w n) refl (sig.constant_named (signature [] k) w) refl o e
  where
    by : (t : Option ℕ) → sig.constant_taking (signature [] k) w n ≡ t → (f : Option ℕ) → sig.constant_named (signature [] k) w ≡ f → (o : Option ℕ) → o ≡ option_or t f → IfSome o (λ n. n < length (constants_of k))
    by (Some j) g f h o e = subst (λ o. IfSome o (λ n. n < length (constants_of k))) (sym e) (subst (λ l. j < l) (bare_count [] k) (taking_below (signature [] k) w n j g))
    by None g f h o e = named_within k w o (e ∙ sym h)

-- ---- under the first constant of a name

module _ (S : sig.Signature) (x : Tables) (is : IsIndexed S x) (w : List ℕ) (f : ℕ) (named : sig.constant_named S w ≡ Some f) (m : sig.Counts) (own : counts_at S f ≡ Some m) where
  there : x.first w ≡ Some f
  there = is.first w ∙ named

  -- it takes so many itself, or a later one does
  pub taking_is : (n : ℕ) → (if sig.takes m n then Some f else later_at x n f) ≡ sig.constant_taking S w n
  taking_is n =
      ap (λ (o : Option sig.Counts). if option_map_or (λ (q : sig.Counts). sig.takes q n) o false then Some f else later_at x n f) (sym own)
      ∙ sym (ap (option_and_then (at_first S x n)) there) ∙ is.taking w n

  pub reach_is : (c : ℕ) → (sig.meet m (sig.From c) || later_reaches x c f) ≡ is_met S w (sig.From c)
  reach_is c =
      ap (λ (o : Option sig.Counts). option_map_or (λ (q : sig.Counts). sig.meet q (sig.From c)) o false || later_reaches x c f) (sym own)
      ∙ sym (ap (λ o. option_map_or (reaches S x c) o false) there) ∙ is.reaching w c

-- none takes any number of arguments where none has the name
pub unnamed_none : (S : sig.Signature) (w : List ℕ) (n : ℕ) → sig.constant_named S w ≡ None → sig.constant_taking S w n ≡ None
unnamed_none S w n e = apart_takes_none S w (sig.Exactly n) n (apart_new S w (sig.Exactly n) e) (eqb-self n)

pub some_there : {X : Type 0} (o : Option X) (x : X) → o ≡ Some x → IsSome o
some_there None x e = absurd (none-some x e)
some_there (Some y) x e = refl
