-- Parts without a line of their own are short and not deep.
use Rattle.std.specs.Prelude.{◌≡◌, refl, ℕ, zero, suc, ◌^◌, ◌<◌, ◌≤◌, Bool, true, false, ◌&&◌, ◌||◌, nat_le, List, [], ◌∷◌, ◌++◌, length, if◌then◌else◌, Option, Some, None, All, Contains, slice_index_or, ◌⊎◌}
use Rattle.std.proofs.Common.{sym, ap, arith, subst, inl, inr, append_assoc}
use Rattle.std.proofs.lemmas.Bool.{leb-false}
use Rattle.std.proofs.lemmas.List.Elements.{All-weaker, Contains-append_left}
use Rattle.eo_term.specs.Tree.{Tree, height, is_value, tree_eq}
use Rattle.eo_term.proofs.Equality.{tree_same}
use Rattle.eo_sexp.specs.AtomKind as kind
use Rattle.eo_sexp.specs.Sexp.{Sexp}
use Rattle.eo_sexp.specs.Lexicon.{is_word, kind_of}
use Rattle.eo_sexp.specs.Printing.{is_word_of, printed_atom, printed}
use Rattle.eo_sig.specs.Signature.{Signature}
use Rattle.eo_show.specs.Forms.{form, symbol}
use Rattle.eo_show.specs.Members.{nesting, stand_in, parts_of, has_parts, places, wants_line, measured, is_defined, most_height, most_length}
use Rattle.eo_show.specs.Lines.{line_name, name_or, written}
use Rattle.eo_show.proofs.FormFacts.{some_height}
use Rattle.eo_show.specs.Walking.{IsLower}
use Rattle.eo_show.proofs.Lower.{parts-below}
use Rattle.eo_show.specs.Written.{Ordered}
use Rattle.eo_show.proofs.Leaves.{AreDigits, decimal-digits, length-small_decimal}
use Rattle.eo_show.proofs.Depths.{measured-same, IsNoLarger, with_parts-smaller}

-- ---- the names of lines

pub name-word : (k : ℕ) → is_word_of kind.Symbol (line_name k) ≡ true
unfolding is_word kind_of
name-word k = rw (AreDigits.words (decimal-digits k)) refl

pub name-short : (k : ℕ) → k < 2 ^ 64 → IsNoLarger (symbol (line_name k)) stand_in
unfolding printed_atom is_word kind_of
name-short k small = (omega arith, rw (AreDigits.words (decimal-digits k)) (omega (arith, length-small_decimal k small)))

pub stand_in-size : (nesting stand_in ≤ 0) × (length (printed stand_in) ≤ 24)
unfolding printed_atom is_word kind_of
stand_in-size = (omega arith, omega arith)

-- ---- members

module _ (S : Signature) where
  -- a member's parts are members
  pub record IsMember (all : List Tree) (m : Tree) : Type 0 where
    pub value : is_value m ≡ true
    pub parts_in : All (Contains all) (parts_of S m)

  ordered-members : (front back : List Tree) → Ordered S front back → (m : Tree) → (k : ℕ) → k < length back → slice_index_or back k m ≡ m → IsMember (front ++ back) m
  ordered-members front [] o m k lt e = absurd (omega arith)
  ordered-members front (b ∷ back) o m zero lt e =
      subst (IsMember (front ++ b ∷ back)) e (record { value = o.0.value; parts_in = All-weaker (Contains front) (Contains (front ++ b ∷ back)) (λ p c. Contains-append_left front (b ∷ back) p c) (parts_of S b) o.0.parts_before })
  ordered-members front (b ∷ back) o m (suc k) lt e =
      subst (λ all. IsMember all m) (append_assoc front (b ∷ []) back) (ordered-members (front ++ b ∷ []) back o.1 m k (omega arith) e)

  pub members-in : (all : List Tree) → Ordered S [] all → (m : Tree) → Contains all m → IsMember all m
  members-in all o m c = ordered-members [] all o m c.0 c.1 c.2

module _ (S : Signature) (all : List Tree) (t : Tree) (N : Tree → Option (List ℕ)) (inside : (m : Tree) → Contains all m → IsMember S all m) (low : (m : Tree) → Contains all m → height m ≤ height t) where
  abbrev test : Tree → Bool
  test m = tree_eq m t || is_defined S all m

  abbrev pub HasLine : Tree → Type 0
  HasLine q = ((test q ≡ true) × ((k : ℕ) × (k < 2 ^ 64) × (N q ≡ Some (line_name k)))) ⊎ ((test q ≡ false) × (N q ≡ None))

  module _ (named : (q : Tree) → Contains all q → HasLine q) where
    -- a part of a member, as it is measured
    abbrev stood : ℕ → Tree → Sexp
    stood d p = if wants_line S all p (measured S all d p) then stand_in else measured S all d p

    wanted : (p : Tree) (d : ℕ) → is_value p ≡ true → height p ≤ d → height p < height t → test p ≡ true → wants_line S all p (measured S all d p) ≡ true
    wanted p d v le lower e = subst (λ s. wants_line S all p s ≡ true) (measured-same S all (height p) d p v (omega arith) le) (other (tree_eq p t) refl e)
      where
        other : (b : Bool) → tree_eq p t ≡ b → (b || is_defined S all p) ≡ true → is_defined S all p ≡ true
        other true f h = absurd (omega (arith, ap height (tree_same p t f)))
        other false f h = h

    unwanted : (p : Tree) (d : ℕ) → is_value p ≡ true → height p ≤ d → test p ≡ false → wants_line S all p (measured S all d p) ≡ false
    unwanted p d v le e = subst (λ s. wants_line S all p s ≡ false) (measured-same S all (height p) d p v (omega arith) le) (other (tree_eq p t) e)
      where
        other : (b : Bool) → (b || is_defined S all p) ≡ false → is_defined S all p ≡ false
        other true h = cc
        other false h = h

    part-smaller : (d : ℕ) (p : Tree) → Contains all p → height p ≤ d → height p < height t → IsNoLarger (written S d N p) (measured S all d p) → IsNoLarger (name_or (N p) (written S d N p)) (stood d p)
    part-smaller d p c le lower h = go (named p c)
      where
        with_name : (o : Option (List ℕ)) (b : Bool) (name : List ℕ) → o ≡ Some name → b ≡ true → IsNoLarger (symbol name) stand_in → IsNoLarger (name_or o (written S d N p)) (if b then stand_in else measured S all d p)
        with_name o b name e f k = subst (λ o. IsNoLarger (name_or o (written S d N p)) (if b then stand_in else measured S all d p)) (sym e) (subst (λ b. IsNoLarger (symbol name) (if b then stand_in else measured S all d p)) (sym f) k)

        without_name : (o : Option (List ℕ)) (b : Bool) → o ≡ None → b ≡ false → IsNoLarger (name_or o (written S d N p)) (if b then stand_in else measured S all d p)
        without_name o b e f = subst (λ o. IsNoLarger (name_or o (written S d N p)) (if b then stand_in else measured S all d p)) (sym e) (subst (λ b. IsNoLarger (written S d N p) (if b then stand_in else measured S all d p)) (sym f) h)

        go : HasLine p → IsNoLarger (name_or (N p) (written S d N p)) (stood d p)
        go (inl y) = with_name (N p) (wants_line S all p (measured S all d p)) (line_name y.1.0) y.1.2 (wanted p d (inside p c).value le lower y.0) (name-short y.1.0 y.1.1)
        go (inr n) = without_name (N p) (wants_line S all p (measured S all d p)) n.1 (unwanted p d (inside p c).value le n.0)

    -- what is written is no larger than what is measured
    pub no-larger : (d : ℕ) (m : Tree) → Contains all m → height m ≤ d → IsNoLarger (written S d N m) (measured S all d m)
    no-larger zero m c le = absurd (omega (arith, some_height m))
    no-larger (suc d) m c le =
        with_parts-smaller S _ _ (form S m)
        (λ k x lt. part (slice_index_or (parts_of S m) k x) ((inside m c).parts_in k x lt) (parts-below S m (inside m c).value k x lt) (no-larger d (slice_index_or (parts_of S m) k x)))
      where
        part : (p : Tree) → Contains all p → IsLower (height m) p → (Contains all p → height p ≤ d → IsNoLarger (written S d N p) (measured S all d p)) → IsNoLarger (name_or (N p) (written S d N p)) (stood d p)
        part p i b h = part-smaller d p i (omega (arith, b.lower)) (omega (arith, b.lower, low m c)) (h i (omega (arith, b.lower)))

    -- a part, as it is written in the line of a member
    abbrev pub IsSmall : Sexp → Type 0
    IsSmall s = (nesting s ≤ 62) × (length (printed s) ≤ 4095)

    not-wanted-small : (p : Tree) (s : Sexp) → wants_line S all p s ≡ false → IsSmall s
    not-wanted-small p s e = go (has_parts S all p && nat_le 2 (places S all p)) (nat_le most_height (suc (nesting s))) (nat_le most_length (length (printed s))) refl refl e
      where
        go : (a b c : Bool) → nat_le most_height (suc (nesting s)) ≡ b → nat_le most_length (length (printed s)) ≡ c → (a || b || c) ≡ false → IsSmall s
        go true b c f g h = cc
        go false true c f g h = cc
        go false false true f g h = cc
        go false false false f g h = (omega (arith, leb-false 64 (suc (nesting s)) f), omega (arith, leb-false 4096 (length (printed s)) g))

    pub part-small : (d : ℕ) (p : Tree) → Contains all p → height p ≤ d → height p < height t → IsSmall (name_or (N p) (written S d N p))
    part-small d p c le lower = go (wants_line S all p (measured S all d p)) refl (part-smaller d p c le lower (no-larger d p c le))
      where
        go : (b : Bool) → wants_line S all p (measured S all d p) ≡ b → IsNoLarger (name_or (N p) (written S d N p)) (if b then stand_in else measured S all d p) → IsSmall (name_or (N p) (written S d N p))
        go true e h = let w = stand_in-size in (omega (arith, h.0, w.0), omega (arith, h.1, w.1))
        go false e h = let s = not-wanted-small p (measured S all d p) e in (omega (arith, h.0, s.0), omega (arith, h.1, s.1))
