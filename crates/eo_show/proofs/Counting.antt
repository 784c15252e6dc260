-- Counting parts: what one more does to the counts of all members.
use Rattle.std.specs.Prelude.{take, nat_lt, if◌then◌else◌, ◌≤◌, slice_set, ◌≡◌, refl, ℕ, zero, suc, ◌+◌, ◌<◌, Bool, true, false, cond, map, length, position, slice_index_or, replicate, flat_map, Some, None, is_some, List, [], ◌∷◌, ◌++◌}
use Rattle.std.specs.List.{AllByRecursion, IsDistinct, position_from}
use Rattle.std.proofs.Common.{sym, ap, ap₂, ◌∙◌, subst, arith, true≢false, append-nil, append_assoc}
use Rattle.std.proofs.lemmas.Bool.{le-leb, leb-true}
use Rattle.std.proofs.lemmas.List.{take_more, map-append}
use Rattle.std.proofs.lemmas.Grind.{flat_map-append}
use Rattle.std.proofs.lemmas.List.Sums.{sum_by_push, sum_by-append, sum_by-cons}
use Rattle.std.proofs.lemmas.List.Quantifiers.{position-Some}
use Rattle.std.proofs.lemmas.Iterator.Adapters.{position_from-zero}
use Rattle.eo_base.proofs.Tests.{clash}
use Rattle.eo_lists.specs.Lists.{times}
use Rattle.eo_sig.specs.Signature.{Signature}
use Rattle.eo_term.specs.Tree.{Tree, tree_eq}
use Rattle.eo_term.specs.Terms.{Terms}
use Rattle.eo_term.proofs.Equality.{tree_same, tree_refl}
use Rattle.eo_show.specs.declared.Member.{Member}
use Rattle.eo_show.specs.declared.parts.Form.{Form}
use Rattle.eo_show.specs.Members.{places, parts_of}
use Rattle.eo_show.specs.Places.{counted, counted_at, one_more, parts_kept}
use Rattle.eo_show.specs.Plan.{up_to, member_tree, member_trees}
use Rattle.eo_show.specs.Sizes.{some_places}
use Rattle.eo_show.specs.Walking.{HaveForms}

pub turned : (a b : Tree) → tree_eq a b ≡ false → tree_eq b a ≡ false
turned a b e = go (tree_eq b a) refl
  where
    go : (w : Bool) → tree_eq b a ≡ w → w ≡ false
    go true f = absurd (true≢false (sym (tree_refl a) ∙ ap (tree_eq a) (sym (tree_same b a f)) ∙ e))
    go false f = refl

-- no tree is the same as p
abbrev pub AreOthers : Tree → List Tree → Type 0
AreOthers p us = AllByRecursion (λ u. tree_eq u p ≡ false) us

pub after-first : (u : Tree) (us : List Tree) → AllByRecursion (λ v. tree_eq u v ≡ false) us → AreOthers u us
after-first u [] h = tt
after-first u (v ∷ us) h = (turned u v h.0, after-first u us h.1)

pub one-after : (u p : Tree) (us : List Tree) (i : ℕ) → AllByRecursion (λ v. tree_eq u v ≡ false) us → i < length us → slice_index_or us i p ≡ p → tree_eq u p ≡ false
one-after u p [] i h less e = absurd (omega (arith, less))
one-after u p (v ∷ us) zero h less e = ap (tree_eq u) (sym e) ∙ h.0
one-after u p (v ∷ us) (suc i) h less e = one-after u p us i h.1 (omega (arith, less)) e

two : (n : ℕ) → 2 ≤ n → up_to 2 n ≡ 2
two n h = ap (λ (b : Bool). if b then 2 else n) (le-leb 2 n h)

no_more : (n : ℕ) → 2 ≤ n → one_more n ≡ n
no_more n h = go (nat_lt n 2) refl
  where
    go : (b : Bool) → nat_lt n 2 ≡ b → (if b then suc n else n) ≡ n
    go true e = absurd (omega (arith, leb-true (suc n) 2 e, h))
    go false e = refl

one_more-is : (n : ℕ) → up_to 2 (suc n) ≡ one_more (up_to 2 n)
one_more-is zero = refl
one_more-is (suc zero) = refl
one_more-is (suc (suc n)) = two (suc (suc (suc n))) (omega arith) ∙ ap one_more (sym (two (suc (suc n)) (omega arith)))

module _ (done : List Tree) (p : Tree) where
  push : (u : Tree) (b : Bool) → tree_eq u p ≡ b → counted (done ++ p ∷ []) u ≡ up_to 2 (times tree_eq u done + cond b 1 0)
  push u b e = ap (up_to 2) (sum_by_push (λ x. cond (tree_eq u x) 1 0) done p ∙ ap (λ b. times tree_eq u done + cond b 1 0) e)

  after-other : (u : Tree) → tree_eq u p ≡ false → counted done u ≡ counted (done ++ p ∷ []) u
  after-other u e =
      let same : times tree_eq u done ≡ times tree_eq u done + cond false 1 0 = omega arith in
      ap (up_to 2) same ∙ sym (push u false e)

  after-same : one_more (counted done p) ≡ counted (done ++ p ∷ []) p
  after-same =
      let same : suc (times tree_eq p done) ≡ times tree_eq p done + cond true 1 0 = omega arith in
      sym (one_more-is (times tree_eq p done)) ∙ ap (up_to 2) same ∙ sym (push p true (tree_refl p))

  pub elsewhere : (us : List Tree) → AreOthers p us → map (counted done) us ≡ map (counted (done ++ p ∷ [])) us
  elsewhere [] h = refl
  elsewhere (u ∷ us) h = ap₂ (λ n ns. n ∷ ns) (after-other u h.0) (elsewhere us h.1)

  there : (us : List Tree) (i : ℕ) → IsDistinct tree_eq us → i < length us → slice_index_or us i p ≡ p → counted_at i (map (counted done) us) ≡ map (counted (done ++ p ∷ [])) us
  unfolding IsDistinct
  there [] i d less e = absurd (omega (arith, less))
  there (u ∷ us) zero d less e =
      ap₂ (λ n ns. n ∷ ns) (ap (λ u. one_more (counted done u)) e ∙ after-same ∙ ap (counted (done ++ p ∷ [])) (sym e)) (elsewhere us (subst (λ v. AreOthers v us) e (after-first u us d.0)))
  there (u ∷ us) (suc i) d less e = ap₂ (λ n ns. n ∷ ns) (after-other u (one-after u p us i d.0 (omega (arith, less)) e)) (there us i d.1 (omega (arith, less)) e)

  pub counted-there : (us : List Tree) (i : ℕ) → IsDistinct tree_eq us → Some i ≡ position (tree_eq p) us → counted_at i (map (counted done) us) ≡ map (counted (done ++ p ∷ [])) us
  counted-there us i d e =
      let at = position-Some (tree_eq p) us i p (sym e) in
      there us i d at.0 (sym (tree_same p (slice_index_or us i p) at.1))

none-from : (p : Tree) (i : ℕ) (us : List Tree) → position_from (tree_eq p) i us ≡ None → AreOthers p us
none-from p i [] e = tt
none-from p i (u ∷ us) e = go (tree_eq p u) refl e (λ f. none-from p (i + 1) us f)
  where
    go : (b : Bool) → tree_eq p u ≡ b → cond b (Some i) (position_from (tree_eq p) (i + 1) us) ≡ None → (position_from (tree_eq p) (i + 1) us ≡ None → AreOthers p us) → AreOthers p (u ∷ us)
    go true f h later = clash (sym (ap is_some h))
    go false f h later = (turned p u f, later h)

pub not-there : (done : List Tree) (p : Tree) (us : List Tree) → None ≡ position (tree_eq p) us → map (counted done) us ≡ map (counted (done ++ p ∷ [])) us
not-there done p us e = elsewhere done p us (none-from p 0 us (sym (position_from-zero (tree_eq p) us) ∙ sym e))

-- ---- one more at a place

pub past : (i : ℕ) (ns : List ℕ) → length ns ≤ i → ns ≡ counted_at i ns
past i [] h = refl
past zero (n ∷ ns) h = absurd (omega (arith, h))
past (suc i) (n ∷ ns) h = ap (λ ns. n ∷ ns) (past i ns (omega (arith, h)))

pub full : (i : ℕ) (ns : List ℕ) → i < length ns → 2 ≤ slice_index_or ns i 0 → ns ≡ counted_at i ns
full i [] less h = absurd (omega (arith, less))
full zero (n ∷ ns) less h = ap (λ n. n ∷ ns) (sym (no_more n h))
full (suc i) (n ∷ ns) less h = ap (λ ns. n ∷ ns) (full i ns (omega (arith, less)) h)

fewer-one : (n : ℕ) → n < 2 → n + 1 ≡ one_more n
fewer-one zero h = refl
fewer-one (suc zero) h = refl
fewer-one (suc (suc n)) h = absurd (omega (arith, h))

pub fewer : (i : ℕ) (ns : List ℕ) → i < length ns → slice_index_or ns i 0 < 2 → slice_set ns i (slice_index_or ns i 0 + 1) ≡ counted_at i ns
fewer i [] less h = absurd (omega (arith, less))
fewer zero (n ∷ ns) less h = ap (λ n. n ∷ ns) (fewer-one n h)
fewer (suc i) (n ∷ ns) less h = ap (λ ns. n ∷ ns) (fewer i ns (omega (arith, less)) h)

-- ---- a part after the others

pub more-counted : (t : Terms) (done : List Tree) (ps : List Member) (i : ℕ) (d : Member) → i < length ps → (done ++ member_trees t (take i ps)) ++ member_tree t (slice_index_or ps i d) ∷ [] ≡ done ++ member_trees t (take (i + 1) ps)
more-counted t done ps i d less =
    append_assoc done (member_trees t (take i ps)) (member_tree t (slice_index_or ps i d) ∷ [])
    ∙ ap (λ us. done ++ us) (sym (ap (member_trees t) (take_more ps i d less) ∙ map-append (member_tree t) (take i ps) (slice_index_or ps i d ∷ [])))

pub more-parts : (t : Terms) (fs : List Form) (i : ℕ) (d : Form) → i < length fs → parts_kept t (take i fs) ++ member_trees t (slice_index_or fs i d).parts.items ≡ parts_kept t (take (i + 1) fs)
more-parts t fs i d less =
    let f = slice_index_or fs i d in
    sym (ap (parts_kept t) (take_more fs i d less) ∙ flat_map-append (λ (f : Form). member_trees t f.parts.items) (take i fs) (f ∷ []) ∙ ap (λ us. parts_kept t (take i fs) ++ us) (append-nil (member_trees t f.parts.items)))

-- ---- all of them

pub none-counted : (us : List Tree) (n : ℕ) → n ≡ length us → replicate n 0 ≡ map (counted []) us
none-counted us n e = ap (λ n. replicate n 0) e ∙ go us
  where
    go : (us : List Tree) → replicate (length us) 0 ≡ map (counted []) us
    go [] = refl
    go (u ∷ us) = ap (λ ns. 0 ∷ ns) (go us)

pub kept-parts : (S : Signature) (t : Terms) (ms : List Member) (fs : List Form) → HaveForms S t ms fs → parts_kept t fs ≡ flat_map (parts_of S) (member_trees t ms)
kept-parts S t [] [] h = refl
kept-parts S t (m ∷ ms) (f ∷ fs) h = ap₂ (λ us vs. us ++ vs) h.0.0.parts.trees (kept-parts S t ms fs h.1)
kept-parts S t [] (f ∷ fs) h = absurd h
kept-parts S t (m ∷ ms) [] h = absurd h

times-all : (S : Signature) (u : Tree) (us : List Tree) → times tree_eq u (flat_map (parts_of S) us) ≡ places S us u
times-all S u [] = refl
times-all S u (v ∷ us) =
    sum_by-append (λ x. cond (tree_eq u x) 1 0) (parts_of S v) (flat_map (parts_of S) us)
    ∙ ap (λ n. times tree_eq u (parts_of S v) + n) (times-all S u us)
    ∙ sym (sum_by-cons (λ m. times tree_eq u (parts_of S m)) v us)

all-counted-in : (S : Signature) (all : List Tree) (us : List Tree) → map (counted (flat_map (parts_of S) all)) us ≡ map (some_places S all) us
all-counted-in S all [] = refl
all-counted-in S all (u ∷ us) = ap₂ (λ n ns. n ∷ ns) (ap (up_to 2) (times-all S u all)) (all-counted-in S all us)

pub all-counted : (S : Signature) (t : Terms) (ms : List Member) (fs : List Form) → HaveForms S t ms fs → map (counted (parts_kept t fs)) (member_trees t ms) ≡ map (some_places S (member_trees t ms)) (member_trees t ms)
all-counted S t ms fs h = ap (λ ps. map (counted ps) (member_trees t ms)) (kept-parts S t ms fs h) ∙ all-counted-in S (member_trees t ms) (member_trees t ms)
