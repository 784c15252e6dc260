-- Types that are kept, as the table grows and as they become more.
use Rattle.std.proofs.Common.{◌≡◌, ℕ, ◌<◌, ◌≤◌, Bool, true, false, cond, eqb, nat_lt, lt-ltb, ltb-true, List, [], ◌∷◌, ◌++◌, length, length-take, length-take-le, take, take-take, get_or-take, not-suc-le-zero, filter, Some, All, refl, sym, ap, ◌∙◌, subst, subst₂, arith}
use Rattle.std.specs.Prelude.{IfSome}
use Rattle.std.specs.Map.{lookup}
use Rattle.std.proofs.lemmas.List.Elements.{All-head, All-tail, All-weaker, All-filter, filter_passes}
use Rattle.std.proofs.lemmas.Bool.Decides.{Decides-eqb}
use Rattle.std.proofs.lemmas.Bool.{and_parts, and_from}
use Rattle.eo_term.proofs.Growing.{grows_refl}
use Rattle.eo_term.specs.Terms.{Terms, Since, HasTextsOf, tree_at}
use Rattle.eo_sig.specs.Signature.{Signature}
use Rattle.eo_term.specs.Tree.{Tree, Con}
use Rattle.eo_sig.specs.Reading.{Kept, Stays, IsBelow, signature}
use Rattle.eo_term.specs.Growth.{Grows}
use Rattle.eo_sig.specs.Growth.{GrowsUnder, StaysSince, Continues}
use Rattle.eo_type.specs.Types.{Typed, type_of}
use Rattle.eo_type.specs.Known.{IsFit, Fits, Fit, Lasts, FitsCut, kept_type, is_before, type_at}
use Rattle.eo_type.proofs.Longer.{type_of_more}

-- what is found passes what all pairs pass
pub all_lookup : (P : ℕ × ℕ → Type 0) (es : List (ℕ × ℕ)) (k : ℕ) → All P es → IfSome (lookup (eqb k) es) (λ v. P (k, v))
all_lookup P [] k h = tt
all_lookup P (e ∷ es) k h = by (eqb k e.0) refl (all_lookup P es k (All-tail P e es h))
  where
    by : (b : Bool) → eqb k e.0 ≡ b → IfSome (lookup (eqb k) es) (λ v. P (k, v)) → IfSome (cond b (Some e.1) (lookup (eqb k) es)) (λ v. P (k, v))
    by true q rest = subst (λ (j : ℕ). P (j, e.1)) (sym ((Decides-eqb k e.0).0 q)) (All-head P e es h)
    by false q rest = rest

-- the pair of a term and the type that is kept for it
pub fit_known : (S : Signature) (ts : List Tree) (known : List (ℕ × ℕ)) (i u : ℕ) → Fits S ts known → kept_type known i ≡ Some u → IsFit S ts (i, u)
fit_known S ts known i u h e = subst (λ o. IfSome o (λ v. IsFit S ts (i, v))) e (all_lookup (IsFit S ts) known i h)

-- such a pair is before all that is made later
pub fit_before : (S : Signature) (ts : List Tree) (known : List (ℕ × ℕ)) → Fits S ts known → (i u : ℕ) → kept_type known i ≡ Some u → is_before (length ts) (i, u) ≡ true
fit_before S ts known h i u e =
    let f = fit_known S ts known i u h e in
    and_from (nat_lt i (length ts)) (nat_lt u (length ts)) (lt-ltb i (length ts) f.term) (lt-ltb u (length ts) f.type)

module _ (k : Kept) (old new : Terms) (s : Stays k old.trees new.trees) (g : Since old new) where
  -- a type stays
  pub type_grown : (i : ℕ) → i < length old.trees → type_at k new i ≡ type_at k old i
  type_grown i l = let t = g.tree i l in λ j. type_of (s.signature j) (t j)

  pair_grown : (e : ℕ × ℕ) → IsFit (signature old.trees k) old.trees e → IsFit (signature new.trees k) new.trees e
  pair_grown e f = record {
    term = omega (arith, f.term, g.more_trees);
    type = omega (arith, f.type, g.more_trees);
    typed = type_grown e.0 f.term ∙ f.typed ∙ ap Typed (sym (g.tree e.1 f.type));
  }

  -- and so do all that are kept
  pub fit_grown : (known : List (ℕ × ℕ)) → Fit k old known → Fit k new known
  fit_grown known f = record { below = s.below; types = All-weaker (IsFit (signature old.trees k) old.trees) (IsFit (signature new.trees k) new.trees) pair_grown known f.types }

  -- a type that was found in the old table is one to keep in the new one
  pub fit_kept : (i u : ℕ) → i < length old.trees → u < length new.trees → type_at k old i ≡ Typed (tree_at new.trees u) → IsFit (signature new.trees k) new.trees (i, u)
  fit_kept i u l m e = record { term = omega (arith, l, g.more_trees); type = m; typed = type_grown i l ∙ e }

pub grows_under_on : (k : Kept) (old now new : Terms) → GrowsUnder k old now → GrowsUnder k now new → GrowsUnder k old new
grows_under_on k old now new u v =
    record {
      table = record { now = v.table.since old u.table.now; since = λ t h. v.table.since t (u.table.since t h) };
      stays = record { signature = v.stays.signature ∙ u.stays.signature; macros = v.stays.macros ∙ u.stays.macros; below = v.stays.below };
    }

-- types that were found stay right in a longer signature
fits_more : (S later : Signature) (law : Continues S later) (ts : List Tree) (types : List (ℕ × ℕ)) → Fits S ts types → Fits (S ++ later) ts types
fits_more S later law ts types h = All-weaker (IsFit S ts) (IsFit (S ++ later) ts) (λ e f. record { term = f.term; type = f.type; typed = type_of_more S later law (tree_at ts e.0) (tree_at ts e.1) f.typed }) types h

pub lasts : ((k : Kept) → StaysSince k) → ((now later : Signature) → Continues now later) → (known : List (ℕ × ℕ)) → Lasts known
lasts stays longer known = record {
  grown = λ k old new g f. fit_grown k old new (stays k old new f.below g) g known f;
  longer = λ S later ts h. fits_more S later (longer S later) ts known h;
}

-- A table whose terms are the first of another's has become that other.
front_since : (n : ℕ) (t : Terms) → n ≤ length t.trees → Since (record { trees = take n t.trees; texts = [] }) t
front_since n t l = record {
  trees = ap (λ m. take m t.trees) (length-take-le n t.trees l);
  texts = refl;
  more_trees = omega (arith, length-take-le n t.trees l, l);
  more_texts = omega arith;
  tree = λ i m. sym (get_or-take n t.trees i (Con 0) (omega (arith, m, length-take-le n t.trees l)));
  text = λ i m. absurd (not-suc-le-zero m);
  marks = λ m h. record {
    first = h.first;
    terms = omega (arith, h.terms, length-take-le n t.trees l, l);
    texts = omega (arith, h.texts);
    among = subst₂ (λ xs us. All (HasTextsOf xs) us) (ap (λ k. take k []) (none h.texts) ∙ sym (ap (λ k. take k t.texts) (none h.texts))) (take-take m.0 n t.trees (omega (arith, h.terms, length-take-le n t.trees l))) h.among;
  };
}
  where
    none : {k : ℕ} → k ≤ 0 → k ≡ 0
    none l = omega (arith, l)

-- types that fit, cut to n, fit where the first n terms are the same
pub fits_cut : ((k : Kept) → StaysSince k) → (n : ℕ) (known : List (ℕ × ℕ)) → FitsCut n known (filter (is_before n) known)
fits_cut stays n known k old new f below l same = record {
  below = there.below;
  types = All-weaker (λ e. IsFit (signature old.trees k) old.trees e × (is_before n e ≡ true)) (IsFit (signature new.trees k) new.trees) cut (filter (is_before n) known) kept;
}
  where
    m : n ≤ length new.trees
    m = omega (arith, l, length-take n new.trees, length-take-le n old.trees l, ap length same)

    here : Stays k (take n old.trees) old.trees
    here = stays k (record { trees = take n old.trees; texts = [] }) old (subst (λ j. IsBelow j k) (sym (length-take-le n old.trees l)) below) (front_since n old l)

    there : Stays k (take n new.trees) new.trees
    there = stays k (record { trees = take n new.trees; texts = [] }) new (subst (λ j. IsBelow j k) (sym (length-take-le n new.trees m)) below) (front_since n new m)

    S : signature new.trees k ≡ signature old.trees k
    S = there.signature ∙ ap (λ ts. signature ts k) same ∙ sym here.signature

    tree : (i : ℕ) → i < n → tree_at new.trees i ≡ tree_at old.trees i
    tree i h = sym (get_or-take n new.trees i (Con 0) h) ∙ ap (λ ts. tree_at ts i) same ∙ get_or-take n old.trees i (Con 0) h

    cut : (e : ℕ × ℕ) → IsFit (signature old.trees k) old.trees e × (is_before n e ≡ true) → IsFit (signature new.trees k) new.trees e
    cut e h =
        let both = and_parts (nat_lt e.0 n) (nat_lt e.1 n) h.1 in
        let term = ltb-true e.0 n both.0 in
        let type = ltb-true e.1 n both.1 in
        record {
          term = omega (arith, term, m);
          type = omega (arith, type, m);
          typed = (λ j. type_of (S j) (tree e.0 term j)) ∙ h.0.typed ∙ ap Typed (sym (tree e.1 type));
        }

    kept : All (λ e. IsFit (signature old.trees k) old.trees e × (is_before n e ≡ true)) (filter (is_before n) known)
    kept i d h =
        (All-filter (is_before n) (IsFit (signature old.trees k) old.trees) known f.types i d h, filter_passes (is_before n) known i d h)

-- A table that has grown from another is that one again when it is cut to its mark.
pub cut_back : (old now new : Terms) (m : ℕ × ℕ) → Since old now → m ≡ (length old.trees, length old.texts) → new.trees ≡ take m.0 now.trees → new.texts ≡ take m.1 now.texts → new ≡ old
cut_back old now new m g e p q =
    let trees : new.trees ≡ old.trees = p ∙ ap (λ (x : ℕ × ℕ). take x.0 now.trees) e ∙ g.trees in
    let texts : new.texts ≡ old.texts = q ∙ ap (λ (x : ℕ × ℕ). take x.1 now.texts) e ∙ g.texts in
    λ i. record { trees = trees i; texts = texts i }

-- a table that is as it was has grown
pub grows_back : (old new : Terms) → new ≡ old → Grows old new
grows_back old new e = subst (Grows old) (sym e) (grows_refl old)

-- and that under a signature whose terms are there
pub grows_under_back : (k : Kept) (old new : Terms) → IsBelow (length old.trees) k → new ≡ old → GrowsUnder k old new
grows_under_back k old new b e = record {
  table = grows_back old new e;
  stays = subst (λ t. Stays k old.trees t.trees) (sym e) (record { signature = refl; macros = refl; below = b });
}
