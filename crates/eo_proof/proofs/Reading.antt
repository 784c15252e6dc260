-- Facts with numbers of terms, as facts in scopes.
use Rattle.std.proofs.Common.{◌≡◌, refl, sym, ap, ◌∙◌, ℕ, zero, suc, ◌+◌, ◌<◌, ◌≤◌, Bool, true, false, not, cond, ◌||◌, List, [], ◌∷◌, ◌++◌, length, map, take, drop, subst, All, Option, Some, None, option_map, is_some, true≢false, arith}
use Rattle.std.specs.Prelude.{IfSome, bytes_eq, find, nat_eq, nat_lt, nat_le, position}
use Rattle.std.specs.Bool.{then_some}
use Rattle.std.specs.Option.{option_or}
use Rattle.std.specs.List.{position_or_len}
use Rattle.std.specs.Map.{keys_of}
use Rattle.std.proofs.lemmas.Option.{same_Some, none-some}
use Rattle.std.proofs.lemmas.Bool.Decides.{nat_tests}
use Rattle.std.proofs.lemmas.List.Elements.{All-head, All-tail, All-take}
use Rattle.std.specs.List.{list_any}
use Rattle.std.specs.Map.{lookup}
use Rattle.std.proofs.lemmas.List.{map-append, length-append, length-map, length-take-le, append-nil, append_assoc, take-append-drop, take-append-le, drop-append-le}
use Rattle.std.proofs.Math.Seq.{drop-append_seam, take-length}
use Rattle.eo_base.proofs.Tests.{bytes_eq-flip, nat_lt-first, nat_lt-suc}
use Rattle.eo_term.specs.Tree.{Tree, tree_eq, truth}
use Rattle.eo_term.specs.Growth.{IsTable}
use Rattle.eo_term.specs.Terms.{Terms, tree_at, first_trees}
use Rattle.eo_proof.specs.declared.facts.Begun.{Begun}
use Rattle.eo_proof.specs.Kept.{Made, NamedId, Kept, read_fact, term_named, command_named, outer_facts, opened, scopes, outer_count, innermost, AreBelow, AreBegun, IsKept, with_named, with_begun, without_begun, refutation_in}
use Rattle.eo_proof.specs.Scopes.{Fact, Scopes, depth, opened_facts, live_facts, first_named, number_named, formula_named, fact_named, with_fact, with_scope, outside, innermost_hypothesis, is_live, is_free_outside, has_false, first_false, formulas, no_facts}

-- ---- scopes that are open

pub without_none : (fs : List NamedId) → ◌≡◌ {A = Kept} (record { facts = fs; begun = [] }) (without_begun (record { facts = fs; begun = [] }))
without_none fs = ap (λ (xs : List NamedId). record { facts = xs; begun = [] }) (sym (take-length fs))

pub outer_more : (fs gs : List NamedId) (b : Begun) (bs : List Begun) → b.first < length fs → outer_facts (fs ++ gs) (b ∷ bs) ≡ outer_facts fs (b ∷ bs)
outer_more fs gs b bs h = ap (λ ys. outer_facts ys bs) (take-append-le b.first fs gs (omega (arith, h)))

whole_front : (fs : List NamedId) (f : NamedId) → take (length fs) (fs ++ f ∷ []) ≡ fs
whole_front fs f = take-append-le (length fs) fs (f ∷ []) (omega arith) ∙ take-length fs

pub begun_more : (n m : ℕ) (bs : List Begun) → n ≤ m → AreBegun n bs → AreBegun m bs
begun_more n m [] l h = tt
begun_more n m (b ∷ bs) l h = (omega (arith, l, h.0), h.1)

pub outer_begun : (k : Kept) (f : NamedId) → outer_facts (k.facts ++ f ∷ []) ((with_begun k f).begun) ≡ outer_facts k.facts k.begun
outer_begun k f = ap (λ ys. outer_facts ys k.begun) (whole_front k.facts f)

pub kept_begun : (k : Kept) (r : Option ℕ) (f : NamedId) → IsKept k r → IsKept (with_begun k f) r
kept_begun k r f h = record {
  begun = (subst (λ n. length k.facts < n) (sym (length-append k.facts (f ∷ []))) (omega arith), h.begun);
  refutation = h.refutation ∙ ap refutation_in (sym (outer_begun k f));
}

pub told_begun : (fs gs : List NamedId) (bs : List Begun) (r : Option ℕ) → AreBegun (length fs) bs → r ≡ refutation_in (outer_facts fs bs) → 0 < length bs → r ≡ refutation_in (outer_facts (fs ++ gs) bs)
told_begun fs gs [] r w h l = absurd (omega (arith, l))
told_begun fs gs (b ∷ bs) r w h l = h ∙ ap refutation_in (sym (outer_more fs gs b bs w.0))

pub kept_named : (k : Kept) (r s : Option ℕ) (f : NamedId) → IsKept k r → s ≡ refutation_in (outer_facts (k.facts ++ f ∷ []) k.begun) → IsKept (with_named k f) s
kept_named k r s f h e = record {
  begun = begun_more (length k.facts) (length (k.facts ++ f ∷ [])) k.begun (subst (λ n. length k.facts ≤ n) (sym (length-append k.facts (f ∷ []))) (omega arith)) h.begun;
  refutation = e;
}

-- ---- look-ups

pub lookup_below : (m : ℕ) (name : List ℕ) (es : List NamedId) (i : ℕ) → All (λ (f : NamedId). f.1.0 < m) es → term_named es name ≡ Some i → i < m
lookup_below m name [] i a h = absurd cc
lookup_below m name (e ∷ es) i a h =
    by (bytes_eq name e.0) h (lookup_below m name es i (All-tail (λ (f : NamedId). f.1.0 < m) e es a))
  where
    by : (b : Bool) → option_map (λ (m : Made). m.0) (cond b (Some e.1) (lookup (bytes_eq name) es)) ≡ Some i → (term_named es name ≡ Some i → i < m) → i < m
    by true found rest = subst (λ j. j < m) (same_Some e.1.0 i found) (All-head (λ (f : NamedId). f.1.0 < m) e es a)
    by false found rest = rest found

-- one reading after another
in_turn : {A B C : Type 0} (f : B → C) (g : A → B) (o : Option A) → option_map f (option_map g o) ≡ option_map (λ x. f (g x)) o
in_turn f g None = refl
in_turn f g (Some x) = refl

is_some_map : {A B : Type 0} (f : A → B) (o : Option A) → is_some (option_map f o) ≡ is_some o
is_some_map f None = refl
is_some_map f (Some x) = refl

lt_zero : (n : ℕ) → false ≡ nat_lt n 0
lt_zero n = grind (arith, nat_tests)

-- what is found in a front of the facts is the first of its name in all, and its place is in the front
front_has : (name : List ℕ) (es : List NamedId) (n : ℕ) → is_some (lookup (bytes_eq name) (take n es)) ≡ nat_lt (position_or_len (bytes_eq name) (keys_of es)) (length (take n es))
front_has name [] zero = refl
front_has name [] (suc n) = refl
front_has name (e ∷ es) zero = lt_zero (position_or_len (bytes_eq name) (keys_of (e ∷ es)))
front_has name (e ∷ es) (suc n) = by (bytes_eq name e.0) (front_has name es n)
  where
    by : (b : Bool) → is_some (lookup (bytes_eq name) (take n es)) ≡ nat_lt (position_or_len (bytes_eq name) (keys_of es)) (length (take n es))
        → is_some (cond b (Some e.1) (lookup (bytes_eq name) (take n es))) ≡ nat_lt (cond (not b) (1 + position_or_len (bytes_eq name) (keys_of es)) 0) (suc (length (take n es)))
    by true rest = nat_lt-first (length (take n es))
    by false rest = rest ∙ nat_lt-suc (position_or_len (bytes_eq name) (keys_of es)) (length (take n es))

-- ---- places of names

-- how many facts are outside is at most how many there are
outer_within : (k : Kept) → AreBegun (length k.facts) k.begun → outer_count k ≤ length k.facts
outer_within k h = by k.facts k.begun h
  where
    by : (fs : List NamedId) (bs : List Begun) → AreBegun (length fs) bs → outer_count (record { facts = fs; begun = bs }) ≤ length fs
    by fs [] h = omega arith
    by fs (b ∷ bs) h = omega (arith, h.0)

place_is : {X : Type 0} (p : X → Bool) (xs : List X) (i : ℕ) → position p xs ≡ Some i → position_or_len p xs ≡ i
place_is p xs i e = by (nat_lt (position_or_len p xs) (length xs)) e
  where
    by : (b : Bool) → cond b (Some (position_or_len p xs)) None ≡ Some i → position_or_len p xs ≡ i
    by true h = same_Some (position_or_len p xs) i h
    by false h = absurd (none-some i h)

no_place : {X : Type 0} (p : X → Bool) (xs : List X) → position p xs ≡ None → length xs ≤ position_or_len p xs
no_place p xs e = by (nat_lt (position_or_len p xs) (length xs)) refl e
  where
    by : (b : Bool) → nat_lt (position_or_len p xs) (length xs) ≡ b → cond b (Some (position_or_len p xs)) None ≡ None → length xs ≤ position_or_len p xs
    by true t h = absurd (none-some (position_or_len p xs) (sym h))
    by false t h = grind (arith, nat_tests, t)

not_less : (n i : ℕ) → nat_le n i ≡ not (nat_lt i n)
not_less n i = grind (arith, nat_tests)

at_end : (i n : ℕ) → n ≤ i → true ≡ not (nat_lt i n)
at_end i n h = grind (arith, nat_tests, h)

-- ---- trees

module _ (ts : List Tree) where
  live_is : (fs : List NamedId) (bs : List Begun) → map (read_fact ts) (outer_facts fs bs) ++ opened_facts (opened ts fs bs) ≡ map (read_fact ts) fs
  live_is fs [] = append-nil (map (read_fact ts) fs)
  live_is fs (b ∷ bs) =
      sym (append_assoc (map (read_fact ts) (outer_facts (take b.first fs) bs)) (opened_facts (opened ts (take b.first fs) bs)) (map (read_fact ts) (drop b.first fs)))
      ∙ ap (λ xs. xs ++ map (read_fact ts) (drop b.first fs)) (live_is (take b.first fs) bs)
      ∙ sym (map-append (read_fact ts) (take b.first fs) (drop b.first fs))
      ∙ ap (map (read_fact ts)) (take-append-drop b.first fs)

  named_is : {A : Type 0} (g : Fact → A) (r : Made → A) → ((f : NamedId) → g (read_fact ts f) ≡ r f.1) → (name : List ℕ) (es : List NamedId)
      → option_map g (first_named (map (read_fact ts) es) name) ≡ option_map r (lookup (bytes_eq name) es)
  named_is g r same name [] = refl
  named_is g r same name (e ∷ es) = by (bytes_eq name e.0) (bytes_eq e.0 name) (bytes_eq-flip name e.0) (named_is g r same name es)
    where
      by : (a b : Bool) → a ≡ b → option_map g (first_named (map (read_fact ts) es) name) ≡ option_map r (lookup (bytes_eq name) es)
          → option_map g (cond b (Some (read_fact ts e)) (find (λ fact. bytes_eq fact.name name) (map (read_fact ts) es))) ≡ option_map r (cond a (Some e.1) (lookup (bytes_eq name) es))
      by true true h rest = ap Some (same e)
      by false false h rest = rest
      by true false h rest = absurd (true≢false h)
      by false true h rest = absurd (true≢false (sym h))

  pub all_live : (k : Kept) → live_facts (scopes ts k) ≡ map (read_fact ts) k.facts
  unfolding scopes
  all_live k = live_is k.facts k.begun

  pub fact_is : (k : Kept) (name : List ℕ) → fact_named (scopes ts k) name ≡ option_map (tree_at ts) (term_named k.facts name)
  fact_is k name =
      ap (λ fs. formula_named fs name) (all_live k) ∙ named_is (λ f. f.formula) (λ m. tree_at ts m.0) (λ f. refl) name k.facts
      ∙ sym (in_turn (tree_at ts) (λ (m : Made). m.0) (lookup (bytes_eq name) k.facts))

  pub number_is : (k : Kept) (name : List ℕ) → command_named k.facts name ≡ number_named (scopes ts k) name
  number_is k name =
      sym (ap (λ fs. option_map (λ (f : Fact). f.number) (first_named fs name)) (all_live k) ∙ named_is (λ f. f.number) (λ m. m.1) (λ f. refl) name k.facts)

  pub live_is_named : (k : Kept) (name : List ℕ) → is_live (scopes ts k) name ≡ is_some (lookup (bytes_eq name) k.facts)
  live_is_named k name =
      ap is_some (fact_is k name) ∙ is_some_map (tree_at ts) (term_named k.facts name) ∙ is_some_map (λ (m : Made). m.0) (lookup (bytes_eq name) k.facts)

  pub depth_is : (k : Kept) → depth (scopes ts k) ≡ length k.begun
  unfolding scopes
  depth_is k = by k.facts k.begun
    where
      by : (fs : List NamedId) (bs : List Begun) → length (opened ts fs bs) ≡ length bs
      by fs [] = refl
      by fs (b ∷ bs) = ap suc (by (take b.first fs) bs)

  pub formulas_are : (k : Kept) → formulas (scopes ts k) ≡ map (tree_at ts) (map (λ (f : NamedId). f.1.0) k.facts)
  formulas_are k = ap (map (λ fact. fact.formula)) (all_live k) ∙ by k.facts
    where
      by : (fs : List NamedId) → map (λ fact. fact.formula) (map (read_fact ts) fs) ≡ map (tree_at ts) (map (λ (f : NamedId). f.1.0) fs)
      by [] = refl
      by (f ∷ fs) = ap (λ xs. tree_at ts f.1.0 ∷ xs) (by fs)

  -- ---- one more

  pub added_is : (fs : List NamedId) (bs : List Begun) (f : NamedId) → AreBegun (length fs) bs
      → scopes ts (with_named (record { facts = fs; begun = bs }) f) ≡ with_fact (scopes ts (record { facts = fs; begun = bs })) f.0 (tree_at ts f.1.0) f.1.1
  unfolding scopes with_fact
  added_is fs [] f h = ap (λ xs. record { outermost = xs; opened = [] }) (map-append (read_fact ts) fs (f ∷ []))
  added_is fs (b ∷ bs) f h =
      (λ i. record {
        outermost = map (read_fact ts) (outer_more fs (f ∷ []) b bs h.0 i);
        opened = record {
          hypothesis = tree_at ts b.hypothesis;
          facts = (ap (map (read_fact ts)) (drop-append-le b.first fs (f ∷ []) (omega (arith, h.0))) ∙ map-append (read_fact ts) (drop b.first fs) (f ∷ [])) i;
        } ∷ opened ts (take-append-le b.first fs (f ∷ []) (omega (arith, h.0)) i) bs;
      })

  pub begun_is : (fs : List NamedId) (bs : List Begun) (f : NamedId)
      → scopes ts (with_begun (record { facts = fs; begun = bs }) f) ≡ with_scope (scopes ts (record { facts = fs; begun = bs })) f.0 (tree_at ts f.1.0) f.1.1
  unfolding scopes with_scope
  begun_is fs bs f =
      (λ i. record {
        outermost = map (read_fact ts) (outer_facts (whole_front fs f i) bs);
        opened = record { hypothesis = tree_at ts f.1.0; facts = map (read_fact ts) (drop-append_seam fs (f ∷ []) i) } ∷ opened ts (whole_front fs f i) bs;
      })

  pub added_to : (k : Kept) (told : Option ℕ) (f : NamedId) → IsKept k told → scopes ts (with_named k f) ≡ with_fact (scopes ts k) f.0 (tree_at ts f.1.0) f.1.1
  added_to k told f h = added_is k.facts k.begun f h.begun

  pub begun_in : (k : Kept) (f : NamedId) → scopes ts (with_begun k f) ≡ with_scope (scopes ts k) f.0 (tree_at ts f.1.0) f.1.1
  begun_in k f = begun_is k.facts k.begun f

  -- ---- one less

  pub popped_is : (fs : List NamedId) (b : Begun) (bs : List Begun)
      → scopes ts (record { facts = take b.first fs; begun = bs }) ≡ outside (scopes ts (record { facts = fs; begun = b ∷ bs }))
  unfolding scopes outside
  popped_is fs b bs = refl

  pub hypothesis_is : (fs : List NamedId) (b : Begun) (bs : List Begun)
      → innermost_hypothesis (scopes ts (record { facts = fs; begun = b ∷ bs })) ≡ Some (tree_at ts b.hypothesis)
  unfolding scopes innermost_hypothesis
  hypothesis_is fs b bs = refl

  pub no_hypothesis : (fs : List NamedId) → innermost_hypothesis (scopes ts (record { facts = fs; begun = [] })) ≡ None
  unfolding scopes innermost_hypothesis
  no_hypothesis fs = refl

  pub innermost_is : (k : Kept) → option_map (tree_at ts) (innermost k) ≡ innermost_hypothesis (scopes ts k)
  innermost_is k = by k.facts k.begun
    where
      by : (fs : List NamedId) (bs : List Begun) → option_map (tree_at ts) (innermost (record { facts = fs; begun = bs })) ≡ innermost_hypothesis (scopes ts (record { facts = fs; begun = bs }))
      by fs [] = sym (no_hypothesis fs)
      by fs (b ∷ bs) = sym (hypothesis_is fs b bs)

  pub none_outside : (fs : List NamedId) → outside (scopes ts (record { facts = fs; begun = [] })) ≡ scopes ts (record { facts = fs; begun = [] })
  unfolding scopes outside
  none_outside fs = refl

  pub first_is : scopes ts (record { facts = []; begun = [] }) ≡ no_facts
  unfolding scopes
  first_is = refl

  -- ---- names outside the innermost scope

  outside_is : (fs : List NamedId) (bs : List Begun)
      → outside (scopes ts (record { facts = fs; begun = bs })) ≡ scopes ts (record { facts = take (outer_count (record { facts = fs; begun = bs })) fs; begun = drop 1 bs })
  outside_is fs [] = none_outside fs ∙ ap (λ xs. scopes ts (record { facts = xs; begun = [] })) (sym (take-length fs))
  outside_is fs (b ∷ bs) = sym (popped_is fs b bs)

  -- whether a name is free outside, by the first place that it has
  free_outside : (k : Kept) (name : List ℕ) → outer_count k ≤ length k.facts
      → is_free_outside (scopes ts k) name ≡ not (nat_lt (position_or_len (bytes_eq name) (keys_of k.facts)) (outer_count k))
  free_outside k name l =
      ap (λ f. not (is_live f name)) (outside_is k.facts k.begun)
      ∙ ap not (live_is_named (record { facts = take (outer_count k) k.facts; begun = drop 1 k.begun }) name ∙ front_has name k.facts (outer_count k))
      ∙ ap (λ n. not (nat_lt (position_or_len (bytes_eq name) (keys_of k.facts)) n)) (length-take-le (outer_count k) k.facts l)

  pub outside_some : (k : Kept) (name : List ℕ) (i : ℕ) → AreBegun (length k.facts) k.begun → position (bytes_eq name) (keys_of k.facts) ≡ Some i → nat_le (outer_count k) i ≡ is_free_outside (scopes ts k) name
  outside_some k name i h e =
      let is = place_is (bytes_eq name) (keys_of k.facts) i e in
      ap (λ j. nat_le (outer_count k) j) (sym is) ∙ not_less (outer_count k) (position_or_len (bytes_eq name) (keys_of k.facts)) ∙ sym (free_outside k name (outer_within k h))

  pub outside_none : (k : Kept) (name : List ℕ) → AreBegun (length k.facts) k.begun → position (bytes_eq name) (keys_of k.facts) ≡ None → true ≡ is_free_outside (scopes ts k) name
  outside_none k name h e =
      let beyond = no_place (bytes_eq name) (keys_of k.facts) e in
      let l = outer_within k h in
      let same : length (keys_of k.facts) ≡ length k.facts = length-map k.facts (λ (f : NamedId). f.0) in
      at_end (position_or_len (bytes_eq name) (keys_of k.facts)) (outer_count k) (omega (arith, l, same, beyond)) ∙ sym (free_outside k name l)

-- a name that no fact has
pub not_named : (k : Kept) (name : List ℕ) → ((ts : List Tree) → is_live (scopes ts k) name ≡ false) → lookup (bytes_eq name) k.facts ≡ None
not_named k name free = by (lookup (bytes_eq name) k.facts) (sym (live_is_named [] k name) ∙ free [])
  where
    by : (o : Option Made) → is_some o ≡ false → o ≡ None
    by None e = refl
    by (Some i) e = absurd (true≢false e)

pub same_names : (ts us : List Tree) (k : Kept) (name : List ℕ) → is_live (scopes ts k) name ≡ is_live (scopes us k) name
same_names ts us k name = live_is_named ts k name ∙ sym (live_is_named us k name)

-- ---- `false` outside all scopes

outer_below : (n : ℕ) (fs : List NamedId) (bs : List Begun) → All (λ (f : NamedId). f.1.0 < n) fs → All (λ (f : NamedId). f.1.0 < n) (outer_facts fs bs)
outer_below n fs [] a = a
outer_below n fs (b ∷ bs) a = outer_below n (take b.first fs) bs (All-take (λ (f : NamedId). f.1.0 < n) b.first fs a)

false_at : (ts : List Tree) → take 4 ts ≡ first_trees → (tree_at ts 3 ≡ truth false) × (3 < length ts)
false_at [] h = absurd cc
false_at (a ∷ []) h = absurd cc
false_at (a ∷ b ∷ []) h = absurd cc
false_at (a ∷ b ∷ c ∷ []) h = absurd cc
false_at (a ∷ b ∷ c ∷ d ∷ ts) h = (cc, omega arith)

false_fact : (t : Terms) → IsTable t → (fs : List NamedId) → All (λ (f : NamedId). f.1.0 < length t.trees) fs
    → refutation_in fs ≡ option_map (λ fact. fact.number) (find (λ fact. tree_eq fact.formula (truth false)) (map (read_fact t.trees) fs))
false_fact t is [] a = refl
false_fact t is (f ∷ fs) a =
    let three = false_at t.trees is.first in
    let same : tree_eq (tree_at t.trees f.1.0) (truth false) ≡ nat_eq f.1.0 3 =
    ap (tree_eq (tree_at t.trees f.1.0)) (sym three.0) ∙ is.equals f.1.0 3 (All-head (λ (f : NamedId). f.1.0 < length t.trees) f fs a) three.1 in
    by (nat_eq f.1.0 3) (tree_eq (tree_at t.trees f.1.0) (truth false)) (sym same) (false_fact t is fs (All-tail (λ (f : NamedId). f.1.0 < length t.trees) f fs a))
  where
    by : (a b : Bool) → a ≡ b → refutation_in fs ≡ option_map (λ fact. fact.number) (find (λ fact. tree_eq fact.formula (truth false)) (map (read_fact t.trees) fs))
        → option_map (λ (f : NamedId). f.1.1) (cond a (Some f) (find (λ (f : NamedId). nat_eq f.1.0 3) fs))
        ≡ option_map (λ fact. fact.number) (cond b (Some (read_fact t.trees f)) (find (λ fact. tree_eq fact.formula (truth false)) (map (read_fact t.trees) fs)))
    by true true h rest = refl
    by false false h rest = rest
    by true false h rest = absurd (true≢false h)
    by false true h rest = absurd (true≢false (sym h))

pub refutation_is : (t : Terms) (k : Kept) → IsTable t → AreBelow (length t.trees) k → refutation_in (outer_facts k.facts k.begun) ≡ first_false (scopes t.trees k)
unfolding scopes
refutation_is t k is h = false_fact t is (outer_facts k.facts k.begun) (outer_below (length t.trees) k.facts k.begun h.facts)

some_found : {A B : Type 0} (g : A → B) (p : A → Bool) (xs : List A) → is_some (option_map g (find p xs)) ≡ list_any p xs
some_found g p [] = refl
some_found g p (x ∷ xs) = by (p x) (some_found g p xs)
  where
    by : (b : Bool) → is_some (option_map g (find p xs)) ≡ list_any p xs → is_some (option_map g (cond b (Some x) (find p xs))) ≡ (b || list_any p xs)
    by true rest = refl
    by false rest = rest

pub some_false : (s : Scopes) → is_some (first_false s) ≡ has_false s
some_false s = some_found (λ fact. fact.number) (λ fact. tree_eq fact.formula (truth false)) s.outermost

-- the first `false` is the first of the earlier facts, or else the last fact
refutation_more : (fs : List NamedId) (f : NamedId) → refutation_in (fs ++ f ∷ []) ≡ option_or (refutation_in fs) (then_some (nat_eq f.1.0 3) f.1.1)
refutation_more [] f = by (nat_eq f.1.0 3)
  where
    by : (b : Bool) → option_map (λ (f : NamedId). f.1.1) (cond b (Some f) None) ≡ then_some b f.1.1
    by true = refl
    by false = refl
refutation_more (e ∷ es) f = by (nat_eq e.1.0 3) (refutation_more es f)
  where
    by : (b : Bool) → refutation_in (es ++ f ∷ []) ≡ option_or (refutation_in es) (then_some (nat_eq f.1.0 3) f.1.1)
        → option_map (λ (f : NamedId). f.1.1) (cond b (Some e) (find (λ (f : NamedId). nat_eq f.1.0 3) (es ++ f ∷ [])))
        ≡ option_or (option_map (λ (f : NamedId). f.1.1) (cond b (Some e) (find (λ (f : NamedId). nat_eq f.1.0 3) es))) (then_some (nat_eq f.1.0 3) f.1.1)
    by true rest = refl
    by false rest = rest

pub told_outside : (fs : List NamedId) (f : NamedId) (bs : List Begun) (r s : Option ℕ) → length bs ≡ 0 → r ≡ refutation_in (outer_facts fs bs)
    → s ≡ option_or r (then_some (nat_eq f.1.0 3) f.1.1) → s ≡ refutation_in (outer_facts (fs ++ f ∷ []) bs)
told_outside fs f [] r s l h e = e ∙ ap (λ (o : Option ℕ). option_or o (then_some (nat_eq f.1.0 3) f.1.1)) h ∙ sym (refutation_more fs f)
told_outside fs f (b ∷ bs) r s l h e = absurd (omega (arith, l))

-- ---- the innermost scope

pub innermost_below : (m : ℕ) (k : Kept) (o : Option ℕ) → o ≡ innermost k → AreBelow m k → IfSome o (λ i. i < m)
innermost_below m k o e h = subst (λ (p : Option ℕ). IfSome p (λ i. i < m)) (sym e) (by k.begun h.hypotheses)
  where
    by : (bs : List Begun) → All (λ (b : Begun). b.hypothesis < m) bs → IfSome (innermost (record { facts = k.facts; begun = bs })) (λ i. i < m)
    by [] a = tt
    by (b ∷ bs) a = All-head (λ (b : Begun). b.hypothesis < m) b bs a
