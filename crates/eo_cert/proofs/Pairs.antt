-- The pairs of an assignment: just its parameters, each once.
use Rattle.std.specs.Prelude.{◌≡◌, ℕ, zero, suc, ◌<◌, ◌≤◌, Bool, true, false, not, ◌&&◌, ◌||◌, nat_eq, nat_lt, if◌then◌else◌, List, [], ◌∷◌, map, Option, Some, None, is_some, refl}
use Rattle.std.specs.List.{list_all, list_any}
use Rattle.std.proofs.Common.{sym, ◌∙◌, ap, arith, ne_eqb}
use Rattle.std.proofs.lemmas.Bool.{ltb-true, ltb-false}
use Rattle.std.proofs.lemmas.Bool.Decides.{Decides-eqb}
use mathlib.Core.Path.{fun_ext}
use Rattle.eo_base.proofs.Tests.{join, or_first, or_second, clash, none_is}
use Rattle.eo_term.specs.Tree.{Tree, occurs, occurs_in, uses_only}
use Rattle.eo_term.proofs.Equality.{tree_list_decides}
use Rattle.eo_term.proofs.ParamSets.{known-uses}
use Rattle.eo_pattern.specs.Matching.{Assignment, empty, put, Matches, matching}
use Rattle.eo_pattern.proofs.Match.{matching_matches}
use Rattle.eo_cert.specs.Assignments.{Given, assigned, names, each_once, matches_by, HasPairs}
use Rattle.eo_cert.proofs.Above.{above_in, occurs_in_below}

abbrev onto : ℕ → Option Tree → Given → Given
onto n None qs = qs
onto n (Some t) qs = (n, t) ∷ qs

-- the pairs of the parameters below a number
abbrev pub pairs : ℕ → Assignment → Given
pairs zero σ = []
pairs (suc n) σ = onto n (σ n) (pairs n σ)

above_is : (n : ℕ) (σ : Assignment) (i : ℕ) → n ≤ i → assigned (pairs n σ) i ≡ None
above_is zero σ i h = refl
above_is (suc n) σ i h = by (σ n) (above_is n σ i (omega (arith, h)))
  where
    apart : n ≡ i → ⊥
    apart e = omega (arith, h, e)

    by : (o : Option Tree) → assigned (pairs n σ) i ≡ None → assigned (onto n o (pairs n σ)) i ≡ None
    by None rest = rest
    by (Some t) rest = ap (λ (b : Bool). if b then Some t else assigned (pairs n σ) i) (ne_eqb n i (λ e. absurd (apart e))) ∙ rest

below_is : (n : ℕ) (σ : Assignment) (i : ℕ) → i < n → assigned (pairs n σ) i ≡ σ i
below_is zero σ i h = absurd (omega (arith, h))
below_is (suc n) σ i h = by_number (nat_eq n i) refl (λ l. below_is n σ i l)
  where
    same : n ≡ i → (o : Option Tree) → σ n ≡ o → assigned (onto n o (pairs n σ)) i ≡ σ i
    same e None p = above_is n σ i (omega (arith, e)) ∙ (sym p ∙ ap σ e)
    same e (Some t) p = ap (λ (b : Bool). if b then Some t else assigned (pairs n σ) i) ((Decides-eqb n i).1 e) ∙ (sym p ∙ ap σ e)

    other : nat_eq n i ≡ false → assigned (pairs n σ) i ≡ σ i → (o : Option Tree) → assigned (onto n o (pairs n σ)) i ≡ σ i
    other e rest None = rest
    other e rest (Some t) = ap (λ (b : Bool). if b then Some t else assigned (pairs n σ) i) e ∙ rest

    less : nat_eq n i ≡ false → i < n
    less e = by (nat_lt i n) refl
      where
        by : (b : Bool) → nat_lt i n ≡ b → i < n
        by true p = ltb-true i n p
        by false p =
            let l = ltb-false i n p in
            let q : n ≡ i = omega (arith, l, h) in
            clash (sym e ∙ (Decides-eqb n i).1 q)

    by_number : (b : Bool) → nat_eq n i ≡ b → (i < n → assigned (pairs n σ) i ≡ σ i) → assigned (onto n (σ n) (pairs n σ)) i ≡ σ i
    by_number true e rest = same ((Decides-eqb n i).0 e) (σ n) refl
    by_number false e rest = other e (rest (less e)) (σ n)

unused : (n : ℕ) (σ : Assignment) (m : ℕ) → n ≤ m → list_any (λ (p : ℕ × Tree). nat_eq p.0 m) (pairs n σ) ≡ false
unused zero σ m h = refl
unused (suc n) σ m h = by (σ n) (unused n σ m (omega (arith, h)))
  where
    apart : n ≡ m → ⊥
    apart e = omega (arith, h, e)

    by : (o : Option Tree) → list_any (λ (p : ℕ × Tree). nat_eq p.0 m) (pairs n σ) ≡ false → list_any (λ (p : ℕ × Tree). nat_eq p.0 m) (onto n o (pairs n σ)) ≡ false
    by None rest = rest
    by (Some t) rest = λ i. ne_eqb n m (λ e. absurd (apart e)) i || rest i

pub pairs_once : (n : ℕ) (σ : Assignment) → each_once (pairs n σ) ≡ true
pairs_once zero σ = refl
pairs_once (suc n) σ = by (σ n) (pairs_once n σ)
  where
    by : (o : Option Tree) → each_once (pairs n σ) ≡ true → each_once (onto n o (pairs n σ)) ≡ true
    by None rest = rest
    by (Some t) rest = λ i. not (unused n σ n (omega arith) i) && rest i

-- what holds of each parameter that is given something holds of each pair's
pub all_named : (test : ℕ → Bool) (qs : Given) → ((i : ℕ) → is_some (assigned qs i) ≡ true → test i ≡ true) → list_all (λ (q : ℕ × Tree). test q.0) qs ≡ true
all_named test [] h = refl
all_named test (q ∷ qs) h =
    join (h q.0 (ap (λ (b : Bool). is_some (if b then Some q.1 else assigned qs q.0)) ((Decides-eqb q.0 q.0).1 refl)))
    (all_named test qs (λ i s. h i (more i s (nat_eq q.0 i))))
  where
    more : (i : ℕ) → is_some (assigned qs i) ≡ true → (b : Bool) → is_some (if b then Some q.1 else assigned qs i) ≡ true
    more i s true = refl
    more i s false = s

pub used_in : (known : ℕ → Bool) (ps : List Tree) → ((i : ℕ) → occurs_in i ps ≡ true → known i ≡ true) → list_all (uses_only known) ps ≡ true
used_in known [] h = refl
used_in known (p ∷ ps) h =
    join (known-uses known p (λ i o. h i (or_first (occurs i p) (occurs_in i ps) o))) (used_in known ps (λ i o. h i (or_second (occurs i p) (occurs_in i ps) o)))

-- where all that it names are below the number
pub assigned_pairs : (n : ℕ) (σ : Assignment) → ((i : ℕ) → is_some (σ i) ≡ true → i < n) → assigned (pairs n σ) ≡ σ
assigned_pairs n σ below = fun_ext (λ i. by i (nat_lt i n) refl)
  where
    by : (i : ℕ) (b : Bool) → nat_lt i n ≡ b → assigned (pairs n σ) i ≡ σ i
    by i true p = below_is n σ i (ltb-true i n p)
    by i false p = above_is n σ i (ltb-false i n p) ∙ sym (none (is_some (σ i)) refl)
      where
        none : (b : Bool) → is_some (σ i) ≡ b → σ i ≡ None
        none false q = none_is (σ i) q
        none true q = let l = below i q in let k = ltb-false i n p in absurd (omega (arith, l, k))

pub has_pairs : (n : ℕ) (σ : Assignment) → ((i : ℕ) → is_some (σ i) ≡ true → i < n) → HasPairs σ
has_pairs n σ below = record { pairs = pairs n σ; once = pairs_once n σ; assigns = assigned_pairs n σ below }

-- what matches
module _ (patterns trees : List Tree) (σ : Assignment) (is : matching empty patterns trees ≡ Some σ) where
  m : Matches empty patterns trees σ
  m = matching_matches empty patterns trees σ is

  pub match_pairs : HasPairs σ
  match_pairs = has_pairs (above_in patterns) σ (λ i s. occurs_in_below i patterns (sym (m.names i) ∙ s))

  pub pairs_match : (qs : Given) → assigned qs ≡ σ → matches_by qs patterns trees ≡ true
  pairs_match qs gives =
      join (all_named (λ i. occurs_in i patterns) qs (λ i s. sym (named i) ∙ s))
      (join (used_in (names qs) patterns (λ i o. named i ∙ o))
      ((tree_list_decides (map (put (assigned qs)) patterns) trees).1 (ap (λ (τ : Assignment). map (put τ) patterns) gives ∙ m.equal)))
    where
      named : (i : ℕ) → is_some (assigned qs i) ≡ occurs_in i patterns
      named i = ap (λ (τ : Assignment). is_some (τ i)) gives ∙ m.names i
