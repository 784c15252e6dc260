-- An instance of a rule fits by any pairs that give its assignment, and there are such pairs.
use Rattle.std.specs.Prelude.{◌≡◌, ℕ, zero, suc, ◌+◌, Bool, true, false, not, ◌&&◌, ◌||◌, List, [], ◌∷◌, map, Option, Some, None, option_map, is_some, slice_get, refl}
use Rattle.std.specs.List.{list_all}
use Rattle.std.proofs.Common.{sym, ◌∙◌, ap, subst, arith}
use Rattle.std.proofs.lemmas.Bool.Decides.{Decides-eqb}
use Rattle.eo_base.proofs.Tests.{join, or_first, or_second}
use Rattle.eo_term.specs.Tree.{Tree, Con, Num, Bits, Str, Par, Var, App, Arr, Qar, Op, is_plain, occurs_openly, tree_eq}
use Rattle.eo_term.proofs.Equality.{tree_decides, tree_list_decides}
use Rattle.eo_sig.specs.Signature.{Signature, Parameter, Rule, PremiseShape, Each, Joined, rule_patterns, known, known_before, is_solved}
use Rattle.eo_pattern.specs.Matching.{Assignment, put}
use Rattle.eo_lists.specs.Lists.{spell}
use Rattle.eo_type.specs.Types.{TypeOutcome, Typed, settled, value_type}
use Rattle.eo_rule.specs.Instance.{restricted, PremisesFit, FitsType, IsInstance}
use Rattle.eo_cert.specs.Assignments.{Given, assigned, names, HasPairs}
use Rattle.eo_cert.specs.Blocks.{same_outcome}
use Rattle.eo_cert.specs.Uses.{is_typed, openly_only, all_known, are_spelled, premises_fit, value_fits, values_fit, fits_rule}
use Rattle.eo_cert.proofs.Pairs.{has_pairs, all_named, used_in}
use Rattle.eo_cert.proofs.Above.{above_known, known_below}

pub outcome_same : (o u : Option Tree) → o ≡ u → same_outcome o u ≡ true
outcome_same o u e = subst (λ (x : Option Tree). same_outcome o x ≡ true) e (own o)
  where
    own : (x : Option Tree) → same_outcome x x ≡ true
    own None = refl
    own (Some t) = (tree_decides t t).1 refl

open_all : (test : ℕ → Bool) (t : Tree) → ((j : ℕ) → occurs_openly j t ≡ true → test j ≡ true) → openly_only test t ≡ true
open_all test (Con k) h = refl
open_all test (Num z) h = refl
open_all test (Bits w v) h = refl
open_all test (Str s) h = refl
open_all test (Par i) h = h i ((Decides-eqb i i).1 refl)
open_all test (Var s t) h = open_all test t h
open_all test (App f x) h = join (open_all test f (λ j o. h j (or_first (occurs_openly j f) (occurs_openly j x) o))) (open_all test x (λ j o. h j (or_second (occurs_openly j f) (occurs_openly j x) o)))
open_all test (Arr f x) h = join (open_all test f (λ j o. h j (or_first (occurs_openly j f) (occurs_openly j x) o))) (open_all test x (λ j o. h j (or_second (occurs_openly j f) (occurs_openly j x) o)))
open_all test (Qar i f x) h = join (open_all test f (λ j o. h j (or_first (occurs_openly j f) (occurs_openly j x) o))) (open_all test x (λ j o. h j (or_second (occurs_openly j f) (occurs_openly j x) o)))
open_all test (Op c ts) h = refl

known_all : (test : ℕ → Bool) (patterns : List Tree) (i : ℕ) (ps : List Parameter) → ((j : ℕ) → known patterns i ps j ≡ true → test j ≡ true) → all_known test patterns i ps ≡ true
known_all test patterns i [] h = used_in test patterns h
known_all test patterns i (p ∷ ps) h =
    join (known_all test patterns (suc i) ps (λ j k. h j (or_first (known patterns (suc i) ps j) (known patterns (suc i) ps i && occurs_openly j p.type) k))) (by (known patterns (suc i) ps i) refl)
  where
    by : (b : Bool) → known patterns (suc i) ps i ≡ b → (not b || openly_only test p.type) ≡ true
    by false e = refl
    by true e = open_all test p.type (λ j o. h j (or_second (known patterns (suc i) ps j) (known patterns (suc i) ps i && occurs_openly j p.type) (join e o)))

pub gives_typed : (o : TypeOutcome Tree) (t : Tree) (test : Tree → Bool) → o ≡ Typed t → test t ≡ true → is_typed o test ≡ true
gives_typed o t test e h = ap (λ (x : TypeOutcome Tree). is_typed x test) e ∙ h

type_fits : (S : Signature) (r : Rule) (qs : Given) (i : ℕ) (declared value : Tree) → FitsType S r (assigned qs) i declared value → value_fits S r qs i declared (Some value) ≡ true
type_fits S r qs i declared value f =
    gives_typed (value_type S value) f.type _ f.has_type
    (gives_typed (settled (put (restricted (known_before r i) (assigned qs)) declared)) f.expected (λ expected. is_plain expected && tree_eq (put (assigned qs) expected) f.type) f.settles
    (join f.plain ((tree_decides (put (assigned qs) f.expected) f.type).1 f.equal)))

values_all : (S : Signature) (r : Rule) (qs : Given) (i : ℕ) (ps : List Parameter) → ((n : ℕ) (p : Parameter) (value : Tree) → slice_get ps n ≡ Some p → (k : ℕ) → k ≡ i + n → assigned qs k ≡ Some value → FitsType S r (assigned qs) k p.type value) → values_fit S r qs i ps ≡ true
values_all S r qs i [] h = refl
values_all S r qs i (p ∷ ps) h =
    join (by (assigned qs i) refl) (values_all S r qs (suc i) ps (λ n q v at k e is. h (suc n) q v at k (omega (arith, e)) is))
  where
    by : (o : Option Tree) → assigned qs i ≡ o → value_fits S r qs i p.type o ≡ true
    by None e = refl
    by (Some v) e = type_fits S r qs i p.type v (h zero p v refl i (omega arith) e)

fit_premises : (S : Signature) (shape : PremiseShape) (premises : List Tree) (qs : Given) → PremisesFit S shape premises (assigned qs) → premises_fit S shape premises qs ≡ true
fit_premises S (Each ps) premises qs h = (tree_list_decides (map (put (assigned qs)) ps) premises).1 h
fit_premises S (Joined p f) premises qs h =
    ap (are_spelled p qs f premises) h.1 ∙ join (ap not h.2) ((tree_decides (put (assigned qs) p) (spell (Con f) h.0 premises)).1 h.3)

-- by any pairs that give the assignment
fits_by : (S : Signature) (r : Rule) (hypothesis : Option Tree) (premises arguments : List Tree) (formula : Tree) (qs : Given) → list_all (λ q. is_solved r q.0) qs ≡ true → IsInstance S r hypothesis premises arguments formula (assigned qs) → fits_rule S r hypothesis premises arguments qs ≡ true
fits_by S r hypothesis premises arguments formula qs solved is =
    join (join solved (known_all (names qs) (rule_patterns r) 0 r.parameters (λ j k. is.solves j ∙ k)))
    (join (outcome_same (option_map (put (assigned qs)) r.assumed) hypothesis is.assumes)
    (join (fit_premises S r.premises premises qs is.premises_fit)
    (join ((tree_list_decides (map (put (assigned qs)) r.arguments) arguments).1 is.arguments_fit)
    (values_all S r qs 0 r.parameters (λ n p v at k e a. is.types_fit k p v (subst (λ (m : ℕ). slice_get r.parameters m ≡ Some p) (omega (arith, e)) at) a)))))

pub instance_fits : (S : Signature) (r : Rule) (hypothesis : Option Tree) (premises arguments : List Tree) (formula : Tree) (σ : Assignment) (qs : Given) → IsInstance S r hypothesis premises arguments formula σ → assigned qs ≡ σ → fits_rule S r hypothesis premises arguments qs ≡ true
instance_fits S r hypothesis premises arguments formula σ qs is gives =
    fits_by S r hypothesis premises arguments formula qs
    (all_named (is_solved r) qs (λ i s. sym (is.solves i) ∙ (sym (ap (λ (τ : Assignment). is_some (τ i)) gives) ∙ s)))
    (subst (IsInstance S r hypothesis premises arguments formula) (sym gives) is)

-- its assignment has pairs
pub instance_pairs : (S : Signature) (r : Rule) (hypothesis : Option Tree) (premises arguments : List Tree) (formula : Tree) (σ : Assignment) → IsInstance S r hypothesis premises arguments formula σ → HasPairs σ
instance_pairs S r hypothesis premises arguments formula σ is =
    has_pairs (above_known (rule_patterns r) r.parameters) σ (λ i s. known_below (rule_patterns r) 0 r.parameters i (sym (is.solves i) ∙ s))
