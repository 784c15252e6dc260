-- A use of a rule that fits, with the conclusion's value, is an instance of the rule.
use Rattle.std.specs.Prelude.{◌≡◌, ℕ, zero, suc, ◌+◌, Bool, true, false, not, ◌&&◌, ◌||◌, List, [], ◌∷◌, map, Option, Some, None, option_map, slice_get, refl}
use Rattle.std.specs.List.{list_all}
use Rattle.std.specs.Cmp.Lexicographic.{pointwise}
use Rattle.std.proofs.Common.{sym, ◌∙◌, ap, subst, arith}
use Rattle.std.proofs.lemmas.Bool.{and_parts, not-true}
use Rattle.std.proofs.lemmas.Bool.Decides.{Decides-eqb}
use Rattle.std.proofs.lemmas.Option.{none-some, same_Some}
use Rattle.eo_base.proofs.Tests.{both, clash, same_tests, from_either}
use Rattle.eo_term.specs.Tree.{Tree, Con, Num, Bits, Str, Par, Var, App, Arr, Qar, Op, bool_tree, is_tall, is_plain, is_value, occurs_openly, tree_eq}
use Rattle.eo_term.proofs.Equality.{tree_decides, tree_list_decides}
use Rattle.eo_sig.specs.Signature.{Signature, Parameter, Rule, PremiseShape, Each, Joined, terminator, rule_patterns, known, known_before, is_solved}
use Rattle.eo_pattern.specs.Matching.{Assignment, put}
use Rattle.eo_lists.specs.Lists.{spell}
use Rattle.eo_type.specs.Types.{TypeOutcome, Typed, Untyped, TypeRange, TypeTall, settled, type_of, value_type}
use Rattle.eo_stack.specs.Evaluation.{Value, eval0}
use Rattle.eo_rule.specs.Instance.{guarded_conclusion, restricted, PremisesFit, FitsType, IsInstance}
use Rattle.eo_cert.specs.Assignments.{Given, assigned, names}
use Rattle.eo_cert.specs.Blocks.{same_outcome}
use Rattle.eo_cert.specs.Uses.{is_typed, is_formula, openly_only, all_known, gives_solved, are_spelled, premises_fit, value_fits, values_fit, fits_rule}
use Rattle.eo_cert.proofs.Assigned.{given_pass, occurs_used}
use Rattle.eo_cert.proofs.BlockSound.{same_outcome_is}
use Rattle.eo_cert.proofs.Right.{IsFormula}

pub typed_gives : (o : TypeOutcome Tree) (test : Tree → Bool) → is_typed o test ≡ true → (t : Tree) × (o ≡ Typed t) × (test t ≡ true)
typed_gives (Typed t) test h = (t, refl, h)
typed_gives Untyped test h = clash h
typed_gives TypeRange test h = clash h
typed_gives TypeTall test h = clash h

pub formula_is : (S : Signature) (t : Tree) → is_formula S t ≡ true → IsFormula S t
formula_is S t h =
    let p = and_parts (is_value t) (is_typed (type_of S t) (λ u. tree_eq u bool_tree)) h in
    let u = typed_gives (type_of S t) (λ u. tree_eq u bool_tree) p.1 in
    (p.0, u.1 ∙ ap Typed ((tree_decides u.0 bool_tree).0 u.2))

-- ---- just the parameters that get values are given

openly_passes : (test : ℕ → Bool) (t : Tree) → openly_only test t ≡ true → (j : ℕ) → occurs_openly j t ≡ true → test j ≡ true
openly_passes test (Con k) h j o = clash o
openly_passes test (Num z) h j o = clash o
openly_passes test (Bits w v) h j o = clash o
openly_passes test (Str s) h j o = clash o
openly_passes test (Par i) h j o = subst (λ (k : ℕ). test k ≡ true) (sym ((Decides-eqb j i).0 o)) h
openly_passes test (Var s t) h j o = openly_passes test t h j o
openly_passes test (App f x) h j o = from_either (occurs_openly j f) (occurs_openly j x) (λ a. openly_passes test f (both h).0 j a) (λ a. openly_passes test x (both h).1 j a) o
openly_passes test (Arr f x) h j o = from_either (occurs_openly j f) (occurs_openly j x) (λ a. openly_passes test f (both h).0 j a) (λ a. openly_passes test x (both h).1 j a) o
openly_passes test (Qar i f x) h j o = from_either (occurs_openly j f) (occurs_openly j x) (λ a. openly_passes test f (both h).0 j a) (λ a. openly_passes test x (both h).1 j a) o
openly_passes test (Op c ts) h j o = clash o

or_rest : (a b : Bool) → a ≡ true → (not a || b) ≡ true → b ≡ true
or_rest true b p q = q
or_rest false b p q = clash p

known_passes : (test : ℕ → Bool) (patterns : List Tree) (i : ℕ) (ps : List Parameter) → all_known test patterns i ps ≡ true → (j : ℕ) → known patterns i ps j ≡ true → test j ≡ true
known_passes test patterns i [] h j k = occurs_used test patterns h j k
known_passes test patterns i (p ∷ ps) h j k =
    let q = and_parts (all_known test patterns (suc i) ps) (not (known patterns (suc i) ps i) || openly_only test p.type) h in
    from_either (known patterns (suc i) ps j) (known patterns (suc i) ps i && occurs_openly j p.type)
    (λ a. known_passes test patterns (suc i) ps q.0 j a)
    (λ b. let c = and_parts (known patterns (suc i) ps i) (occurs_openly j p.type) b in openly_passes test p.type (or_rest (known patterns (suc i) ps i) (openly_only test p.type) c.0 q.1) j c.1)
    k

-- ---- types

fits_type : (S : Signature) (r : Rule) (qs : Given) (i : ℕ) (declared value : Tree) → value_fits S r qs i declared (Some value) ≡ true → FitsType S r (assigned qs) i declared value
fits_type S r qs i declared value h =
    let type = typed_gives (value_type S value) _ h in
    let expected = typed_gives (settled (put (restricted (known_before r i) (assigned qs)) declared)) (λ expected. is_plain expected && tree_eq (put (assigned qs) expected) type.0) type.2 in
    let p = and_parts (is_plain expected.0) (tree_eq (put (assigned qs) expected.0) type.0) expected.2 in
    record {
      type = type.0;
      has_type = type.1;
      expected = expected.0;
      settles = expected.1;
      plain = p.0;
      equal = (tree_decides (put (assigned qs) expected.0) type.0).0 p.1;
    }

values_at : (S : Signature) (r : Rule) (qs : Given) (i : ℕ) (ps : List Parameter) → values_fit S r qs i ps ≡ true → (n : ℕ) (p : Parameter) → slice_get ps n ≡ Some p → (k : ℕ) → k ≡ i + n → value_fits S r qs k p.type (assigned qs k) ≡ true
values_at S r qs i [] h n p at k e = absurd (none-some p at)
values_at S r qs i (q ∷ ps) h zero p at k e =
    let own = (and_parts (value_fits S r qs i q.type (assigned qs i)) (values_fit S r qs (suc i) ps) h).0 in
    let here : i ≡ k = omega (arith, e) in
    subst (λ (x : Parameter). value_fits S r qs k x.type (assigned qs k) ≡ true) (same_Some q p at) (subst (λ (j : ℕ). value_fits S r qs j q.type (assigned qs j) ≡ true) here own)
values_at S r qs i (q ∷ ps) h (suc n) p at k e =
    values_at S r qs (suc i) ps (and_parts (value_fits S r qs i q.type (assigned qs i)) (values_fit S r qs (suc i) ps) h).1 n p at k (omega (arith, e))

-- ---- premises

spelled_fit : (pattern : Tree) (qs : Given) (f : ℕ) (premises : List Tree) (o : Option Tree) → are_spelled pattern qs f premises o ≡ true → (n : Tree) × (o ≡ Some n) × (is_tall (spell (Con f) n premises) ≡ false) × (put (assigned qs) pattern ≡ spell (Con f) n premises)
spelled_fit pattern qs f premises None h = clash h
spelled_fit pattern qs f premises (Some n) h =
    let p = and_parts (not (is_tall (spell (Con f) n premises))) (tree_eq (put (assigned qs) pattern) (spell (Con f) n premises)) h in
    (n, refl, not-true (is_tall (spell (Con f) n premises)) p.0, (tree_decides (put (assigned qs) pattern) (spell (Con f) n premises)).0 p.1)

fit_premises : (S : Signature) (shape : PremiseShape) (premises : List Tree) (qs : Given) → premises_fit S shape premises qs ≡ true → PremisesFit S shape premises (assigned qs)
fit_premises S (Each ps) premises qs h = (tree_list_decides (map (put (assigned qs)) ps) premises).0 h
fit_premises S (Joined p f) premises qs h = spelled_fit p qs f premises (terminator S f) h

-- ---- instances

pub instance_of : (S : Signature) (r : Rule) (hypothesis : Option Tree) (premises arguments : List Tree) (qs : Given) (guarded formula : Tree) → fits_rule S r hypothesis premises arguments qs ≡ true → is_tall guarded ≡ false → guarded ≡ put (assigned qs) (guarded_conclusion r) → eval0 S guarded ≡ Value formula → type_of S formula ≡ Typed bool_tree → IsInstance S r hypothesis premises arguments formula (assigned qs)
instance_of S r hypothesis premises arguments qs guarded formula fits low same value type =
    let σ : Assignment = assigned qs in
    let a = and_parts (gives_solved r qs) _ fits in
    let solved = and_parts (list_all (λ q. is_solved r q.0) qs) (all_known (names qs) (rule_patterns r) 0 r.parameters) a.0 in
    let b = and_parts (same_outcome (option_map (put σ) r.assumed) hypothesis) _ a.1 in
    let c = and_parts (premises_fit S r.premises premises qs) _ b.1 in
    let d = and_parts (pointwise tree_eq (map (put σ) r.arguments) arguments) (values_fit S r qs 0 r.parameters) c.1 in
    record {
      solves = λ i. same_tests (names qs i) (is_solved r i) (given_pass (is_solved r) qs solved.0 i) (known_passes (names qs) (rule_patterns r) 0 r.parameters solved.1 i);
      assumes = same_outcome_is (option_map (put σ) r.assumed) hypothesis b.0;
      premises_fit = fit_premises S r.premises premises qs c.0;
      arguments_fit = (tree_list_decides (map (put σ) r.arguments) arguments).0 d.0;
      types_fit = λ i p v at is. fits_type S r qs i p.type v (subst (λ (o : Option Tree). value_fits S r qs i p.type o ≡ true) is (values_at S r qs 0 r.parameters d.1 i p at i (omega arith)));
      not_tall = subst (λ (t : Tree). is_tall t ≡ false) same low;
      concludes = subst (λ (t : Tree). eval0 S t ≡ Value formula) same value;
      is_formula = type;
    }
