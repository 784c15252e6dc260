-- Rules whose premises and conclusion are made of formulas by connectives preserve truth, where their truth tables say so.
use Rattle.std.specs.Prelude.{◌≡◌, ℕ, zero, suc, ◌+◌, Bool, true, false, not, ◌&&◌, ◌||◌, List, [], ◌∷◌, map, length, Option, Some, None, is_some, is_none, slice_get, Contains, refl}
use Rattle.std.specs.List.{list_all}
use Rattle.std.specs.Option.{option_map_or}
use Rattle.std.proofs.Common.{sym, ◌∙◌, ap, subst, arith}
use Rattle.std.proofs.lemmas.Option.{none-some, same_Some}
use Rattle.std.proofs.lemmas.List.Elements.{Contains-append_left, Contains-append_right}
use Rattle.eo_base.proofs.Tests.{both, join, clash}
use Rattle.eo_term.specs.Tree.{Tree, bool_tree, is_plain, tree_eq}
use Rattle.eo_term.proofs.Equality.{tree_decides}
use Rattle.eo_sig.specs.Signature.{Signature, Parameter, Rule, PremiseShape, Each, Joined, is_solved}
use Rattle.eo_pattern.specs.Matching.{Assignment, put}
use Rattle.eo_type.specs.Types.{Typed, type_of}
use Rattle.eo_type.proofs.SettleLemmas.{typed_inj}
use Rattle.eo_stack.specs.Evaluation.{Outcome, Value, eval, eval0, call_within}
use Rattle.eo_base.specs.Limits.{open_calls_limit, calls_limit}
use Rattle.eo_rule.proofs.Openly.{value_type_is_type}
use Rattle.eo_rule.specs.Instance.{FitsType, IsInstance, PremisesFit, guarded_conclusion, required}
use Rattle.eo_sem.specs.Truth.{Valuation, is_bool, holds}
use Rattle.eo_sem.proofs.Plain.{typed_plain, plain_yields}
use Rattle.eo_sem.proofs.Schemas.{schema_truth, Reads, schema_holds, schema_plain}

-- ---- each row of a truth table

-- whether each row of so many truth values passes a test
abbrev pub each_row : ℕ → (List Bool → Bool) → Bool
each_row zero test = test []
each_row (suc n) test = each_row n (λ bs. test (true ∷ bs)) && each_row n (λ bs. test (false ∷ bs))

abbrev is_yes : Option Bool → Bool
is_yes (Some b) = b
is_yes None = false

-- whether the conclusion is true in a row where all premises are
abbrev pub keeps_row : List Tree → Tree → List Bool → Bool
keeps_row ps c bs =
    list_all (λ p. is_some (schema_truth bs p)) ps && (not (list_all (λ p. is_yes (schema_truth bs p)) ps) || is_yes (schema_truth bs c))

abbrev pub keeps_rows : ℕ → PremiseShape → Tree → Bool
keeps_rows n (Each ps) c = each_row n (keeps_row ps c)
keeps_rows n (Joined p f) c = false

-- whether the parameters from number k on are formulas that get values
abbrev pub are_formulas : Rule → List Parameter → ℕ → Bool
are_formulas r [] k = true
are_formulas r (p ∷ ps) k = (tree_eq p.type bool_tree && is_solved r k) && are_formulas r ps (suc k)

-- A rule of formulas, whose truth tables say that it keeps truth.
abbrev pub is_fixed : Rule → Bool
is_fixed r =
    are_formulas r r.parameters 0 && (list_all (λ q. false) r.requirements && (keeps_rows (length r.parameters) r.premises r.conclusion && is_none r.assumed))

-- and it discharges no assumption
pub fixed_assumes : (r : Rule) → is_fixed r ≡ true → is_none r.assumed ≡ true
fixed_assumes r ok =
    let keeps = keeps_rows (length r.parameters) r.premises r.conclusion in
    let none = is_none r.assumed in
    let plain = list_all (λ (q : Tree × Tree). false) r.requirements in
    let formulas = are_formulas r r.parameters 0 in
    (both {a = keeps} {b = none} (both {a = plain} {b = keeps && none} (both {a = formulas} {b = plain && (keeps && none)} ok).1).1).1

-- ---- lists of premises

abbrev pub EachHolds : (Tree → Type 0) → List Tree → Type 0
EachHolds P [] = Unit {0}
EachHolds P (t ∷ ts) = P t × EachHolds P ts

pub each_holds : (P : Tree → Type 0) (ts : List Tree) → ((t : Tree) → Contains ts t → P t) → EachHolds P ts
each_holds P [] h = tt
each_holds P (t ∷ ts) h =
    (h t (Contains-append_left (t ∷ []) ts t (0, omega arith, refl)), each_holds P ts (λ u c. h u (Contains-append_right (t ∷ []) ts u c)))

-- ---- types of parameters

k_zero : (k : ℕ) → k + 0 ≡ k
k_zero k = omega arith

zero_k : (k : ℕ) → 0 + k ≡ k
zero_k k = omega arith

by_truth : (test : Bool → Bool) (b : Bool) → test true ≡ true → test false ≡ true → test b ≡ true
by_truth test true t f = t
by_truth test false t f = f

k_suc : (k i : ℕ) → k + suc i ≡ suc k + i
k_suc k i = omega arith

fits_bool : (S : Signature) (r : Rule) (σ : Assignment) (i : ℕ) (declared v : Tree) → declared ≡ bool_tree → FitsType S r σ i declared v → type_of S v ≡ Typed bool_tree
fits_bool S r σ i declared v e f =
    let g = subst (λ (d : Tree). FitsType S r σ i d v) e f in
    value_type_is_type S v g.type g.has_type ∙ ap Typed (sym (ap (put σ) (typed_inj g.settles) ∙ g.equal))

-- ---- a use of such a rule

module _ (S stage : Signature) (V : Valuation) (longer : (t u : Tree) → type_of stage t ≡ Typed u → type_of S t ≡ Typed u) (r : Rule) (σ : Assignment) (premises arguments : List Tree) (formula : Tree) where
  Known : ℕ → Type 0
  Known i = (t : Tree) × (σ i ≡ Some t) × (type_of stage t ≡ Typed bool_tree)

  module _ (u : IsInstance stage r None premises arguments formula σ) (ok : is_fixed r ≡ true) where
    known_by : (i : ℕ) (p : Parameter) → p.type ≡ bool_tree → slice_get r.parameters i ≡ Some p → (o : Option Tree) → σ i ≡ o → is_some o ≡ true → Known i
    unfolding Known
    known_by i p type at None e s = clash s
    known_by i p type at (Some t) e s = (t, e, fits_bool stage r σ i p.type t type (u.types_fit i p t at e))

    KnownFrom : List Parameter → ℕ → Type 0
    KnownFrom [] k = Unit {0}
    KnownFrom (p ∷ ps) k = Known k × KnownFrom ps (suc k)

    known_from : (ps : List Parameter) (k : ℕ) → ((i : ℕ) (p : Parameter) → slice_get ps i ≡ Some p → slice_get r.parameters (k + i) ≡ Some p) → are_formulas r ps k ≡ true → KnownFrom ps k
    unfolding KnownFrom
    known_from [] k at h = tt
    known_from (p ∷ ps) k at h = (
      known_by k p ((tree_decides p.type bool_tree).0 (both (both h).0).0) (subst (λ (n : ℕ). slice_get r.parameters n ≡ Some p) (k_zero k) (at 0 p refl)) (σ k) refl (u.solves k ∙ (both (both h).0).1),
      known_from ps (suc k) (λ i q e. subst (λ (n : ℕ). slice_get r.parameters n ≡ Some q) (k_suc k i) (at (suc i) q e)) (both h).1,
    )

    truth_at : ℕ → Bool
    truth_at k = option_map_or (holds S V) (σ k) false

    truths : List Parameter → ℕ → List Bool
    truths [] k = []
    truths (p ∷ ps) k = truth_at k ∷ truths ps (suc k)

    read_known : (k : ℕ) (b : Bool) → Known k → truth_at k ≡ b → Reads S V σ k b
    unfolding Known truth_at
    read_known k b known e = record {
      tree = known.0;
      value = known.1;
      plain = typed_plain stage known.0 bool_tree known.2;
      formula = ap is_bool (longer known.0 bool_tree known.2);
      truth = sym (ap (λ (o : Option Tree). option_map_or (holds S V) o false) known.1) ∙ e;
    }

    reads_from : (ps : List Parameter) (k : ℕ) → KnownFrom ps k → (i : ℕ) (b : Bool) → slice_get (truths ps k) i ≡ Some b → Reads S V σ (k + i) b
    unfolding KnownFrom truths
    reads_from [] k known i b e = absurd (none-some b e)
    reads_from (p ∷ ps) k known zero b e =
        subst (λ (n : ℕ). Reads S V σ n b) (sym (k_zero k)) (read_known k b known.0 (same_Some (truth_at k) b e))
    reads_from (p ∷ ps) k known (suc i) b e =
        subst (λ (n : ℕ). Reads S V σ n b) (sym (k_suc k i)) (reads_from ps (suc k) known.1 i b e)

    row_passes : (ps : List Parameter) (k : ℕ) (test : List Bool → Bool) → each_row (length ps) test ≡ true → test (truths ps k) ≡ true
    unfolding truths
    row_passes [] k test h = h
    row_passes (p ∷ ps) k test h =
        by_truth (λ (b : Bool). test (b ∷ truths ps (suc k))) (truth_at k)
        (row_passes ps (suc k) (λ (bs : List Bool). test (true ∷ bs)) (both h).0)
        (row_passes ps (suc k) (λ (bs : List Bool). test (false ∷ bs)) (both h).1)

    abbrev bs : List Bool
    bs = truths r.parameters 0

    reads : (i : ℕ) (b : Bool) → slice_get bs i ≡ Some b → Reads S V σ i b
    reads i b e =
        subst (λ (n : ℕ). Reads S V σ n b) (zero_k i)
        (reads_from r.parameters 0 (known_from r.parameters 0 (λ j p g. subst (λ (n : ℕ). slice_get r.parameters n ≡ Some p) (sym (zero_k j)) g) (both ok).0) i b e)

    premises_true : (ps : List Tree) → list_all (λ (p : Tree). is_some (schema_truth bs p)) ps ≡ true → EachHolds (λ (t : Tree). holds S V t ≡ true) (map (put σ) ps) → list_all (λ (p : Tree). is_yes (schema_truth bs p)) ps ≡ true
    premises_true [] h e = refl
    premises_true (p ∷ ps) h e = join (by (schema_truth bs p) refl (both h).0) (premises_true ps (both h).1 e.1)
      where
        by : (o : Option Bool) → schema_truth bs p ≡ o → is_some o ≡ true → is_yes o ≡ true
        by (Some b) q s = sym (schema_holds S V σ bs reads p b q) ∙ e.0
        by None q s = clash s

    conclusion_true : (c : Tree) → is_yes (schema_truth bs c) ≡ true → schema_truth bs c ≡ Some true
    conclusion_true c h = by (schema_truth bs c) h
      where
        by : (o : Option Bool) → is_yes o ≡ true → o ≡ Some true
        by (Some b) e = ap Some e
        by None e = clash e

    no_requirements : (qs : List (Tree × Tree)) → list_all (λ (q : Tree × Tree). false) qs ≡ true → qs ≡ []
    no_requirements [] h = refl
    no_requirements (q ∷ qs) h = clash h

    implied : (a b : Bool) → (not a || b) ≡ true → a ≡ true → b ≡ true
    implied true b h e = h
    implied false b h e = clash e

    evaluated_plain : (c : Tree) → guarded_conclusion r ≡ c → is_plain (put σ c) ≡ true → formula ≡ put σ c
    evaluated_plain c q plain =
        let e = subst (λ (t : Tree). eval0 stage (put σ t) ≡ Value formula) q u.concludes in
        let whole = eval stage calls_limit open_calls_limit (put σ c) [] in
        plain_yields stage (call_within stage calls_limit open_calls_limit) (put σ c) plain [] formula whole.1 (ap (λ (o : Outcome Tree). (o, whole.1)) e)

    unguarded : guarded_conclusion r ≡ r.conclusion
    unguarded = ap (λ (qs : List (Tree × Tree)). required qs r.conclusion) (no_requirements r.requirements (both (both ok).1).0)

    -- the conclusion is true where the premises are
    pub fixed_keeps : EachHolds (λ (t : Tree). holds S V t ≡ true) premises → holds S V formula ≡ true
    fixed_keeps each = by r.premises refl
      where
        by : (shape : PremiseShape) → r.premises ≡ shape → holds S V formula ≡ true
        by (Each ps) q =
            let rows = row_passes r.parameters 0 (keeps_row ps r.conclusion) (subst (λ (x : PremiseShape). keeps_rows (length r.parameters) x r.conclusion ≡ true) q (both (both (both ok).1).1).0) in
            let fit = subst (λ (x : PremiseShape). PremisesFit stage x premises σ) q u.premises_fit in
            let yes = premises_true ps (both rows).0 (subst (EachHolds (λ (t : Tree). holds S V t ≡ true)) (sym fit) each) in
            let c = conclusion_true r.conclusion (implied (list_all (λ (p : Tree). is_yes (schema_truth bs p)) ps) (is_yes (schema_truth bs r.conclusion)) (both rows).1 yes) in
            ap (holds S V) (evaluated_plain r.conclusion unguarded (schema_plain S V σ bs reads r.conclusion true c)) ∙ schema_holds S V σ bs reads r.conclusion true c
        by (Joined p f) q = clash (subst (λ (x : PremiseShape). keeps_rows (length r.parameters) x r.conclusion ≡ true) q (both (both (both ok).1).1).0)
