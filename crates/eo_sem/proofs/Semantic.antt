-- What is derivable by the rules of the suite that preserve truth is true where the formulas are that it is derivable from.
use Rattle.std.specs.Prelude.{◌≡◌, ℕ, zero, suc, ◌<◌, true, false, List, [], ◌∷◌, ◌++◌, take, drop, length, Option, Some, None, is_none, option_map, slice_get, slice_index_or, Contains, refl}
use Rattle.std.proofs.Common.{◌⊎◌, inl, inr, sym, ◌∙◌, ap, subst, arith, true≢false}
use Rattle.std.proofs.lemmas.Option.{none-some}
use Rattle.eo_base.proofs.Tests.{clash}
use Rattle.eo_term.specs.Tree.{Tree, truth}
use Rattle.eo_sig.specs.Growth.{Continues}
use Rattle.eo_sig.specs.Signature.{Signature, Rule, IsStage, rules, rule_at}
use Rattle.eo_sig.proofs.Longer.{constant_at_more, program_at_more, rule_at_more, literal_type_more}
use Rattle.eo_pattern.specs.Matching.{Assignment, put}
use Rattle.eo_type.specs.Types.{Typed, type_of}
use Rattle.eo_type.proofs.Longer.{type_of_more}
use Rattle.eo_rule.specs.Instance.{IsInstance, Instance}
use Rattle.eo_rule.specs.Derivability.{IsRuleOf}
use Rattle.eo_rule.specs.ByRules.{DerivesBy, by_assumption, by_rule, by_discharge}
use Rattle.eo_sem.specs.SemanticRules.{is_semantic}
use Rattle.eo_sem.specs.Suite.{suite_signature}
use Rattle.eo_sem.specs.Truth.{Valuation, holds}
use Rattle.eo_sem.proofs.Fixed.{EachHolds, each_holds, fixed_keeps, fixed_assumes}
use Rattle.eo_sem.proofs.Special.{HasSuite, and_elim_keeps, and_intro_keeps, resolution_keeps, scope_keeps}
use Rattle.eo_sem.proofs.SuiteKinds.{Kind, IsFixed, IsAndElim, IsAndIntro, IsResolution, IsScope, suite_kind}

continues : (S later : Signature) → Continues S later
continues S later =
    record { constant = constant_at_more S later; program = program_at_more S later; rule = rule_at_more S later; literal = literal_type_more S later }

some-none : {A : Type 0} (x : A) → Some x ≡ None → ⊥
some-none x e = none-some x (sym e)

-- ---- a stage of a signature that begins with the suite, once it has a rule

-- of two fronts of a list one is a front of the other
fronts : {X : Type 0} (xs ys zs ws : List X) → xs ++ ys ≡ zs ++ ws → ((ms : List X) × (xs ≡ zs ++ ms)) ⊎ ((ms : List X) × (zs ≡ xs ++ ms))
fronts [] ys zs ws e = inr (zs, refl)
fronts (x ∷ xs) ys [] ws e = inl (x ∷ xs, refl)
fronts {X} (x ∷ xs) ys (z ∷ zs) ws e =
    elim (fronts xs ys zs ws (ap (rest (xs ++ ys)) e)) [
      | inl r ↦ inl (r.0, (ap (λ (y : X). y ∷ xs) (ap (head x) e) ∙ ap (λ (ys : List X). z ∷ ys) r.1))
      | inr r ↦ inr (r.0, (ap (λ (y : X). y ∷ zs) (sym (ap (head x) e)) ∙ ap (λ (ys : List X). x ∷ ys) r.1))
    ]
  where
    head : X → List X → X
    head d [] = d
    head d (y ∷ ys) = y

    rest : List X → List X → List X
    rest d [] = d
    rest d (y ∷ ys) = ys

-- the suite but for its rules
abbrev declarations : Signature
declarations = take 31 suite_signature

abbrev suite_rules : Signature
suite_rules = drop 31 suite_signature

declarations_have : (ms : Signature) → HasSuite (declarations ++ ms)
declarations_have ms = record { ands = refl; clauses = record { ors = refl; cl = refl; uncl = refl; rl = refl } }

-- a front of the declarations has no rule
no_rule : (xs ms : Signature) (k : ℕ) (r : Rule) → declarations ≡ xs ++ ms → rule_at xs k ≡ Some r → ⊥
no_rule xs ms k r e at =
    none-some r (ap (λ (rs : List Rule). slice_get rs k) (ap rules e) ∙ rule_at_more xs ms k r at)

module _ (S later : Signature) (begins : S ≡ suite_signature ++ later) (same : rules S ≡ rules suite_signature) where
  module _ (stage : Signature) (is : IsStage stage S) (k : ℕ) (r : Rule) (at : rule_at stage k ≡ Some r) where
    rule_of_suite : rule_at suite_signature k ≡ Some r
    rule_of_suite =
        ap (λ (rs : List Rule). slice_get rs k) (sym same ∙ ap rules is.1) ∙ rule_at_more stage is.0 k r at

    stage_has : HasSuite stage
    stage_has =
        elim (fronts stage is.0 declarations (suite_rules ++ later) (sym is.1 ∙ begins)) [
          | inl m ↦ subst HasSuite (sym m.1) (declarations_have m.0)
          | inr m ↦ absurd (no_rule stage m.0 k r m.1 at)
        ]

  longer : (stage : Signature) → IsStage stage S → (t u : Tree) → type_of stage t ≡ Typed u → type_of S t ≡ Typed u
  longer stage is t u e =
      subst (λ (T : Signature). type_of T t ≡ Typed u) (sym is.1) (type_of_more stage is.0 (continues stage is.0) t u e)

  module _ (V : Valuation) where
    abbrev True : Tree → Type 0
    True t = holds S V t ≡ true

    rule_keeps : (stage : Signature) (r : Rule) (premises arguments : List Tree) (formula : Tree) → IsRuleOf S stage r → Kind r → Instance stage r None premises arguments formula → EachHolds True premises → True formula
    rule_keeps stage r premises arguments formula is (IsFixed fixed) inst each =
        fixed_keeps S stage V (longer stage is.is_stage) r inst.0 premises arguments formula inst.1 fixed each
    rule_keeps stage r premises arguments formula is (IsAndElim e) inst each =
        and_elim_keeps S V stage (stage_has stage is.is_stage is.number r is.declared) inst.0 premises arguments formula (subst (λ (x : Rule). IsInstance stage x None premises arguments formula inst.0) e inst.1) each
    rule_keeps stage r premises arguments formula is (IsAndIntro e) inst each =
        and_intro_keeps S V stage (stage_has stage is.is_stage is.number r is.declared) inst.0 premises arguments formula (subst (λ (x : Rule). IsInstance stage x None premises arguments formula inst.0) e inst.1) each
    rule_keeps stage r premises arguments formula is (IsResolution e) inst each =
        resolution_keeps S V stage (stage_has stage is.is_stage is.number r is.declared) inst.0 premises arguments formula (subst (λ (x : Rule). IsInstance stage x None premises arguments formula inst.0) e inst.1) each
    rule_keeps stage r premises arguments formula is (IsScope e) inst each =
        absurd (some-none _ (subst (λ (x : Rule). IsInstance stage x None premises arguments formula inst.0) e inst.1).assumes)

    -- a rule that discharges an assumption
    assumes_none : (r : Rule) (σ : Assignment) (hypothesis : Tree) → is_none r.assumed ≡ true → option_map (put σ) r.assumed ≡ Some hypothesis → ⊥
    assumes_none r σ hypothesis h e = by r.assumed h e
      where
        by : (o : Option Tree) → is_none o ≡ true → option_map (put σ) o ≡ Some hypothesis → ⊥
        by None h e = none-some hypothesis e
        by (Some t) h e = clash h

    discharge_keeps : (stage : Signature) (r : Rule) (hypothesis : Tree) (premises arguments : List Tree) (formula : Tree) → Kind r → Instance stage r (Some hypothesis) premises arguments formula → (True hypothesis → EachHolds True premises) → True formula
    discharge_keeps stage r hypothesis premises arguments formula (IsFixed fixed) inst under =
        absurd (assumes_none r inst.0 hypothesis (fixed_assumes r fixed) inst.1.assumes)
    discharge_keeps stage r hypothesis premises arguments formula (IsAndElim e) inst under =
        absurd (assumes_none r inst.0 hypothesis (ap (λ (x : Rule). is_none x.assumed) e) inst.1.assumes)
    discharge_keeps stage r hypothesis premises arguments formula (IsAndIntro e) inst under =
        absurd (assumes_none r inst.0 hypothesis (ap (λ (x : Rule). is_none x.assumed) e) inst.1.assumes)
    discharge_keeps stage r hypothesis premises arguments formula (IsResolution e) inst under =
        absurd (assumes_none r inst.0 hypothesis (ap (λ (x : Rule). is_none x.assumed) e) inst.1.assumes)
    discharge_keeps stage r hypothesis premises arguments formula (IsScope e) inst under =
        scope_keeps S V stage inst.0 hypothesis premises arguments formula (subst (λ (x : Rule). IsInstance stage x (Some hypothesis) premises arguments formula inst.0) e inst.1) under

    kind_of : (stage : Signature) (r : Rule) → IsRuleOf S stage r → is_semantic r.name ≡ true → Kind r
    kind_of stage r is allowed = suite_kind is.number r (rule_of_suite stage is.is_stage is.number r is.declared) allowed

    abbrev AllTrue : List Tree → Type 0
    AllTrue Γ = (t : Tree) → Contains Γ t → True t

    with_true : (h : Tree) (Γ : List Tree) → True h → AllTrue Γ → AllTrue (h ∷ Γ)
    with_true h Γ e all t c = by c.0 c.1 c.2
      where
        by : (k : ℕ) → k < length (h ∷ Γ) → slice_index_or (h ∷ Γ) k t ≡ t → True t
        by zero lt same = subst True same e
        by (suc k) lt same = all t (k, omega arith, same)

    pub derived_holds : (Γ : List Tree) (formula : Tree) → DerivesBy is_semantic S Γ formula → AllTrue Γ → True formula
    derived_holds Γ formula (by_assumption c) all = all formula c
    derived_holds Γ formula (by_rule stage r premises arguments is allowed inst sub) all =
        rule_keeps stage r premises arguments formula is (kind_of stage r is allowed) inst
        (each_holds True premises (λ t c. derived_holds Γ t (sub t c) all))
    derived_holds Γ formula (by_discharge stage r h premises arguments is allowed value type inst sub) all =
        discharge_keeps stage r h premises arguments formula (kind_of stage r is allowed) inst
        (λ e. each_holds True premises (λ t c. derived_holds (h ∷ Γ) t (sub t c) (with_true h Γ e all)))

    -- no derivation of false from what is true
    pub no_false : (Γ : List Tree) → DerivesBy is_semantic S Γ (truth false) → AllTrue Γ → ⊥
    no_false Γ d all = true≢false (sym (derived_holds Γ (truth false) d all))
