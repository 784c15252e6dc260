-- Assumptions and steps keep a run sound.
use Rattle.std.specs.Prelude.{◌≡◌, ℕ, Bool, true, false, ◌||◌, List, [], ◌∷◌, drop, take, Option, Some, None, option_to_list, position, slice_get, bytes_eq, Ok, All, Contains, refl}
use Rattle.std.specs.List.{list_all}
use Rattle.std.specs.Option.{option_map_or}
use Rattle.std.proofs.Common.{sym, ap, ◌∙◌, subst, append-nil}
use Rattle.std.proofs.lemmas.List.Elements.{All-nil, All-cons, All-head, All-tail, All-contains, Contains-append_right}
use Rattle.std.proofs.lemmas.Map.Views.{Contains-from_any}
use Rattle.eo_base.proofs.ChecksLemmas.{ok_injective, err_is_not_ok, bind_ok, require_then, value_or_ok}
use Rattle.eo_base.specs.declared.FaultName.TheVariants.{UnknownPremise, UnknownRule, NoScope}
use Rattle.eo_elab.specs.Fitting.{FitsTerms}
use Rattle.eo_elab.specs.Meaning.{meaning}
use Rattle.eo_stack.specs.Evaluation.{Outcome, Value, Stuck, Deep, Calls, Range, Tall, eval0}
use Rattle.eo_eval.specs.Faults.{value_or_fault}
use Rattle.eo_pattern.specs.Matching.{put}
use Rattle.eo_proof.specs.Scopes as scopes
use Rattle.eo_proof.specs.Scopes.{fact, fact_named, hypotheses, innermost_hypothesis, outside}
use Rattle.eo_rule.specs.Derivability.{IsRuleOf}
use Rattle.eo_rule.specs.Instance.{Instance, guarded_conclusion}
use Rattle.eo_rule.specs.Uses.{Use, AreGiven, Concludes, conclusion, typed_or}
use Rattle.eo_rule.specs.Uses as rule
use Rattle.eo_sound.proofs.Deriving.{popped_force, popped_holds, outside_holds, outside_derives, fact_holds, fact_derives, scope_derives, named_derives}
use Rattle.eo_session.proofs.Fitting.{fits_taken}
use Rattle.eo_rule.specs.ByRules.{DerivesBy, by_assumption, by_rule, by_discharge}
use Rattle.eo_sound.specs.Layers.{Layers}
use Rattle.eo_session.proofs.Scoping.{values_fact, values_scope, values_outside}
use Rattle.eo_sound.proofs.SoundDeclarations.{sound_after}
use Rattle.eo_session.proofs.Used.{fact_value, hypothesis_value}
use Rattle.eo_sound.specs.Soundness.{IsSoundBy, in_force}
use Rattle.eo_session.specs.State.{State, context, with_fact, with_scope, without_scope, macros_before}
use Rattle.eo_session.specs.Step.{Concluded, evaluated, value, values, optional_value, typed, formula_of, formula, premises, use_of, is_sorry, concluded_by, concluded, with_conclusion, assume, assume_push, step_plain, step_pop}
use Rattle.eo_sexp.specs.Sexp.{Sexp}
use Rattle.eo_shape.specs.Shapes.{StepShape}
use Rattle.eo_sig.specs.Signature.{Signature, Rule, rules, rule_at, rule_named}
use Rattle.eo_term.specs.Tree.{Tree, bool_tree, is_value}
use Rattle.eo_type.specs.Types.{TypeOutcome, Typed, Untyped, TypeRange, TypeTall, on_typed, typed_if, type_of}
use Rattle.std.proofs.lemmas.Bool.{and_from}
use Rattle.std.proofs.lemmas.List.Quantifiers.{position-Some}
use Rattle.std.proofs.lemmas.Option.{get_or_from_slice_get}
use Rattle.std.proofs.lemmas.Slice.Eq.{bytes_eq-Decides}

-- ---- what checks that pass say

value_is : (o : Outcome Tree) (v : Tree) → value_or_fault o ≡ Ok v → o ≡ Value v
value_is (Value u) v e = ap Value (ok_injective u v e)
value_is Stuck v e = absurd (err_is_not_ok _ v e)
value_is Deep v e = absurd (err_is_not_ok _ v e)
value_is Calls v e = absurd (err_is_not_ok _ v e)
value_is Range v e = absurd (err_is_not_ok _ v e)
value_is Tall v e = absurd (err_is_not_ok _ v e)

typed_is : (o : TypeOutcome Tree) (t : Tree) → typed_or o ≡ Ok t → o ≡ Typed t
typed_is (Typed u) t e = ap Typed (ok_injective u t e)
typed_is Untyped t e = absurd (err_is_not_ok _ t e)
typed_is TypeRange t e = absurd (err_is_not_ok _ t e)
typed_is TypeTall t e = absurd (err_is_not_ok _ t e)

same_type : (b : Bool) (u t : Tree) → typed_if b u ≡ Typed t → u ≡ t
same_type true u t e = cc e
same_type false u t e = absurd (cc e)

type_is : (o : TypeOutcome Tree) (t : Tree) → on_typed o (λ u. typed_if (is_value u) u) ≡ Typed t → o ≡ Typed t
type_is (Typed u) t e = ap Typed (same_type (is_value u) u t e)
type_is Untyped t e = absurd (cc e)
type_is TypeRange t e = absurd (cc e)
type_is TypeTall t e = absurd (cc e)

typed_type : (st : State) (v t : Tree) → typed st v ≡ Ok t → type_of st.signature v ≡ Typed t
unfolding rule.typed
typed_type st v t e = type_is (type_of st.signature v) t (typed_is _ t e)

all_values : (ts : List Tree) → All (λ (t : Tree). is_value t ≡ true) ts → list_all is_value ts ≡ true
all_values [] all = refl
all_values (t ∷ ts) all =
    and_from (is_value t) (list_all is_value ts) (All-head (λ (t : Tree). is_value t ≡ true) t ts all) (all_values ts (All-tail (λ (t : Tree). is_value t ≡ true) t ts all))

-- what holds of each fact holds of the premises
premises_hold : (P : Tree → Type 0) (st : State) → ((name : List ℕ) (t : Tree) → fact_named st.scopes name ≡ Some t → P t) → (names : List (List ℕ)) (ps : List Tree) → premises st names ≡ Ok ps → All P ps
unfolding premises
premises_hold P st each [] ps e = subst (All P) (ok_injective [] ps e) (All-nil P)
premises_hold P st each (name ∷ names) ps e =
    let t = bind_ok _ _ ps e in
    let ts = bind_ok (premises st names) _ ps t.2 in
    subst (All P) (ok_injective (t.0 ∷ ts.0) ps ts.2)
    (All-cons P t.0 ts.0 (each name t.0 (value_or_ok UnknownPremise (fact_named st.scopes name) t.0 t.1)) (premises_hold P st each names ts.0 ts.1))

-- ---- the parts of a step

pub record IsUse (st : State) (discharged : Option Tree) (s : StepShape) (given : Use) : Type 0 where
  assumes : given.assumed ≡ discharged
  facts : premises st s.premises ≡ Ok given.premises
  arguments : values st s.arguments ≡ Ok given.arguments

use_parts : (st : State) (discharged : Option Tree) (s : StepShape) (given : Use) → use_of st discharged s ≡ Ok given → IsUse st discharged s given
unfolding use_of
use_parts st discharged s given e =
    let ps = bind_ok (premises st s.premises) _ given e in
    let stated = bind_ok (optional_value st s.stated) _ given ps.2 in
    let arguments = bind_ok (values st s.arguments) _ given stated.2 in
    let same = ok_injective _ given arguments.2 in
    record {
      assumes = ap (λ (u : Use). u.assumed) (sym same);
      facts = ps.1 ∙ ap (λ (u : Use). Ok u.premises) same;
      arguments = arguments.1 ∙ ap (λ (u : Use). Ok u.arguments) same;
    }

pub record IsStep (st : State) (discharged : Option Tree) (s : StepShape) (k : Concluded) : Type 0 where
  pub number : ℕ
  pub named : rule_named st.signature s.rule ≡ Some number
  pub given : Use
  pub is_use : IsUse st discharged s given
  pub concludes : conclusion st.signature number given ≡ Ok k.formula
  pub unproved : is_sorry st number ≡ k.sorry

pub step_parts : (st : State) (discharged : Option Tree) (s : StepShape) (k : Concluded) → concluded st discharged s ≡ Ok k → IsStep st discharged s k
unfolding concluded concluded_by
step_parts st discharged s k e =
    let n = bind_ok _ _ k e in
    let u = bind_ok (use_of st discharged s) _ k n.2 in
    let f = bind_ok (conclusion st.signature n.0 u.0) _ k u.2 in
    let same = ok_injective _ k f.2 in
    record {
      number = n.0;
      named = value_or_ok UnknownRule (rule_named st.signature s.rule) n.0 n.1;
      given = u.0;
      is_use = use_parts st discharged s u.0 u.1;
      concludes = f.1 ∙ ap (λ (x : Concluded). Ok x.formula) same;
      unproved = ap (λ (x : Concluded). x.sorry) same;
    }

proved_rule : (S : Signature) (number : ℕ) (rule : Rule) → rule_at S number ≡ Some rule → option_map_or (λ (r : Rule). r.sorry) (rule_at S number) false ≡ false → IsRuleOf S S rule
proved_rule S number rule declared proved = record {
  number = number;
  is_stage = ([], sym (append-nil S));
  declared = declared;
  no_sorry = sym (ap (λ (o : Option Rule). option_map_or (λ (r : Rule). r.sorry) o false) declared) ∙ proved;
}

-- the rule that a name means has this name
pub named_so : (name : List ℕ) (rs : List Rule) (n : ℕ) (r : Rule) → position (λ (r : Rule). bytes_eq name r.name) rs ≡ Some n → slice_get rs n ≡ Some r → name ≡ r.name
named_so name rs n r e at =
    (bytes_eq-Decides name r.name).0 (subst (λ (x : Rule). bytes_eq name x.name ≡ true) (get_or_from_slice_get rs n r r at) (position-Some (λ (r : Rule). bytes_eq name r.name) rs n r e).1)

or_left : (a b : Bool) → (a || b) ≡ false → a ≡ false
or_left true b e = e
or_left false b e = refl

or_right : (a b : Bool) → (a || b) ≡ false → b ≡ false
or_right true b e = absurd (cc e)
or_right false b e = e

module _ (allowed : List ℕ → Bool) where
  module _ (laws : Layers) (st : State) (h : (IsSoundBy allowed) st) where
    -- ---- values and formulas

    value_value : (s : Sexp) (v : Tree) → value st s ≡ Ok v → is_value v ≡ true
    unfolding value evaluated
    value_value s v e =
        let t = bind_ok (meaning (context st) [] s) _ v e in
        laws.values st.signature t.0 v h.usable (value_is (eval0 st.signature t.0) v t.2)

    values_value : (ss : List Sexp) (vs : List Tree) → values st ss ≡ Ok vs → All (λ (v : Tree). is_value v ≡ true) vs
    unfolding values
    values_value [] vs e = subst (All (λ (v : Tree). is_value v ≡ true)) (ok_injective [] vs e) (All-nil (λ (v : Tree). is_value v ≡ true))
    values_value (s ∷ ss) vs e =
        let v = bind_ok (value st s) _ vs e in
        let rest = bind_ok (values st ss) _ vs v.2 in
        subst (All (λ (v : Tree). is_value v ≡ true)) (ok_injective (v.0 ∷ rest.0) vs rest.2)
        (All-cons (λ (v : Tree). is_value v ≡ true) v.0 rest.0 (value_value s v.0 v.1) (values_value ss rest.0 rest.1))

    formula_is : (s : Sexp) (v : Tree) → formula st s ≡ Ok v → (is_value v ≡ true) × (type_of st.signature v ≡ Typed bool_tree)
    unfolding formula formula_of evaluated
    formula_is s v e =
        let t = bind_ok (meaning (context st) [] s) _ v e in
        let u = bind_ok (evaluated st t.0) _ v t.2 in
        let k = bind_ok (typed st u.0) _ v u.2 in
        let b = require_then _ _ _ v k.2 in
        let is = laws.values st.signature t.0 u.0 h.usable (value_is (eval0 st.signature t.0) u.0 u.1) in
        subst (λ (x : Tree). (is_value x ≡ true) × (type_of st.signature x ≡ Typed bool_tree)) (ok_injective u.0 v b.1)
        (is, typed_type st u.0 k.0 k.1 ∙ ap Typed ((laws.equals k.0 bool_tree).0 b.0))

    -- ---- facts and scopes

    fact_sound : (name : List ℕ) (t : Tree) (sorry : Bool) → is_value t ≡ true → (sorry ≡ false → st.sorry ≡ false) → (sorry ≡ false → DerivesBy allowed st.signature (in_force st.assertions st.scopes.opened) t) → IsSoundBy allowed (record (with_fact st name t) { sorry = sorry })
    unfolding scopes.with_fact
    fact_sound name t sorry is less own = record {
      usable = h.usable;
      terms = h.terms;
      values = values_fact name t st.commands is st.scopes h.values;
      formulas = fact_holds (λ (t : Tree). type_of st.signature t ≡ Typed bool_tree) st.scopes.outermost st.scopes.opened (fact name t st.commands) h.formulas;
      facts = λ s. fact_derives allowed st.signature st.assertions st.scopes.outermost st.scopes.opened (fact name t st.commands) (h.facts (less s)) (own s);
    }

    scope_sound : (name : List ℕ) (t : Tree) → is_value t ≡ true → type_of st.signature t ≡ Typed bool_tree → IsSoundBy allowed (with_scope st name t)
    unfolding scopes.with_scope
    scope_sound name t is type = record {
      usable = h.usable;
      terms = h.terms;
      values = values_scope name t st.commands is st.scopes h.values;
      formulas = All-cons (λ (t : Tree). type_of st.signature t ≡ Typed bool_tree) t (hypotheses st.scopes) type h.formulas;
      facts = λ s. scope_derives allowed st.signature st.assertions st.scopes.outermost st.scopes.opened name t st.commands (h.facts s);
    }

    outside_terms : (ns : List ℕ) → FitsTerms (record (context st) { macros = macros_before ns st.macros })
    outside_terms [] = h.terms
    outside_terms (n ∷ ns) = fits_taken st.signature st.signature st.macros (take n st.macros) h.terms refl n refl

    outside_sound : (IsSoundBy allowed) (without_scope st)
    unfolding outside
    outside_sound = record {
      usable = h.usable;
      terms = outside_terms st.outer_macros;
      values = values_outside st.scopes h.values;
      formulas = outside_holds (λ (t : Tree). type_of st.signature t ≡ Typed bool_tree) st.scopes.opened h.formulas;
      facts = λ s. outside_derives allowed st.signature st.assertions st.scopes.outermost st.scopes.opened (h.facts s);
    }

    -- ---- assumptions

    pub assume_sound : (name : List ℕ) (s : Sexp) (st' : State) → assume st name s ≡ Ok st' → IsSoundBy allowed st'
    unfolding assume
    assume_sound name s st' e =
        let free = require_then _ _ _ st' e in
        let v = bind_ok (formula st s) _ st' free.1 in
        let reference = require_then _ _ _ st' v.2 in
        let member = require_then _ _ _ st' reference.1 in
        let asserted : Contains st.assertions v.0 = Contains-from_any (λ t u. (laws.equals t u).0) v.0 st.assertions member.0 in
        sound_after allowed (with_fact st name v.0) st'
        (fact_sound name v.0 st.sorry (formula_is s v.0 v.1).0 (λ x. x) (λ x. by_assumption (Contains-append_right (hypotheses st.scopes) st.assertions v.0 asserted)))
        member.1

    pub assume_push_sound : (name : List ℕ) (s : Sexp) (st' : State) → assume_push st name s ≡ Ok st' → IsSoundBy allowed st'
    unfolding assume_push
    assume_push_sound name s st' e =
        let room = require_then _ _ _ st' e in
        let free = require_then _ _ _ st' room.1 in
        let v = bind_ok (formula st s) _ st' free.1 in
        let is = formula_is s v.0 v.1 in
        sound_after allowed (with_scope st name v.0) st' (scope_sound name v.0 is.0 is.1) v.2

    -- ---- steps

    module _ (discharged : Option Tree) (may : list_all is_value (option_to_list discharged) ≡ true) (s : StepShape) (k : Concluded) (p : IsStep st discharged s k) where
      given_values : AreGiven p.given
      given_values = record {
        assumed = subst (λ (o : Option Tree). list_all is_value (option_to_list o) ≡ true) (sym p.is_use.assumes) may;
        premises = all_values p.given.premises (premises_hold (λ (t : Tree). is_value t ≡ true) st (λ name t found. fact_value st.scopes name t h.values found) s.premises p.given.premises p.is_use.facts);
        arguments = all_values p.given.arguments (values_value s.arguments p.given.arguments p.is_use.arguments);
      }

      step_concludes : Concludes st.signature p.number p.given k.formula
      step_concludes = laws.concludes st.signature p.number p.given k.formula h.usable given_values p.concludes

      step_value : is_value k.formula ≡ true
      step_value =
          let σ = step_concludes.is_instance.0 in
          laws.values st.signature (put σ (guarded_conclusion step_concludes.rule)) k.formula h.usable step_concludes.is_instance.1.concludes

      step_allowed : allowed s.rule ≡ true → allowed step_concludes.rule.name ≡ true
      step_allowed h = subst (λ (n : List ℕ). allowed n ≡ true) (named_so s.rule (rules st.signature) p.number step_concludes.rule p.named step_concludes.declared) h

      step_instance : Instance st.signature step_concludes.rule discharged p.given.premises p.given.arguments k.formula
      step_instance =
          subst (λ (o : Option Tree). Instance st.signature step_concludes.rule o p.given.premises p.given.arguments k.formula) p.is_use.assumes step_concludes.is_instance

      module _ (proved : (st.sorry || k.sorry) ≡ false) where
        step_rule : IsRuleOf st.signature st.signature step_concludes.rule
        step_rule = proved_rule st.signature p.number step_concludes.rule step_concludes.declared (p.unproved ∙ or_right st.sorry k.sorry proved)

        premise_derives : (t : Tree) → Contains p.given.premises t → DerivesBy allowed st.signature (in_force st.assertions st.scopes.opened) t
        premise_derives t c =
            All-contains (DerivesBy allowed st.signature (in_force st.assertions st.scopes.opened)) p.given.premises t
            (premises_hold (DerivesBy allowed st.signature (in_force st.assertions st.scopes.opened)) st
            (λ name u found. named_derives allowed laws st.signature st.assertions st.scopes name u (h.facts (or_left st.sorry k.sorry proved)) found) s.premises p.given.premises p.is_use.facts)
            c

    plain_derives : (s : StepShape) (k : Concluded) (p : IsStep st None s k) → allowed s.rule ≡ true → (st.sorry || k.sorry) ≡ false → DerivesBy allowed st.signature (in_force st.assertions st.scopes.opened) k.formula
    plain_derives s k p permitted proved =
        by_rule st.signature (step_concludes None refl s k p).rule p.given.premises p.given.arguments (step_rule None refl s k p proved) (step_allowed None refl s k p permitted) (step_instance None refl s k p) (premise_derives None refl s k p proved)

    pub step_plain_sound : (s : StepShape) (st' : State) → allowed s.rule ≡ true → step_plain st s ≡ Ok st' → IsSoundBy allowed st'
    unfolding step_plain
    step_plain_sound s st' permitted e =
        let free = require_then _ _ _ st' e in
        let k = bind_ok (concluded st None s) _ st' free.1 in
        let p = step_parts st None s k.0 k.1 in
        sound_after allowed (with_conclusion st s.name k.0) st'
        (fact_sound s.name k.0.formula (st.sorry || k.0.sorry) (step_value None refl s k.0 p) (or_left st.sorry k.0.sorry) (plain_derives s k.0 p permitted)) k.2

    -- a step out of a scope, which has this assumption
    module _ (a : Tree) (innermost : innermost_hypothesis st.scopes ≡ Some a) where
      assumed_value : list_all is_value (a ∷ []) ≡ true
      assumed_value = and_from (is_value a) true (hypothesis_value st.scopes a h.values innermost) refl

      assumed_type : type_of st.signature a ≡ Typed bool_tree
      unfolding innermost_hypothesis
      assumed_type = popped_holds (λ (t : Tree). type_of st.signature t ≡ Typed bool_tree) (hypotheses st.scopes) a h.formulas innermost

      pop_derives : (s : StepShape) (k : Concluded) (p : IsStep st (Some a) s k) → allowed s.rule ≡ true → (st.sorry || k.sorry) ≡ false → DerivesBy allowed st.signature (in_force st.assertions (drop 1 st.scopes.opened)) k.formula
      unfolding innermost_hypothesis
      pop_derives s k p permitted proved =
          by_discharge st.signature (step_concludes (Some a) assumed_value s k p).rule a p.given.premises p.given.arguments (step_rule (Some a) assumed_value s k p proved) (step_allowed (Some a) assumed_value s k p permitted)
          (hypothesis_value st.scopes a h.values innermost) assumed_type (step_instance (Some a) assumed_value s k p)
          (λ t c. subst (λ (Γ : List Tree). DerivesBy allowed st.signature Γ t) (popped_force st.assertions st.scopes.opened a innermost) (premise_derives (Some a) assumed_value s k p proved t c))

  pub step_pop_sound : (laws : Layers) (st : State) → IsSoundBy allowed st → (s : StepShape) (st' : State) → allowed s.rule ≡ true → step_pop st s ≡ Ok st' → IsSoundBy allowed st'
  unfolding step_pop outside
  step_pop_sound laws st h s st' permitted e =
      let a = bind_ok _ _ st' e in
      let innermost = value_or_ok NoScope (innermost_hypothesis st.scopes) a.0 a.1 in
      let free = require_then _ _ _ st' a.2 in
      let k = bind_ok (concluded st (Some a.0) s) _ st' free.1 in
      let p = step_parts st (Some a.0) s k.0 k.1 in
      sound_after allowed (with_conclusion (without_scope st) s.name k.0) st'
      (fact_sound laws (without_scope st) (outside_sound laws st h) s.name k.0.formula (st.sorry || k.0.sorry) (step_value laws st h (Some a.0) (assumed_value laws st h a.0 innermost) s k.0 p)
      (or_left st.sorry k.0.sorry) (pop_derives laws st h a.0 innermost s k.0 p permitted)) k.2
