-- What steps do to a state.
use Rattle.std.proofs.Common.{◌≡◌, ℕ, Bool, true, false, not, ◌&&◌, List, [], ◌∷◌, ◌++◌, Option, None, Some, sym, ap, ◌∙◌}
use Rattle.std.specs.Prelude.{Ok, Err}
use Rattle.std.specs.Option.{option_map_or}
use Rattle.std.proofs.lemmas.List.{append-nil}
use Rattle.eo_base.proofs.ChecksLemmas.{behind, behind-first}
use Rattle.eo_base.specs.declared.FaultName.{FaultName}
use Rattle.eo_base.specs.declared.FaultName.TheVariants.{Redeclared, ProofDeclares, NoScope, UnknownRule, UnknownPremise}
use Rattle.eo_base.specs.Checks.{Checked, ◌>>=◌, require, value_or}
use Rattle.eo_proof.specs.Scopes.{innermost_hypothesis, fact_named}
use Rattle.eo_rule.specs.Uses.{Use, conclusion}
use Rattle.eo_sexp.specs.Sexp.{Sexp}
use Rattle.eo_shape.specs.Shapes.{RuleShape, StepShape}
use Rattle.eo_sig.specs.Signature.{Rule, rule_named, rule_at}
use Rattle.eo_term.specs.Tree.{Tree}
use Rattle.eo_session.specs.Origin.{Origin}
use Rattle.eo_session.specs.Decisions.{outside_effect, pop_effect, added_rule_effect, rule_effect}
use Rattle.eo_session.specs.Effects.{Effect, Adds}
use Rattle.eo_session.specs.State.{State}
use Rattle.eo_session.specs.Step.{Concluded, is_free_outer_fact, is_sorry, value, values, optional_value, premises, use_of, concluded_by, concluded, is_in_proof}
use Rattle.eo_session.specs.Using.{concluded_from}

-- ---- steps

module _ (st : State) (s : StepShape) where
  abbrev with_outer_name : Tree → Bool → Checked Effect
  with_outer_name a b = require b Redeclared >>= λ _. outside_effect st a s

  abbrev with_assumption : Option Tree → Checked Effect
  with_assumption o = value_or NoScope o >>= λ a. with_outer_name a (is_free_outer_fact st s.name)

  pub pop-none : innermost_hypothesis st.scopes ≡ None → pop_effect st s ≡ Err NoScope
  unfolding ◌>>=◌ value_or
  pop-none e = ap with_assumption e

  module _ (a : Tree) (e : innermost_hypothesis st.scopes ≡ Some a) where
    pub pop-redeclared : is_free_outer_fact st s.name ≡ false → pop_effect st s ≡ Err Redeclared
    unfolding ◌>>=◌ value_or require
    pop-redeclared h = ap with_assumption e ∙ ap (with_outer_name a) h

    pub pop-free : is_free_outer_fact st s.name ≡ true → pop_effect st s ≡ outside_effect st a s
    unfolding ◌>>=◌ value_or require
    pop-free h = ap with_assumption e ∙ ap (with_outer_name a) h

-- ---- what is concluded

module _ (st : State) (s : StepShape) where
  module _ (a : Tree) where
    pub outside-fault : (name : FaultName) → concluded st (Some a) s ≡ Err name → outside_effect st a s ≡ Err name
    unfolding ◌>>=◌
    outside-fault name e = ap (λ m. m >>= λ k. Ok (Adds s.name k true)) e

    pub outside-ok : (k : Concluded) → concluded st (Some a) s ≡ Ok k → outside_effect st a s ≡ Ok (Adds s.name k true)
    unfolding ◌>>=◌
    outside-ok k e = ap (λ m. m >>= λ k. Ok (Adds s.name k true)) e

module _ (st : State) (assumed : Option Tree) (s : StepShape) where
  abbrev by_number : Option ℕ → Checked Concluded
  by_number o = value_or UnknownRule o >>= λ number. concluded_by st number assumed s

  pub concluded-unknown : rule_named st.signature s.rule ≡ None → concluded st assumed s ≡ Err UnknownRule
  unfolding concluded ◌>>=◌ value_or
  concluded-unknown e = ap by_number e

  pub concluded-named : (number : ℕ) → rule_named st.signature s.rule ≡ Some number → concluded st assumed s ≡ concluded_by st number assumed s
  unfolding concluded ◌>>=◌ value_or
  concluded-named number e = ap by_number e

  module _ (number : ℕ) where
    pub concluded-fault : (name : FaultName) → use_of st assumed s ≡ Err name → concluded_by st number assumed s ≡ Err name
    unfolding concluded_by ◌>>=◌
    concluded-fault name e = ap (λ m. m >>= concluded_from st number) e

    pub concluded-use : (given : Use) → use_of st assumed s ≡ Ok given → concluded_by st number assumed s ≡ concluded_from st number given
    unfolding concluded_by ◌>>=◌
    concluded-use given e = ap (λ m. m >>= concluded_from st number) e

  -- ---- what a rule is used on

  abbrev with_arguments : List Tree → Option Tree → Checked (List Tree) → Checked Use
  with_arguments ps o m = m >>= λ xs. Ok (record { assumed = assumed; premises = ps; arguments = xs; stated = o })

  abbrev with_stated : List Tree → Checked (Option Tree) → Checked Use
  with_stated ps m = m >>= λ o. with_arguments ps o (values st s.arguments)

  abbrev with_premises : Checked (List Tree) → Checked Use
  with_premises m = m >>= λ ps. with_stated ps (optional_value st s.stated)

  pub use-no_premises : (name : FaultName) → premises st s.premises ≡ Err name → use_of st assumed s ≡ Err name
  unfolding use_of ◌>>=◌
  use-no_premises name e = ap with_premises e

  module _ (ps : List Tree) (e : premises st s.premises ≡ Ok ps) where
    pub use-not_stated : (name : FaultName) → optional_value st s.stated ≡ Err name → use_of st assumed s ≡ Err name
    unfolding use_of ◌>>=◌
    use-not_stated name h = ap with_premises e ∙ ap (with_stated ps) h

    module _ (o : Option Tree) (h : optional_value st s.stated ≡ Ok o) where
      pub use-no_arguments : (name : FaultName) → values st s.arguments ≡ Err name → use_of st assumed s ≡ Err name
      unfolding use_of ◌>>=◌
      use-no_arguments name k = ap with_premises e ∙ ap (with_stated ps) h ∙ ap (with_arguments ps o) k

      pub use-whole : (xs : List Tree) → values st s.arguments ≡ Ok xs → use_of st assumed s ≡ Ok (record { assumed = assumed; premises = ps; arguments = xs; stated = o })
      unfolding use_of ◌>>=◌
      use-whole xs k = ap with_premises e ∙ ap (with_stated ps) h ∙ ap (with_arguments ps o) k

module _ (st : State) (number : ℕ) (given : Use) where
  pub from-fault : (name : FaultName) → conclusion st.signature number given ≡ Err name → concluded_from st number given ≡ Err name
  unfolding ◌>>=◌
  from-fault name e = ap (λ m. m >>= λ f. Ok (record { formula = f; sorry = is_sorry st number })) e

  pub from-ok : (f : Tree) → conclusion st.signature number given ≡ Ok f → concluded_from st number given ≡ Ok (record { formula = f; sorry = is_sorry st number })
  unfolding ◌>>=◌
  from-ok f e = ap (λ m. m >>= λ f. Ok (record { formula = f; sorry = is_sorry st number })) e

  pub sorry-is : (r : Rule) → rule_at st.signature number ≡ Some r → is_sorry st number ≡ r.sorry
  sorry-is r e = ap (λ o. option_map_or (λ (r : Rule). r.sorry) o false) e

-- ---- lists, of which the first fault counts

module _ (st : State) (before : List Tree) where
  module _ (s : Sexp) (rest : List Sexp) where
    abbrev first_value : Checked Tree → Checked (List Tree)
    first_value m = behind before (m >>= λ t. values st rest >>= λ ts. Ok (t ∷ ts))

    pub values-next : (t : Tree) → value st s ≡ Ok t → behind (before ++ t ∷ []) (values st rest) ≡ behind before (values st (s ∷ rest))
    unfolding ◌>>=◌ values
    values-next t e = behind-first before t (values st rest) ∙ ap first_value (sym e)

    pub values-fault : (fault : FaultName) → value st s ≡ Err fault → behind before (values st (s ∷ rest)) ≡ Err fault
    unfolding ◌>>=◌ values
    values-fault fault e = ap first_value e

  pub values-end : behind before (values st []) ≡ Ok before
  unfolding ◌>>=◌ values
  values-end = ap Ok (append-nil before)

  module _ (name : List ℕ) (rest : List (List ℕ)) where
    abbrev premise : Checked Tree
    premise = value_or UnknownPremise (fact_named st.scopes name)

    abbrev first_premise : Checked Tree → Checked (List Tree)
    first_premise m = behind before (m >>= λ t. premises st rest >>= λ ts. Ok (t ∷ ts))

    pub premises-next : (t : Tree) → premise ≡ Ok t → behind (before ++ t ∷ []) (premises st rest) ≡ behind before (premises st (name ∷ rest))
    unfolding ◌>>=◌ premises
    premises-next t e = behind-first before t (premises st rest) ∙ ap first_premise (sym e)

    pub premises-fault : (fault : FaultName) → premise ≡ Err fault → behind before (premises st (name ∷ rest)) ≡ Err fault
    unfolding ◌>>=◌ premises
    premises-fault fault e = ap first_premise e

  pub premises-end : behind before (premises st []) ≡ Ok before
  unfolding ◌>>=◌ premises
  premises-end = ap Ok (append-nil before)

pub premise-some : (o : Option Tree) (t : Tree) → o ≡ Some t → value_or UnknownPremise o ≡ Ok t
unfolding value_or
premise-some o t e = ap (λ o. value_or UnknownPremise o) e

pub premise-none : (o : Option Tree) → o ≡ None → value_or UnknownPremise o ≡ Err UnknownPremise
unfolding value_or
premise-none o e = ap (λ o. value_or UnknownPremise o) e

module _ (st : State) (s : Sexp) where
  abbrev by_value : Checked Tree → Checked (Option Tree)
  by_value m = m >>= λ v. Ok (Some v)

  pub optional-fault : (name : FaultName) → value st s ≡ Err name → optional_value st (Some s) ≡ Err name
  unfolding ◌>>=◌
  optional-fault name e = ap by_value e

  pub optional-some : (v : Tree) → value st s ≡ Ok v → optional_value st (Some s) ≡ Ok (Some v)
  unfolding ◌>>=◌
  optional-some v e = ap by_value e

-- ---- rules that are declared

-- whether a rule may be declared here, and then what it is
module _ (st : State) (from : Origin) (shape : RuleShape) where
  abbrev by_origin : Bool → Checked Effect
  by_origin b = require b ProofDeclares >>= λ _. added_rule_effect st shape

  pub rule-closed : not (st.closed && is_in_proof from) ≡ false → rule_effect st from shape ≡ Err ProofDeclares
  unfolding require ◌>>=◌
  rule-closed e = ap by_origin e

  pub rule-open : not (st.closed && is_in_proof from) ≡ true → rule_effect st from shape ≡ added_rule_effect st shape
  unfolding require ◌>>=◌
  rule-open e = ap by_origin e
