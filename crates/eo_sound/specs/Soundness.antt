-- What each command keeps, so that a correct check refutes its assertions.
use Rattle.std.specs.Prelude.{◌≡◌, ℕ, Bool, false, List, [], ◌∷◌, ◌++◌, map, All}
use Rattle.eo_elab.specs.Fitting.{FitsTerms}
use Rattle.eo_proof.specs.Scopes.{Fact, Scope, hypotheses}
use Rattle.eo_session.specs.Store.{AreValues}
use Rattle.eo_session.specs.State.{State, context}
use Rattle.eo_sig.specs.Signature.{Signature}
use Rattle.eo_sig.specs.Usable.{IsUsable}
use Rattle.eo_term.specs.Tree.{Tree, bool_tree}
use Rattle.eo_type.specs.Types.{Typed, type_of}
use Rattle.eo_rule.specs.ByRules.{DerivesBy, any_rule}

-- the assumptions of these scopes, and the assertions
abbrev pub in_force : List Tree → List Scope → List Tree
in_force assertions scopes = map (λ s. s.hypothesis) scopes ++ assertions

-- where the rules whose names pass the test are allowed
module _ (allowed : List ℕ → Bool) where
  -- each fact is derivable from the formulas by the allowed rules
  abbrev pub AllDerive : Signature → List Tree → List Fact → Type 0
  AllDerive S formulas facts = All (λ (f : Fact). DerivesBy allowed S formulas f.formula) facts

  -- Each fact is derivable from the assertions, the assumption of its scope and those of the scopes around it. The innermost scope comes first.
  abbrev pub FactsDerive : Signature → List Tree → List Fact → List Scope → Type 0
  FactsDerive S assertions outermost [] = AllDerive S assertions outermost
  FactsDerive S assertions outermost (s ∷ ss) =
      AllDerive S (in_force assertions (s ∷ ss)) s.facts × FactsDerive S assertions outermost ss

  -- Terms can be read and rules be used: terminators are values, parameters are used only where they are declared, and facts and assumptions are values. Each assumption of a scope is a formula; nothing is declared while a scope is open. Where no step used a rule that is marked as unproved, each fact is derivable by the allowed rules.
  pub record IsSoundBy (st : State) : Type 0 where
    pub usable : IsUsable st.signature
    pub terms : FitsTerms (context st)
    pub values : AreValues st.scopes
    pub formulas : All (λ (t : Tree). type_of st.signature t ≡ Typed bool_tree) (hypotheses st.scopes)
    pub facts : st.sorry ≡ false → FactsDerive st.signature st.assertions st.scopes.outermost st.scopes.opened

-- by any rules
abbrev pub IsSound : State → Type 0
IsSound = IsSoundBy any_rule
