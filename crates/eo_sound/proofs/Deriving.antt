-- What is derivable from the facts of scopes, as facts, scopes, declarations and assertions come and go.
use Rattle.std.specs.Prelude.{◌≡◌, ℕ, Bool, true, false, List, [], ◌∷◌, ◌++◌, map, drop, find, cond, bytes_eq, Some, option_map, slice_get, All, refl}
use Rattle.std.proofs.Common.{subst, ap, append_assoc, arith}
use Rattle.std.proofs.lemmas.List.Elements.{All-nil, All-cons, All-append, All-push, All-weaker, All-head, All-tail, Contains-append_left, Contains-append_right}
use Rattle.std.proofs.lemmas.Option.{none-some, same_Some}
use Rattle.eo_proof.specs.Scopes.{Fact, Scope, Scopes, fact, opened_facts, formula_named, fact_named, live_facts, in_innermost, hypotheses}
use Rattle.eo_sig.specs.Signature.{Signature}
use Rattle.eo_term.specs.Tree.{Tree}
use Rattle.eo_rule.specs.ByRules.{DerivesBy, by_assumption}
use Rattle.eo_sound.specs.Layers.{Layers}
use Rattle.eo_sound.specs.Soundness.{AllDerive, in_force, FactsDerive}

-- what holds of a fact's formula, as it holds of the fact
abbrev pub OfFormula : (Tree → Type 0) → Fact → Type 0
OfFormula P f = P f.formula

-- what holds of the formulas of all facts holds of that of a name
named_holds : (P : Tree → Type 0) (fs : List Fact) (name : List ℕ) (t : Tree) → All (OfFormula P) fs → formula_named fs name ≡ Some t → P t
named_holds P [] name t all e = absurd (none-some t e)
named_holds P (f ∷ fs) name t all e =
    by (bytes_eq f.name name) e (named_holds P fs name t (All-tail (OfFormula P) f fs all))
  where
    by : (b : Bool) → option_map (λ (f : Fact). f.formula) (cond b (Some f) (find (λ (f : Fact). bytes_eq f.name name) fs)) ≡ Some t → (formula_named fs name ≡ Some t → P t) → P t
    by true e rest = subst P (same_Some f.formula t e) (All-head (OfFormula P) f fs all)
    by false e rest = rest e

-- ---- the assumption of the innermost scope

-- in it, its assumption is in force beside what is in force outside it
pub popped_force : (assertions : List Tree) (ss : List Scope) (a : Tree) → slice_get (map (λ (s : Scope). s.hypothesis) ss) 0 ≡ Some a → in_force assertions ss ≡ a ∷ in_force assertions (drop 1 ss)
popped_force assertions [] a e = absurd (none-some a e)
popped_force assertions (s ∷ ss) a e = ap (λ (t : Tree). t ∷ in_force assertions ss) (same_Some s.hypothesis a e)

-- what holds of all assumptions holds of it
pub popped_holds : (P : Tree → Type 0) (ts : List Tree) (a : Tree) → All P ts → slice_get ts 0 ≡ Some a → P a
popped_holds P [] a all e = absurd (none-some a e)
popped_holds P (t ∷ ts) a all e = subst P (same_Some t a e) (All-head P t ts all)

pub outside_holds : (P : Tree → Type 0) (ss : List Scope) → All P (map (λ (s : Scope). s.hypothesis) ss) → All P (map (λ (s : Scope). s.hypothesis) (drop 1 ss))
outside_holds P [] all = all
outside_holds P (s ∷ ss) all = All-tail P s.hypothesis (map (λ (s : Scope). s.hypothesis) ss) all

-- ---- one more

-- a fact more keeps the assumptions
pub fact_holds : (P : Tree → Type 0) (out : List Fact) (ss : List Scope) (f : Fact) → All P (map (λ (s : Scope). s.hypothesis) ss) → All P (hypotheses (in_innermost out ss f))
fact_holds P out [] f all = all
fact_holds P out (s ∷ ss) f all = all

-- ---- what the layers below say of more assumptions and declarations

pub none_assumed : (P : Tree → Type 0) (ss : List Scope) → ss ≡ [] → All P (map (λ (s : Scope). s.hypothesis) ss)
none_assumed P [] e = All-nil P
none_assumed P (s ∷ ss) e = absurd (cc e)

module _ (allowed : List ℕ → Bool) where
  -- without the innermost scope
  pub outside_derives : (S : Signature) (assertions : List Tree) (out : List Fact) (ss : List Scope) → FactsDerive allowed S assertions out ss → FactsDerive allowed S assertions out (drop 1 ss)
  outside_derives S assertions out [] d = d
  outside_derives S assertions out (s ∷ ss) d = d.1

  -- a fact more, which is derivable from what is in force
  pub fact_derives : (S : Signature) (assertions : List Tree) (out : List Fact) (ss : List Scope) (f : Fact) → FactsDerive allowed S assertions out ss → DerivesBy allowed S (in_force assertions ss) f.formula → FactsDerive allowed S assertions (in_innermost out ss f).outermost (in_innermost out ss f).opened
  fact_derives S assertions out [] f d own = All-push (OfFormula (DerivesBy allowed S assertions)) out f d own
  fact_derives S assertions out (s ∷ ss) f d own =
      (All-push (OfFormula (DerivesBy allowed S (in_force assertions (s ∷ ss)))) s.facts f d.0 own, d.1)

  -- a scope more, whose only fact is its assumption
  pub scope_derives : (S : Signature) (assertions : List Tree) (out : List Fact) (ss : List Scope) (name : List ℕ) (t : Tree) (number : ℕ) → FactsDerive allowed S assertions out ss → FactsDerive allowed S assertions out (record { hypothesis = t; facts = fact name t number ∷ [] } ∷ ss)
  scope_derives S assertions out ss name t number d =
      (All-cons P (fact name t number) [] (by_assumption (Contains-append_left (t ∷ []) (in_force assertions ss) t (0, omega arith, refl))) (All-nil P), d)
    where
      P : Fact → Type 0
      P = OfFormula (DerivesBy allowed S (t ∷ in_force assertions ss))

  module _ (laws : Layers) where
    more_force : (S : Signature) (Γ : List Tree) (t : Tree) (fs : List Fact) → AllDerive allowed S Γ fs → AllDerive allowed S (t ∷ Γ) fs
    more_force S Γ t fs d =
        All-weaker (OfFormula (DerivesBy allowed S Γ)) (OfFormula (DerivesBy allowed S (t ∷ Γ))) (λ f own. laws.weakens allowed S Γ (t ∷ Γ) f.formula (λ x c. Contains-append_right (t ∷ []) Γ x c) own) fs d

    -- the facts of all scopes are derivable from what is in force
    live_derive : (S : Signature) (assertions : List Tree) (out : List Fact) (ss : List Scope) → FactsDerive allowed S assertions out ss → AllDerive allowed S (in_force assertions ss) (out ++ opened_facts ss)
    live_derive S assertions out [] d = All-append (OfFormula (DerivesBy allowed S assertions)) out [] d (All-nil (OfFormula (DerivesBy allowed S assertions)))
    live_derive S assertions out (s ∷ ss) d =
        subst (AllDerive allowed S (in_force assertions (s ∷ ss))) (append_assoc out (opened_facts ss) s.facts)
        (All-append (OfFormula (DerivesBy allowed S (in_force assertions (s ∷ ss)))) (out ++ opened_facts ss) s.facts
        (more_force S (in_force assertions ss) s.hypothesis (out ++ opened_facts ss) (live_derive S assertions out ss d.1)) d.0)

    -- and so is the one of a name
    pub named_derives : (S : Signature) (assertions : List Tree) (f : Scopes) (name : List ℕ) (t : Tree) → FactsDerive allowed S assertions f.outermost f.opened → fact_named f name ≡ Some t → DerivesBy allowed S (in_force assertions f.opened) t
    named_derives S assertions f name t d e =
        named_holds (DerivesBy allowed S (in_force assertions f.opened)) (live_facts f) name t (live_derive S assertions f.outermost f.opened d) e

    -- ---- no scope is open

    pub declared_derives : (S later : Signature) (assertions : List Tree) (out : List Fact) (ss : List Scope) → ss ≡ [] → FactsDerive allowed S assertions out ss → FactsDerive allowed (S ++ later) assertions out ss
    declared_derives S later assertions out [] e d =
        All-weaker (OfFormula (DerivesBy allowed S assertions)) (OfFormula (DerivesBy allowed (S ++ later) assertions)) (λ f own. laws.lasts allowed S later assertions f.formula own) out d
    declared_derives S later assertions out (s ∷ ss) e d = absurd (cc e)

    pub asserted_derives : (S : Signature) (assertions more : List Tree) (out : List Fact) (ss : List Scope) → ss ≡ [] → FactsDerive allowed S assertions out ss → FactsDerive allowed S (assertions ++ more) out ss
    asserted_derives S assertions more out [] e d =
        All-weaker (OfFormula (DerivesBy allowed S assertions)) (OfFormula (DerivesBy allowed S (assertions ++ more))) (λ f own. laws.weakens allowed S assertions (assertions ++ more) f.formula (λ x c. Contains-append_left assertions more x c) own) out d
    asserted_derives S assertions more out (s ∷ ss) e d = absurd (cc e)
