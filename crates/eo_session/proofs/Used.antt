-- What a rule is used on: terms that are there and are values.
use Rattle.std.proofs.Common.{◌≡◌, refl, ℕ, ◌<◌, Bool, true, false, List, [], ◌∷◌, ◌++◌, length, map, Option, None, Some, option_map, sym, ap, subst, ◌∙◌, arith, cond}
use Rattle.std.specs.Prelude.{Result, Ok, Err, IfOk, ◌&&◌, find, slice_get, option_to_list, bytes_eq}
use Rattle.std.specs.List.{list_all}
use Rattle.std.proofs.lemmas.Grind.{common_steps}
use Rattle.std.proofs.lemmas.List.Folds.{list_all-append}
use Rattle.std.proofs.lemmas.List.Elements.{All-nil}
use Rattle.std.proofs.lemmas.Option.{none-some, same_Some}
use Rattle.eo_base.proofs.Elements.{ids_more, push_below, push_same, map_same}
use Rattle.eo_eval.specs.Outcomes.{IsValueOf}
use Rattle.eo_proof.specs.Scopes.{Fact, Scope, Scopes, fact_named, formula_named, innermost_hypothesis, live_facts}
use Rattle.eo_rule.specs.Answers.{AnswersOnly}
use Rattle.eo_rule.specs.Reading.{IsUseOf, read_use}
use Rattle.eo_rule.specs.Uses.{Use}
use Rattle.eo_rule.specs.declared.RuleUse.{RuleUse}
use Rattle.eo_rule.specs.declared.refused.RuleRefused.{RuleRefused}
use Rattle.eo_sig.specs.Reading.{SomeBelow}
use Rattle.eo_term.specs.Growth.{tree_in, trees_in, Grows}
use Rattle.eo_term.specs.Terms.{Terms, Since, tree_at}
use Rattle.eo_term.specs.Tree.{Tree, is_value}
use Rattle.eo_session.specs.Store.{state_of, AreValues, IsConsistent, Keeps}
use Rattle.eo_base.specs.Checks.{Checked}
use Rattle.eo_session.specs.State.{State, without_scope}
use Rattle.eo_session.specs.Step.{Concluded, is_free_fact, is_free_outer_fact}
use Rattle.eo_session.specs.Using.{AreValueIds, MayDischarge, GivesConcluded}
use Rattle.eo_session.specs.declared.refused.Refused.{Refused}
use Rattle.eo_session.specs.declared.steps.Conclusion.{Conclusion}
use Rattle.eo_session.specs.declared.store.Store.{Store}
use Rattle.std.proofs.lemmas.Bool.{and_parts}

-- ---- facts

named_value : (fs : List Fact) (name : List ℕ) (t : Tree) → formula_named fs name ≡ Some t → list_all is_value (map (λ (f : Fact). f.formula) fs) ≡ true → is_value t ≡ true
named_value [] name t e v = absurd (none-some t e)
named_value (f ∷ fs) name t e v =
    let h = and_parts (is_value f.formula) (list_all is_value (map (λ (f : Fact). f.formula) fs)) v in
    by (bytes_eq f.name name) e h.0 (λ q. named_value fs name t q h.1)
  where
    by : (b : Bool) → option_map (λ (f : Fact). f.formula) (cond b (Some f) (find (λ (f : Fact). bytes_eq f.name name) fs)) ≡ Some t → is_value f.formula ≡ true
        → (formula_named fs name ≡ Some t → is_value t ≡ true) → is_value t ≡ true
    by true e here rest = subst (λ (u : Tree). is_value u ≡ true) (same_Some f.formula t e) here
    by false e here rest = rest e

pub fact_value : (f : Scopes) (name : List ℕ) (t : Tree) → AreValues f → fact_named f name ≡ Some t → is_value t ≡ true
fact_value f name t values e = named_value (live_facts f) name t e values.facts

pub hypothesis_value : (f : Scopes) (t : Tree) → AreValues f → innermost_hypothesis f ≡ Some t → is_value t ≡ true
unfolding innermost_hypothesis
hypothesis_value f t values e = by (map (λ (s : Scope). s.hypothesis) f.opened) values.hypotheses e
  where
    by : (ts : List Tree) → list_all is_value ts ≡ true → slice_get ts 0 ≡ Some t → is_value t ≡ true
    by [] v e = absurd (none-some t e)
    by (u ∷ us) v e = subst (λ (x : Tree). is_value x ≡ true) (same_Some u t e) (and_parts (is_value u) (list_all is_value us) v).0

-- ---- lists of values

pub no_ids : (t : Terms) → AreValueIds t []
no_ids t = record { live = All-nil (λ i. i < length t.trees); values = refl }

module _ (old new : Terms) (grows : Since old new) (ids : List ℕ) (are : AreValueIds old ids) where
  pub trees_more : (i : ℕ) → trees_in new (ids ++ i ∷ []) ≡ trees_in old ids ++ tree_in new i ∷ []
  trees_more i = push_same (length old.trees) (tree_at old.trees) (tree_at new.trees) grows.tree ids i (tree_in new i) are.live refl

  pub ids_push : (i : ℕ) → i < length new.trees → is_value (tree_in new i) ≡ true → AreValueIds new (ids ++ i ∷ [])
  ids_push i live value = record {
    live = push_below (length old.trees) (length new.trees) i ids grows.more_trees live are.live;
    values = ap (list_all is_value) (trees_more i) ∙ list_all-append is_value (trees_in old ids) (tree_in new i ∷ []) ∙ (λ k. are.values k && (value k && true));
  }

  pub trees_same : trees_in new ids ≡ trees_in old ids
  trees_same = map_same (length old.trees) (tree_at old.trees) (tree_at new.trees) grows.tree ids are.live

  pub ids_later : AreValueIds new ids
  ids_later = record { live = ids_more (length old.trees) (length new.trees) grows.more_trees ids are.live; values = ap (list_all is_value) trees_same ∙ are.values }

-- ---- terms that may be there

module _ (old new : Terms) (grows : Since old new) where
  pub some_same : (o : Option ℕ) → SomeBelow (length old.trees) o → option_map (tree_in new) o ≡ option_map (tree_in old) o
  some_same None h = refl
  some_same (Some i) h = ap Some (grows.tree i h)

  pub some_later : (o : Option ℕ) → SomeBelow (length old.trees) o → SomeBelow (length new.trees) o
  some_later None h = tt
  some_later (Some i) h = omega (arith, h, grows.more_trees)

pub nothing_discharged : (t : Terms) → MayDischarge t None
nothing_discharged t = record { live = tt; value = refl }

pub discharged : (t : Terms) (i : ℕ) → i < length t.trees → is_value (tree_in t i) ≡ true → MayDischarge t (Some i)
discharged t i live value = record { live = live; value = (λ k. value k && true) }

pub discharges_innermost : (h : Store) → IsConsistent h → (i : ℕ) → i < length h.table.trees → innermost_hypothesis (state_of h).scopes ≡ Some (tree_in h.table i) → MayDischarge h.table (Some i)
discharges_innermost h whole i live e = discharged h.table i live (hypothesis_value (state_of h).scopes (tree_in h.table i) whole.store.values e)

-- ---- uses

-- the assumption and the premises are there first, then the stated formula, and then the arguments
module _ (t u v : Terms) (first : Since t u) (second : Since u v) (all : Since t v) (a o : Option ℕ) (ps xs : List ℕ) where
  abbrev whole : RuleUse
  whole = record { «assumption» = a; premises = ps; args = xs; stated = o }

  module _ (may : MayDischarge t a) (premises : AreValueIds t ps) (stated : SomeBelow (length u.trees) o) (arguments : AreValueIds v xs) where
    pub use_read : ◌≡◌ {A = Use} (record { assumed = option_map (tree_in t) a; premises = trees_in t ps; arguments = trees_in v xs; stated = option_map (tree_in u) o }) (read_use v.trees whole)
    use_read = (λ k. record {
      assumed = sym (some_same t v all a may.live) k;
      premises = sym (trees_same t v all ps premises) k;
      arguments = trees_in v xs;
      stated = sym (some_same u v second o stated) k;
    })

    pub use_is : IsUseOf v whole
    use_is =
        let later = ids_later t v all ps premises in
        record {
          live = record { assumed = some_later t v all a may.live; premises = later.live; arguments = arguments.live; stated = some_later u v second o stated };
          values = record { assumed = ap (λ (x : Option Tree). list_all is_value (option_to_list x)) (some_same t v all a may.live) ∙ may.value; premises = later.values; arguments = arguments.values };
        }

-- ---- a state that stays

pub since_self : (t : Terms) → Since t t
since_self t = grind (arith, common_steps)

pub grows_self : (t : Terms) → Grows t t
grows_self t = record { now = since_self t; since = λ u h. h }

pub keeps_self : (h : Store) → IsConsistent h → Keeps h h
keeps_self h whole = record { whole = whole; same = refl; signature = refl; grows = grows_self h.table }

pub keeps_on : (a b c : Store) → Keeps a b → Keeps b c → Keeps a c
keeps_on a b c p q = record {
  whole = q.whole;
  same = q.same ∙ p.same;
  signature = q.signature ∙ p.signature;
  grows = record { now = q.grows.since a.table p.grows.now; since = λ t h. q.grows.since t (p.grows.since t h) };
}

-- ---- conclusions

-- an answer is one for what is the same
pub concluded-same : (h : Store) (r : Result Conclusion Refused) (m n : Checked Concluded) → m ≡ n → GivesConcluded h r n → GivesConcluded h r m
concluded-same h r m n e g = subst (λ (k : Checked Concluded). GivesConcluded h r k) (sym e) g

-- a name that is free outside the innermost scope is free once that is closed
pub free_outside : (st : State) (name : List ℕ) → is_free_outer_fact st name ≡ true → is_free_fact (without_scope st) name ≡ true
free_outside st name e = e

-- the only formula that a rule concludes is a value
pub only_value : (t : Terms) (r : Result ℕ RuleRefused) (Is : Tree → Type 0) → AnswersOnly t r Is → IfOk r (IsValueOf t)
only_value t (Ok i) Is h = h.value
only_value t (Err e) Is h = tt
