-- What a session does with a step, with numbers of terms.
use Rattle.std.specs.Prelude.{◌≡◌, ℕ, ◌<◌, true, List, length, All, Option, Result, Ok, Err, option_map, option_to_list}
use Rattle.std.specs.List.{list_all}
use Rattle.eo_base.specs.Answers.{IsGiven}
use Rattle.eo_base.specs.Checks.{Checked, ◌>>=◌, require}
use Rattle.eo_base.specs.declared.FaultName.TheVariants.{NoReference, NotAsserted}
use Rattle.eo_eval.specs.Outcomes.{IsValueOf}
use Rattle.eo_rule.specs.Reading.{IsUseOf, read_use}
use Rattle.eo_rule.specs.Uses.{Use, conclusion}
use Rattle.eo_rule.specs.declared.RuleUse.{RuleUse}
use Rattle.eo_sexp.specs.Sexp.{Sexp}
use Rattle.eo_sig.specs.Reading.{SomeBelow}
use Rattle.eo_term.specs.Growth.{tree_in, trees_in}
use Rattle.eo_term.specs.Terms.{Terms}
use Rattle.eo_term.specs.Tree.{Tree, is_value}
use Rattle.eo_session.specs.State.{State, is_asserted}
use Rattle.eo_session.specs.Step.{Concluded, formula, is_sorry}
use Rattle.eo_session.specs.Stepping.{Refuses}
use Rattle.eo_session.specs.declared.store.Store.{Store}
use Rattle.eo_session.specs.declared.refused.Refused.{Refused}
use Rattle.eo_session.specs.declared.steps.Conclusion.{Conclusion}

-- ---- terms

-- terms that are there, and are values
pub record AreValueIds (t : Terms) (is : List ℕ) : Type 0 where
  pub live : All (λ i. i < length t.trees) is
  pub values : list_all is_value (trees_in t is) ≡ true

-- the ids of the values that are found, or what refuses them
abbrev pub GivesIds : Store → Result (List ℕ) Refused → Checked (List Tree) → Type 0
GivesIds h (Ok is) m = IsGiven (AreValueIds h.table) (trees_in h.table) m is
GivesIds h (Err e) m = Refuses m e

-- the id of the term that is found, if one is
abbrev pub GivesOptional : Store → Result (Option ℕ) Refused → Checked (Option Tree) → Type 0
GivesOptional h (Ok o) m = IsGiven (SomeBelow (length h.table.trees)) (option_map (tree_in h.table)) m o
GivesOptional h (Err e) m = Refuses m e

-- ---- uses of rules

-- no term, or one that is there and is a value
pub record MayDischarge (t : Terms) (o : Option ℕ) : Type 0 where
  pub live : SomeBelow (length t.trees) o
  pub value : list_all is_value (option_to_list (option_map (tree_in t) o)) ≡ true

abbrev pub GivesUse : Store → Result RuleUse Refused → Checked Use → Type 0
GivesUse h (Ok u) m = IsGiven (IsUseOf h.table) (read_use h.table.trees) m u
GivesUse h (Err e) m = Refuses m e

-- ---- conclusions

abbrev pub read_conclusion : Terms → Conclusion → Concluded
read_conclusion t k = record { formula = tree_in t k.formula; sorry = k.sorry }

-- what is concluded is a value
abbrev pub GivesConcluded : Store → Result Conclusion Refused → Checked Concluded → Type 0
GivesConcluded h (Ok k) m = IsGiven (λ (k : Conclusion). IsValueOf h.table k.formula) (read_conclusion h.table) m k
GivesConcluded h (Err e) m = Refuses m e

-- what the rule of this number concludes from what is given
abbrev pub concluded_from : State → ℕ → Use → Checked Concluded
concluded_from st number given = do
  f ← conclusion st.signature number given
  Ok (record { formula = f; sorry = is_sorry st number })

-- the value of a term, which is a formula that is asserted
abbrev pub asserted_formula : State → Sexp → Checked Tree
asserted_formula st s = do
  v ← formula st s
  _ ← require st.has_reference NoReference
  _ ← require (is_asserted st v) NotAsserted
  Ok v
