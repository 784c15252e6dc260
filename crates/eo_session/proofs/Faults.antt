-- No check of a use of a rule finds that a file is absent.
use Rattle.std.proofs.Common.{◌≡◌, ℕ, suc, Bool, true, false, List, [], ◌∷◌, Option, None, Some, subst}
use Rattle.std.specs.Prelude.{◌≢◌, Ok, Err, IfErr, option_to_list}
use Rattle.eo_base.specs.declared.FaultName.{FaultName}
use Rattle.eo_base.specs.declared.FaultName.TheVariants.{WrongKind, UnknownRule, TermHeight, PremiseMismatch, IllTyped, NotBool, ConclusionDiffers, FileAbsent}
use Rattle.eo_base.specs.Answers.{Tells}
use Rattle.eo_base.specs.Checks.{Checked, ◌>>=◌, require, value_or}
use Rattle.eo_stack.specs.Evaluation.{Outcome, Value, Stuck, Deep, Calls, Range, Tall}
use Rattle.eo_eval.specs.Faults.{value_or_fault}
use Rattle.eo_pattern.specs.Matching.{Assignment, empty}
use Rattle.eo_rule.specs.Uses.{Use, typed_or, typed, joined, join_premises, match_trees, match_use, matched, check_value, check_type, check_types, conclude_value, check_formula, check_stated, kind_conclusion, rule_conclusion, conclusion}
use Rattle.eo_rule.specs.declared.refused.RuleRefused.{RuleRefused}
use Rattle.eo_rule.specs.declared.refused.RuleRefused.TheVariants as rule
use Rattle.eo_rule.specs.Answers.{told}
use Rattle.eo_sig.specs.Signature.{Signature, Rule, Parameter, PremiseShape, Each, Joined, premise_patterns}
use Rattle.eo_term.specs.Tree.{Tree}
use Rattle.eo_type.specs.Types.{TypeOutcome, Typed, Untyped, TypeRange, TypeTall}
use Rattle.eo_session.specs.Stepping.{of_rule, Refuses}

-- a fault, if there is one, is none of an absent file
abbrev pub IsPresent : {A : Type 0} → Checked A → Type 0
IsPresent m = IfErr m (λ name. name ≢ FileAbsent)

pub present-then : {A B : Type 0} (m : Checked A) (f : A → Checked B) → IsPresent m → ((x : A) → IsPresent (f x)) → IsPresent (m >>= f)
unfolding ◌>>=◌
present-then (Ok x) f h k = k x
present-then (Err name) f h k = h

present-require : (b : Bool) (name : FaultName) → name ≢ FileAbsent → IsPresent (require b name)
unfolding require
present-require true name h = tt
present-require false name h = h

present-value_or : {A : Type 0} (name : FaultName) (o : Option A) → name ≢ FileAbsent → IsPresent (value_or name o)
unfolding value_or
present-value_or name None h = h
present-value_or name (Some x) h = tt

present-typed_or : (o : TypeOutcome Tree) → IsPresent (typed_or o)
present-typed_or (Typed t) = tt
present-typed_or Untyped = λ q. absurd cc
present-typed_or TypeRange = λ q. absurd cc
present-typed_or TypeTall = λ q. absurd cc

pub present-ended : (o : Outcome Tree) → IsPresent (value_or_fault o)
present-ended (Value v) = tt
present-ended Stuck = λ q. absurd cc
present-ended Deep = λ q. absurd cc
present-ended Calls = λ q. absurd cc
present-ended Range = λ q. absurd cc
present-ended Tall = λ q. absurd cc

module _ (S : Signature) where
  pub present-typed : (v : Tree) → IsPresent (typed S v)
  unfolding typed
  present-typed v = present-typed_or _

  present-joined : (f : ℕ) (ps : List Tree) → IsPresent (joined S f ps)
  unfolding joined
  present-joined f ps =
      present-then _ _ (present-value_or PremiseMismatch _ (λ q. absurd cc)) (λ t. present-then _ _ (present-require _ TermHeight (λ q. absurd cc)) (λ x. tt))

  present-premises : (s : PremiseShape) (ps : List Tree) → IsPresent (join_premises S s ps)
  present-premises (Each qs) ps = tt
  present-premises (Joined p f) ps = present-then (joined S f ps) (λ t. Ok (t ∷ [])) (present-joined f ps) (λ t. tt)

  present-trees : (σ : Assignment) (ps ts : List Tree) → IsPresent (match_trees σ ps ts)
  present-trees σ ps ts = present-value_or PremiseMismatch _ (λ q. absurd cc)

  present-match : (r : Rule) (h : Option Tree) (ps xs : List Tree) → IsPresent (match_use r h ps xs)
  unfolding match_use
  present-match r h ps xs =
      present-then _ _ (present-trees empty (option_to_list r.assumed) (option_to_list h))
      (λ σ. present-then _ _ (present-trees σ (premise_patterns r.premises) ps) (λ τ. present-trees τ r.arguments xs))

  present-matched : (r : Rule) (given : Use) → IsPresent (matched S r given)
  unfolding matched
  present-matched r given = present-then _ _ (present-premises r.premises given.premises) (λ ps. present-match r given.assumed ps given.arguments)

  present-check_value : (σ : Assignment) (declared value : Tree) → IsPresent (check_value S σ declared value)
  unfolding check_value
  present-check_value σ declared value =
      present-then _ _ (present-typed value) (λ t. present-then _ _ (present-typed_or _) (λ u. present-value_or IllTyped _ (λ q. absurd cc)))

  present-type : (σ : Assignment) (declared : Tree) (o : Option Tree) → IsPresent (check_type S σ declared o)
  present-type σ declared None = tt
  present-type σ declared (Some value) = present-check_value σ declared value

  present-types : (σ : Assignment) (i : ℕ) (ps : List Parameter) → IsPresent (check_types S σ i ps)
  unfolding check_types
  present-types σ i [] = tt
  present-types σ i (p ∷ ps) = present-then _ _ (present-types σ (suc i) ps) (λ τ. present-type τ p.type (τ i))

  present-concluded : (t : Tree) → IsPresent (conclude_value S t)
  unfolding conclude_value
  present-concluded t = present-then _ _ (present-require _ TermHeight (λ q. absurd cc)) (λ x. present-ended _)

  present-formula : (t : Tree) → IsPresent (check_formula S t)
  unfolding check_formula
  present-formula t = present-then _ _ (present-typed t) (λ u. present-require _ NotBool (λ q. absurd cc))

  present-stated : (o : Option Tree) (t : Tree) → IsPresent (check_stated o t)
  unfolding check_stated
  present-stated o t = present-then _ _ (present-require _ ConclusionDiffers (λ q. absurd cc)) (λ x. tt)

  present-kind : (r : Rule) (given : Use) → IsPresent (kind_conclusion S r given)
  unfolding kind_conclusion
  present-kind r given =
      present-then _ _ (present-matched r given)
      (λ σ. present-then _ _ (present-types σ 0 r.parameters) (λ τ. present-then _ _ (present-concluded _) (λ t. present-then _ _ (present-formula t) (λ x. present-stated given.stated t))))

  present-rule : (r : Rule) (given : Use) → IsPresent (rule_conclusion S r given)
  unfolding rule_conclusion
  present-rule r given = present-then _ _ (present-require _ WrongKind (λ q. absurd cc)) (λ x. present-kind r given)

  pub present-conclusion : (number : ℕ) (given : Use) → IsPresent (conclusion S number given)
  unfolding conclusion
  present-conclusion number given = present-then _ _ (present-value_or UnknownRule _ (λ q. absurd cc)) (λ r. present-rule r given)

-- the refusal of a use of a rule, or of a value or a type
pub refuses_rule : {A B : Type 0} (m : Checked A) (n : Checked B) (x : RuleRefused) → IsPresent m → Tells told x m → ((name : FaultName) → m ≡ Err name → n ≡ Err name) → Refuses n (of_rule x)
refuses_rule {A} m n (rule.Fault name) p h f = (f name h, subst (λ (o : Checked A). IsPresent o) h p)
refuses_rule m n (rule.Memory e) p h f = (tt, tt)
