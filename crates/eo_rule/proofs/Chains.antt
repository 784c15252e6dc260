-- The checks in order: the fault of each is that of the whole, and what passes goes on.
use Rattle.std.proofs.Common.{◌≡◌, ℕ, zero, suc, ◌+◌, ◌<◌, ◌≤◌, true, false, not, List, [], ◌∷◌, length, drop, All, Option, Some, None, refl, sym, ap, ◌∙◌, subst, arith}
use Rattle.std.specs.Prelude.{Result, Ok, Err, IfOk, option_to_list, slice_get}
use Rattle.std.specs.Option.{option_flatten}
use Rattle.std.proofs.lemmas.List.Elements.{All-head, All-tail}
use Rattle.eo_base.specs.declared.FaultName.{FaultName}
use Rattle.eo_base.specs.declared.FaultName.TheVariants.{IllTyped, TermHeight, UnknownRule}
use Rattle.eo_base.specs.Answers.{Tells}
use Rattle.eo_base.specs.Checks.{Checked, ◌>>=◌, require, value_or, passed}
use Rattle.eo_base.proofs.ChecksLemmas.{bind_fails, bind_step, err_is_not_ok, ok_injective}
use Rattle.eo_term.specs.declared.table.TermRefused.{TermRefused}
use Rattle.eo_term.specs.declared.table.TermRefused.TheVariants as term
use Rattle.eo_term.specs.Builds.{TallWhere}
use Rattle.eo_term.specs.Growth.{tree_in}
use Rattle.eo_term.specs.Terms.{Terms}
use Rattle.eo_term.specs.Tree.{Tree, is_tall}
use Rattle.eo_sig.specs.Signature.{Signature, Parameter, Rule, PremiseShape, Each, Joined, premise_patterns, rule_at}
use Rattle.eo_pattern.specs.Slots.{Slots, SlotBelow, AreBelow}
use Rattle.eo_pattern.specs.Matching.{Assignment, empty, put, matching}
use Rattle.eo_type.specs.Types.{settled}
use Rattle.eo_stack.specs.Evaluation.{eval0}
use Rattle.eo_eval.specs.Faults.{value_or_fault}
use Rattle.eo_eval.specs.Outcomes.{IsValueOf}
use Rattle.eo_rule.specs.declared.refused.RuleRefused.{RuleRefused}
use Rattle.eo_rule.specs.declared.refused.RuleRefused.TheVariants as refused
use Rattle.eo_rule.specs.Answers.{told, of_term, GivesTerm, AnswersOnly}
use Rattle.eo_rule.specs.Instance.{guarded_conclusion}
use Rattle.eo_rule.specs.Uses.{Use, typed_or, typed, joined, join_premises, match_trees, match_use, matched, check_kind, check_value, check_type, check_types, conclude_value, check_formula, check_stated, kind_conclusion, rule_conclusion, conclusion}
use Rattle.eo_rule.proofs.Steps.{require-fails, require-passes, value-some}

-- ---- the three matches

module _ (r : Rule) (h : Option Tree) (ps xs : List Tree) where
  abbrev pub first : Checked Assignment
  first = match_trees empty (option_to_list r.assumed) (option_to_list h)

  pub use-first : (f : FaultName) → first ≡ Err f → match_use r h ps xs ≡ Err f
  unfolding match_use
  use-first f e = bind_fails first _ f e

  pub use-last : (σ τ : Assignment) → first ≡ Ok σ → match_trees σ (premise_patterns r.premises) ps ≡ Ok τ → match_use r h ps xs ≡ match_trees τ r.arguments xs
  unfolding match_use
  use-last σ τ e k = bind_step first _ σ e ∙ bind_step (match_trees σ (premise_patterns r.premises) ps) _ τ k

  pub use-second : (σ : Assignment) → first ≡ Ok σ → (f : FaultName) → match_trees σ (premise_patterns r.premises) ps ≡ Err f → match_use r h ps xs ≡ Err f
  unfolding match_use
  use-second σ e f k = bind_step first _ σ e ∙ bind_fails (match_trees σ (premise_patterns r.premises) ps) _ f k

-- ---- premises, joined or not

module _ (S : Signature) (r : Rule) (given : Use) where
  pub matched-each : (ps : List Tree) → r.premises ≡ Each ps → matched S r given ≡ match_use r given.assumed given.premises given.arguments
  unfolding matched
  matched-each ps e =
      ap (λ (s : PremiseShape). join_premises S s given.premises >>= λ ts. match_use r given.assumed ts given.arguments) e
      ∙ bind_step (Ok given.premises) _ given.premises refl

  matched-of : (p : Tree) (f : ℕ) → r.premises ≡ Joined p f → matched S r given ≡ ((joined S f given.premises >>= λ t. Ok (t ∷ [])) >>= λ ts. match_use r given.assumed ts given.arguments)
  unfolding matched
  matched-of p f e = ap (λ (s : PremiseShape). join_premises S s given.premises >>= λ ts. match_use r given.assumed ts given.arguments) e

  pub matched-fails : (p : Tree) (k : ℕ) → r.premises ≡ Joined p k → (f : FaultName) → joined S k given.premises ≡ Err f → matched S r given ≡ Err f
  matched-fails p k e f h = matched-of p k e ∙ bind_fails (joined S k given.premises >>= λ t. Ok (t ∷ [])) _ f (bind_fails (joined S k given.premises) _ f h)

  pub matched-joined : (p : Tree) (k : ℕ) (t : Tree) → r.premises ≡ Joined p k → joined S k given.premises ≡ Ok t → matched S r given ≡ match_use r given.assumed (t ∷ []) given.arguments
  matched-joined p k t e h = matched-of p k e ∙ bind_step (joined S k given.premises >>= λ t. Ok (t ∷ [])) _ (t ∷ []) (bind_step (joined S k given.premises) _ t h)

-- ---- the type of a parameter

module _ (S : Signature) (σ : Assignment) (declared v : Tree) where
  pub value-first : (f : FaultName) → typed S v ≡ Err f → check_value S σ declared v ≡ Err f
  unfolding check_value
  value-first f e = bind_fails (typed S v) _ f e

  pub value-second : (t : Tree) → typed S v ≡ Ok t → (f : FaultName) → typed_or (settled (put σ declared)) ≡ Err f → check_value S σ declared v ≡ Err f
  unfolding check_value
  value-second t e f k = bind_step (typed S v) _ t e ∙ bind_fails (typed_or (settled (put σ declared))) _ f k

  pub value-last : (t u : Tree) → typed S v ≡ Ok t → typed_or (settled (put σ declared)) ≡ Ok u → check_value S σ declared v ≡ value_or IllTyped (matching σ (u ∷ []) (t ∷ []))
  unfolding check_value
  value-last t u e k = bind_step (typed S v) _ t e ∙ bind_step (typed_or (settled (put σ declared))) _ u k

-- ---- the types of the parameters, from the back

module _ (S : Signature) (σ : Assignment) where
  -- a fault of the last ones is that of all
  pub types-from : (i k : ℕ) (ps : List Parameter) (f : FaultName) → check_types S σ (i + k) (drop k ps) ≡ Err f → check_types S σ i ps ≡ Err f
  unfolding check_types
  types-from i zero ps f e = subst (λ (n : ℕ). check_types S σ n ps ≡ Err f) (omega arith) e
  types-from i (suc k) [] f e = absurd (err_is_not_ok f σ (sym e))
  types-from i (suc k) (p ∷ ps) f e =
      bind_fails (check_types S σ (suc i) ps) _ f (types-from (suc i) k ps f (subst (λ (n : ℕ). check_types S σ n (drop k ps) ≡ Err f) (omega arith) e))

  pub types-from-start : (k : ℕ) (ps : List Parameter) (f : FaultName) → check_types S σ k (drop k ps) ≡ Err f → check_types S σ 0 ps ≡ Err f
  types-from-start k ps f e = types-from 0 k ps f (subst (λ (n : ℕ). check_types S σ n (drop k ps) ≡ Err f) (omega arith) e)

  drop-all : (ps : List Parameter) (k : ℕ) → length ps ≤ k → drop k ps ≡ []
  drop-all [] zero l = refl
  drop-all [] (suc k) l = refl
  drop-all (p ∷ ps) zero l = absurd (omega arith)
  drop-all (p ∷ ps) (suc k) l = drop-all ps k (omega arith)

  pub types-end : (ps : List Parameter) (k : ℕ) → length ps ≤ k → check_types S σ k (drop k ps) ≡ Ok σ
  unfolding check_types
  types-end ps k l = ap (check_types S σ k) (drop-all ps k l)

  pub types-none : (i : ℕ) → check_types S σ i [] ≡ Ok σ
  unfolding check_types
  types-none i = refl

  pub types-more : (i : ℕ) (p : Parameter) (ps : List Parameter) (τ : Assignment) → check_types S σ (suc i) ps ≡ Ok τ → check_types S σ i (p ∷ ps) ≡ check_type S τ p.type (τ i)
  unfolding check_types
  types-more i p ps τ h = bind_step (check_types S σ (suc i) ps) _ τ h

  -- one parameter more
  pub types-step : (ps : List Parameter) (k : ℕ) (p : Parameter) (τ : Assignment) → drop k ps ≡ p ∷ drop (suc k) ps → check_types S σ (suc k) (drop (suc k) ps) ≡ Ok τ → check_types S σ k (drop k ps) ≡ check_type S τ p.type (τ k)
  unfolding check_types
  types-step ps k p τ e h = ap (check_types S σ k) e ∙ bind_step (check_types S σ (suc k) (drop (suc k) ps)) _ τ h

-- ---- the conclusion

module _ (S : Signature) (t : Tree) where
  pub conclude-tall : is_tall t ≡ true → conclude_value S t ≡ Err TermHeight
  unfolding conclude_value
  conclude-tall h = bind_fails (require (not (is_tall t)) TermHeight) _ _ (require-fails _ TermHeight (ap not h))

  pub conclude-low : is_tall t ≡ false → conclude_value S t ≡ value_or_fault (eval0 S t)
  unfolding conclude_value
  conclude-low h = bind_step (require (not (is_tall t)) TermHeight) _ passed (require-passes _ TermHeight (ap not h))

  pub conclude-refused : (e : TermRefused) → TallWhere e (is_tall t) → Tells told (of_term e) (conclude_value S t)
  conclude-refused term.Tall h = conclude-tall h
  conclude-refused (term.Memory e) h = tt

-- ---- all checks after the first

module _ (S : Signature) (r : Rule) (given : Use) where
  abbrev with_types : Assignment → Checked Tree
  with_types σ = check_types S σ 0 r.parameters >>= λ τ. conclude_value S (put τ (guarded_conclusion r)) >>= λ t. check_formula S t >>= λ _. check_stated given.stated t

  abbrev with_value : Assignment → Checked Tree
  with_value τ = conclude_value S (put τ (guarded_conclusion r)) >>= λ t. check_formula S t >>= λ _. check_stated given.stated t

  pub kind-matched : (f : FaultName) → matched S r given ≡ Err f → kind_conclusion S r given ≡ Err f
  unfolding kind_conclusion
  kind-matched f e = bind_fails (matched S r given) with_types f e

  pub kind-types : (σ : Assignment) → matched S r given ≡ Ok σ → (f : FaultName) → check_types S σ 0 r.parameters ≡ Err f → kind_conclusion S r given ≡ Err f
  unfolding kind_conclusion
  kind-types σ e f k = bind_step (matched S r given) with_types σ e ∙ bind_fails (check_types S σ 0 r.parameters) with_value f k

  typed-all : (σ τ : Assignment) → matched S r given ≡ Ok σ → check_types S σ 0 r.parameters ≡ Ok τ → kind_conclusion S r given ≡ with_value τ
  unfolding kind_conclusion
  typed-all σ τ e k = bind_step (matched S r given) with_types σ e ∙ bind_step (check_types S σ 0 r.parameters) with_value τ k

  module _ (σ τ : Assignment) (e : matched S r given ≡ Ok σ) (k : check_types S σ 0 r.parameters ≡ Ok τ) where
    pub kind-value : (f : FaultName) → conclude_value S (put τ (guarded_conclusion r)) ≡ Err f → kind_conclusion S r given ≡ Err f
    kind-value f v = typed-all σ τ e k ∙ bind_fails (conclude_value S (put τ (guarded_conclusion r))) _ f v

    pub kind-formula : (t : Tree) → conclude_value S (put τ (guarded_conclusion r)) ≡ Ok t → (f : FaultName) → check_formula S t ≡ Err f → kind_conclusion S r given ≡ Err f
    kind-formula t v f h =
        typed-all σ τ e k ∙ bind_step (conclude_value S (put τ (guarded_conclusion r))) _ t v ∙ bind_fails (check_formula S t) _ f h

    pub kind-stated : (t : Tree) → conclude_value S (put τ (guarded_conclusion r)) ≡ Ok t → check_formula S t ≡ Ok passed → kind_conclusion S r given ≡ check_stated given.stated t
    kind-stated t v h =
        typed-all σ τ e k ∙ bind_step (conclude_value S (put τ (guarded_conclusion r))) _ t v ∙ bind_step (check_formula S t) _ passed h

  pub rule-kind : (f : FaultName) → check_kind r.assumed given.assumed ≡ Err f → rule_conclusion S r given ≡ Err f
  unfolding rule_conclusion
  rule-kind f e = bind_fails (check_kind r.assumed given.assumed) _ f e

  pub rule-rest : check_kind r.assumed given.assumed ≡ Ok passed → rule_conclusion S r given ≡ kind_conclusion S r given
  unfolding rule_conclusion
  rule-rest e = bind_step (check_kind r.assumed given.assumed) _ passed e

-- the rule of the number
pub conclusion-of : (S : Signature) (n : ℕ) (given : Use) (r : Rule) → rule_at S n ≡ Some r → conclusion S n given ≡ rule_conclusion S r given
unfolding conclusion
conclusion-of S n given r e = bind_step (value_or UnknownRule (rule_at S n)) _ r (value-some UnknownRule _ r e)

-- ---- what is held

pub held_below : (n : ℕ) (s : Slots) (i v : ℕ) → AreBelow n s → option_flatten (slice_get s.values i) ≡ Some v → v < n
held_below n s i v b e = within s.values i b.slots e
  where
    within : (os : List (Option ℕ)) (j : ℕ) → All (SlotBelow n) os → option_flatten (slice_get os j) ≡ Some v → v < n
    within [] j h q = cc q
    within (None ∷ os) zero h q = cc q
    within (Some w ∷ os) zero h q = subst (λ (o : Option ℕ). SlotBelow n o) q (All-head (SlotBelow n) (Some w) os h)
    within (o ∷ os) (suc j) h q = within os j (All-tail (SlotBelow n) o os h) q

-- ---- the only formula

-- what the checks give, where they give just the formulas of a kind
pub answers_only : (t : Terms) (r : Result ℕ RuleRefused) (o : Checked Tree) (Is : Tree → Type 0) → ((x : Tree) → o ≡ Ok x → Is x) → ((x : Tree) → Is x → o ≡ Ok x) → IfOk r (IsValueOf t) → GivesTerm t r o → AnswersOnly t r Is
answers_only t (Ok i) o Is sound complete value h = record { value = value; one = sound (tree_in t i) h.is; none_else = λ x k. ok_injective x (tree_in t i) (sym (complete x k) ∙ h.is) }
answers_only t (Err (refused.Fault name)) o Is sound complete value h = λ x k. err_is_not_ok name x (sym h ∙ complete x k)
answers_only t (Err (refused.Memory e)) o Is sound complete value h = tt
