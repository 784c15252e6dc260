-- What calls answer, by the steps of the checks.
use Rattle.std.proofs.Common.{◌≡◌, ℕ, ◌<◌, Bool, true, false, not, List, length, Option, Some, None, ap, ◌∙◌, subst}
use Rattle.std.specs.Prelude.{Result, Ok, Err, if◌then◌else◌}
use Rattle.std.specs.Result.{IsErrAnd}
use Rattle.eo_base.specs.declared.FaultName.{FaultName}
use Rattle.eo_base.specs.declared.FaultName.TheVariants.{IllTyped, NotBool, PremiseMismatch, TermHeight, ConclusionDiffers}
use Rattle.eo_base.specs.Answers.{Tells}
use Rattle.eo_base.specs.Checks.{Checked, ◌>>=◌, require, value_or, passed}
use Rattle.eo_base.proofs.Answering.{fails}
use Rattle.eo_base.proofs.ChecksLemmas.{bind_fails, bind_step}
use Rattle.eo_term.specs.declared.table.TermRefused.{TermRefused}
use Rattle.eo_term.specs.declared.table.TermRefused.TheVariants as term
use Rattle.eo_term.specs.Refused.{IsTall}
use Rattle.eo_term.specs.Terms.{Terms, tree_at}
use Rattle.eo_term.specs.Tree.{Tree, bool_tree, is_tall, is_value, tree_eq}
use Rattle.eo_sig.specs.Signature.{Signature}
use Rattle.eo_pattern.specs.Slots.{Slots}
use Rattle.eo_pattern.specs.Matching.{Assignment}
use Rattle.eo_lists.specs.Lists.{list_by}
use Rattle.eo_lists.specs.Outcomes.{GivesList, IsTreeOf}
use Rattle.eo_type.specs.Outcomes.{Answers}
use Rattle.eo_type.specs.declared.refused.TypeRefused.{TypeRefused}
use Rattle.eo_type.specs.declared.refused.TypeRefused.TheVariants as kind
use Rattle.eo_type.specs.Types.{TypeOutcome, Typed, Untyped, TypeTall, on_typed, typed_if, settle, settled, if_not_tall, type_of, value_type}
use Rattle.eo_rule.specs.declared.refused.RuleRefused.{RuleRefused}
use Rattle.eo_rule.specs.Answers.{told, of_term, of_type, GivesTerm, GivesAssignment, Passes}
use Rattle.eo_rule.specs.Uses.{typed_or, typed, joined, check_formula, check_stated, is_stated}

-- ---- the exits of a `?`, where a fault of the part is that of the whole

pub term_fails : {C : Type 0} (t : Terms) (r : Result ℕ RuleRefused) (o : Checked Tree) (e : RuleRefused) (p : Checked C) → IsErrAnd r (λ x. x ≡ e) → ((f : FaultName) → p ≡ Err f → o ≡ Err f) → Tells told e p → GivesTerm t r o
term_fails t r o e p q step h = fails told _ _ r o e p q step h

pub assignment_fails : {C : Type 0} (t : Terms) (s : Slots) (r : Result (Unit {0}) RuleRefused) (o : Checked Assignment) (e : RuleRefused) (p : Checked C) → IsErrAnd r (λ x. x ≡ e) → ((f : FaultName) → p ≡ Err f → o ≡ Err f) → Tells told e p → GivesAssignment t r s o
assignment_fails t s r o e p q step h = fails told _ _ r o e p q step h

pub check_fails : {C : Type 0} (r : Result (Unit {0}) RuleRefused) (o : Checked (Unit {0})) (e : RuleRefused) (p : Checked C) → IsErrAnd r (λ x. x ≡ e) → ((f : FaultName) → p ≡ Err f → o ≡ Err f) → Tells told e p → Passes r o
check_fails r o e p q step h = fails told _ _ r o e p q step h

pub itself : {B : Type 0} (o : Checked B) (f : FaultName) → o ≡ Err f → o ≡ Err f
itself o f h = h

-- ---- the type of a value

pub kind_none : (t : Terms) (o : Option ℕ) (m : TypeOutcome Tree) → o ≡ None → Answers t (Ok o) m → m ≡ Untyped
kind_none t o m e h = subst (λ (x : Option ℕ). Answers t (Ok x) m) e h

pub kind_some : (t : Terms) (o : Option ℕ) (m : TypeOutcome Tree) (u : ℕ) → o ≡ Some u → Answers t (Ok o) m → (u < length t.trees) × (m ≡ Typed (tree_at t.trees u))
kind_some t o m u e h = let k = subst (λ (x : Option ℕ). Answers t (Ok x) m) e h in (k.live, k.typed)

module _ (S : Signature) (v : Tree) where
  abbrev by_type : TypeOutcome Tree → Checked Tree
  by_type o = typed_or (on_typed o (λ u. typed_if (is_value u) u))

  pub typed-none : type_of S v ≡ Untyped → typed S v ≡ Err IllTyped
  unfolding typed
  typed-none e = ap by_type e

  pub typed-refused : (t : Terms) (x : TypeRefused) → Answers t (Err x) (type_of S v) → Tells told (of_type x) (typed S v)
  unfolding typed
  typed-refused t kind.NumberRange h = ap by_type h
  typed-refused t kind.Tall h = ap by_type h
  typed-refused t (kind.Memory e) h = tt

  pub typed-open : (u : Tree) → type_of S v ≡ Typed u → is_value u ≡ false → typed S v ≡ Err IllTyped
  unfolding typed
  typed-open u e h = ap by_type e ∙ ap (λ b. typed_or (if b then Typed u else Untyped)) h

  pub typed-ok : (u : Tree) → type_of S v ≡ Typed u → is_value u ≡ true → typed S v ≡ Ok u
  unfolding typed
  typed-ok u e h = ap by_type e ∙ ap (λ b. typed_or (if b then Typed u else Untyped)) h

  pub typed-from : (u : Tree) → value_type S v ≡ Typed u → typed S v ≡ Ok u
  unfolding typed
  typed-from u e = ap typed_or e

  -- ---- a formula

  pub formula-fails : (f : FaultName) → typed S v ≡ Err f → check_formula S v ≡ Err f
  unfolding check_formula
  formula-fails f h = bind_fails (typed S v) _ f h

  pub formula-tested : (u : Tree) (b : Bool) → typed S v ≡ Ok u → tree_eq u bool_tree ≡ b → check_formula S v ≡ require b NotBool
  unfolding check_formula
  formula-tested u b h q = bind_step (typed S v) _ u h ∙ ap (λ x. require x NotBool) q

pub require-fails : (b : Bool) (f : FaultName) → b ≡ false → require b f ≡ Err f
unfolding require
require-fails b f e = ap (λ x. require x f) e

pub require-passes : (b : Bool) (f : FaultName) → b ≡ true → require b f ≡ Ok passed
unfolding require
require-passes b f e = ap (λ x. require x f) e

-- ---- a declared type, settled

settled-low : (t : Tree) → is_tall t ≡ false → settled t ≡ on_typed (settle t) if_not_tall
settled-low t l = ap (λ b. on_typed (if b then TypeTall else Typed t) (λ u. on_typed (settle u) if_not_tall)) l

pub settled-none : (t : Tree) → is_tall t ≡ false → settle t ≡ Untyped → typed_or (settled t) ≡ Err IllTyped
settled-none t l h = ap typed_or (settled-low t l ∙ ap (λ o. on_typed o if_not_tall) h)

pub settled-refused : (t : Tree) (s : Terms) (x : TypeRefused) → is_tall t ≡ false → Answers s (Err x) (settle t) → Tells told (of_type x) (typed_or (settled t))
settled-refused t s kind.NumberRange l h = ap typed_or (settled-low t l ∙ ap (λ o. on_typed o if_not_tall) h)
settled-refused t s kind.Tall l h = ap typed_or (settled-low t l ∙ ap (λ o. on_typed o if_not_tall) h)
settled-refused t s (kind.Memory e) l h = tt

pub settled-tall : (t : Tree) (x : TermRefused) → (IsTall {X = ℕ} (Err x) → is_tall t ≡ true) → Tells told (of_term x) (typed_or (settled t))
settled-tall t term.Tall h = ap (λ b. typed_or (on_typed (if b then TypeTall else Typed t) (λ u. on_typed (settle u) if_not_tall))) (h tt)
settled-tall t (term.Memory e) h = tt

-- ---- the stated formula

pub stated-differs : (s : Option Tree) (t : Tree) → is_stated s t ≡ false → check_stated s t ≡ Err ConclusionDiffers
unfolding check_stated
stated-differs s t e = bind_fails (require (is_stated s t) ConclusionDiffers) _ _ (require-fails (is_stated s t) ConclusionDiffers e)

pub stated-agrees : (s : Option Tree) (t : Tree) → is_stated s t ≡ true → check_stated s t ≡ Ok t
unfolding check_stated
stated-agrees s t e = bind_step (require (is_stated s t) ConclusionDiffers) _ passed (require-passes (is_stated s t) ConclusionDiffers e)

-- ---- the premises joined by a constant

pub joined-none : (S : Signature) (f : ℕ) (ts : List Tree) → list_by S f ts ≡ None → joined S f ts ≡ Err PremiseMismatch
unfolding joined value_or
joined-none S f ts e = bind_fails (value_or PremiseMismatch (list_by S f ts)) _ _ (ap (value_or PremiseMismatch) e)

joined-of : (S : Signature) (f : ℕ) (ts : List Tree) (t : Tree) → list_by S f ts ≡ Some t → joined S f ts ≡ (require (not (is_tall t)) TermHeight >>= λ _. Ok t)
unfolding joined value_or
joined-of S f ts t e = bind_step (value_or PremiseMismatch (list_by S f ts)) _ t (ap (value_or PremiseMismatch) e)

pub joined-tall : (S : Signature) (f : ℕ) (ts : List Tree) (t : Tree) → list_by S f ts ≡ Some t → is_tall t ≡ true → joined S f ts ≡ Err TermHeight
joined-tall S f ts t e h = joined-of S f ts t e ∙ bind_fails (require (not (is_tall t)) TermHeight) _ _ (require-fails _ TermHeight (ap not h))

pub joined-low : (S : Signature) (f : ℕ) (ts : List Tree) (t : Tree) → list_by S f ts ≡ Some t → is_tall t ≡ false → joined S f ts ≡ Ok t
joined-low S f ts t e h = joined-of S f ts t e ∙ bind_step (require (not (is_tall t)) TermHeight) _ passed (require-passes _ TermHeight (ap not h))

-- what the call of lists returns, where it returns no list
pub joined-refused : (S : Signature) (f : ℕ) (ts : List Tree) (s : Terms) (x : TermRefused) → GivesList s (Err x) (list_by S f ts) → Tells told (of_term x) (joined S f ts)
joined-refused S f ts s term.Tall h = joined-tall S f ts h.tree h.value h.tall
joined-refused S f ts s (term.Memory e) h = tt

pub list_none : (t : Terms) (o : Option ℕ) (m : Option Tree) → o ≡ None → GivesList t (Ok o) m → m ≡ None
list_none t o m e h = subst (λ (x : Option ℕ). GivesList t (Ok x) m) e h

pub list_some : (t : Terms) (o : Option ℕ) (m : Option Tree) (u : ℕ) → o ≡ Some u → GivesList t (Ok o) m → IsTreeOf t m u
list_some t o m u e h = subst (λ (x : Option ℕ). GivesList t (Ok x) m) e h

-- ---- a match, or the fault

pub value-none : {A : Type 0} (f : FaultName) (o : Option A) → o ≡ None → value_or f o ≡ Err f
unfolding value_or
value-none f o e = ap (value_or f) e

pub value-some : {A : Type 0} (f : FaultName) (o : Option A) (x : A) → o ≡ Some x → value_or f o ≡ Ok x
unfolding value_or
value-some f o x e = ap (value_or f) e
