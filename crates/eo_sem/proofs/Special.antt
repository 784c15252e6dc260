-- The rules that take items of conjunctions, join premises, resolve clauses and discharge assumptions preserve truth.
use Rattle.std.specs.Prelude.{◌≡◌, ℕ, Bool, true, false, not, ◌||◌, List, [], ◌∷◌, Option, Some, None, is_some, slice_get, refl}
use Rattle.std.specs.List.{list_all}
use Rattle.std.proofs.Common.{sym, ◌∙◌, ap, subst}
use Rattle.std.proofs.lemmas.Option.{same_Some}
use Rattle.eo_base.proofs.Tests.{join, clash}
use Rattle.eo_base.specs.Limits.{open_calls_limit, calls_limit}
use Rattle.eo_term.specs.Tree.{Tree, Con, Par, truth, is_plain}
use Rattle.eo_sig.specs.Signature.{Signature, Parameter, Rule, is_solved, terminator}
use Rattle.eo_pattern.specs.Matching.{Assignment, value_or_par, put}
use Rattle.eo_lists.specs.Lists.{spell}
use Rattle.eo_stack.specs.Evaluation.{Outcome, Value, Call, Eval, eval, eval0, call_within}
use Rattle.eo_rule.proofs.Openly.{value_type_is_type}
use Rattle.eo_rule.specs.Instance.{IsInstance, guarded_conclusion}
use Rattle.eo_sem.specs.Connectives.{impl}
use Rattle.eo_sem.specs.SuiteRules.{the_and_elim, the_and_intro, the_resolution, the_scope}
use Rattle.eo_sem.specs.Truth.{Valuation, holds}
use Rattle.eo_eval.proofs.Yields.{Yields}
use Rattle.eo_sem.proofs.Plain.{typed_plain, plain_yields}
use Rattle.eo_sem.proofs.Fixed.{EachHolds}
use Rattle.eo_sem.proofs.Lists.{and_list, and_spell, item_holds}
use Rattle.eo_sem.proofs.Operators.{nth_yields}
use Rattle.eo_sem.proofs.Programs.{HasClauses, IsResolvent}
use Rattle.eo_sem.proofs.Resolving.{resolved_yields}

-- what a signature has of the suite
pub record HasSuite (S : Signature) : Type 0 where
  pub ands : terminator S 8 ≡ Some (truth true)
  pub clauses : HasClauses S

module _ (stage : Signature) (r : Rule) (σ : Assignment) (hypothesis : Option Tree) (premises arguments : List Tree) (formula : Tree) (u : IsInstance stage r hypothesis premises arguments formula σ) where
  -- the value that a parameter gets is a term without operators
  parameter_plain : (i : ℕ) (p : Parameter) → slice_get r.parameters i ≡ Some p → is_solved r i ≡ true → is_plain (put σ (Par i)) ≡ true
  parameter_plain i p at solved = by (σ i) refl (u.solves i ∙ solved)
    where
      by : (o : Option Tree) → σ i ≡ o → is_some o ≡ true → is_plain (value_or_par i o) ≡ true
      by (Some v) e h = let f = u.types_fit i p v at e in typed_plain stage v f.type (value_type_is_type stage v f.type f.has_type)
      by None e h = clash h

  abbrev calls : Call → Eval Tree
  calls = call_within stage calls_limit open_calls_limit

  -- the formula is what the conclusion yields
  yielded : (P : Tree → Type 0) (t : Tree) → put σ (guarded_conclusion r) ≡ t → Yields (eval stage calls_limit open_calls_limit t) P → P formula
  yielded P t q y =
      let e = subst (λ (x : Tree). eval0 stage x ≡ Value formula) q u.concludes in
      let whole = eval stage calls_limit open_calls_limit t [] in
      y [] formula whole.1 (ap (λ (o : Outcome Tree). (o, whole.1)) e)

module _ (S : Signature) (V : Valuation) where
  abbrev True : Tree → Type 0
  True t = holds S V t ≡ true

  each_all : (ts : List Tree) → EachHolds True ts → list_all (holds S V) ts ≡ true
  each_all [] h = refl
  each_all (t ∷ ts) h = join h.0 (each_all ts h.1)

  module _ (stage : Signature) (has : HasSuite stage) (σ : Assignment) (premises arguments : List Tree) (formula : Tree) where
    pub and_elim_keeps : IsInstance stage the_and_elim None premises arguments formula σ → EachHolds True premises → True formula
    and_elim_keeps u each =
        let first = put σ (Par 0) in
        let index = put σ (Par 1) in
        let premise = subst (EachHolds True) (sym u.premises_fit) each in
        yielded stage the_and_elim σ None premises arguments formula u True (put σ (guarded_conclusion the_and_elim)) refl
        (nth_yields stage (calls stage the_and_elim σ None premises arguments formula u) (Same first) (Same index) True first index
        (plain_yields stage (calls stage the_and_elim σ None premises arguments formula u) first (parameter_plain stage the_and_elim σ None premises arguments formula u 0 _ refl refl))
        (plain_yields stage (calls stage the_and_elim σ None premises arguments formula u) index (parameter_plain stage the_and_elim σ None premises arguments formula u 1 _ refl refl))
        has.ands
        (λ b c xs v i j e f. item_holds S V c xs v f (sym (and_list S V b xs e) ∙ (ap (holds S V) i ∙ premise.0))))
      where
        Same : Tree → Tree → Type 0
        Same f v = v ≡ f

    pub and_intro_keeps : IsInstance stage the_and_intro None premises arguments formula σ → EachHolds True premises → True formula
    and_intro_keeps u each =
        let fit = u.premises_fit in
        let whole = put σ (Par 0) in
        let is : formula ≡ whole = yielded stage the_and_intro σ None premises arguments formula u (λ v. v ≡ whole) whole refl
        (plain_yields stage (calls stage the_and_intro σ None premises arguments formula u) whole (parameter_plain stage the_and_intro σ None premises arguments formula u 0 _ refl refl)) in
        let ends = same_Some fit.0 (truth true) (sym fit.1 ∙ has.ands) in
        ap (holds S V) (is ∙ (fit.3 ∙ ap (λ (n : Tree). spell (Con 8) n premises) ends)) ∙ (and_spell S V premises ∙ each_all premises each)

    pub resolution_keeps : IsInstance stage the_resolution None premises arguments formula σ → EachHolds True premises → True formula
    resolution_keeps u each =
        let plain = parameter_plain stage the_resolution σ None premises arguments formula u in
        let premise = subst (EachHolds True) (sym u.premises_fit) each in
        let resolvent = yielded stage the_resolution σ None premises arguments formula u (IsResolvent S V (put σ (Par 0)) (put σ (Par 1))) (put σ (guarded_conclusion the_resolution)) refl
        (resolved_yields S V stage has.clauses calls_limit open_calls_limit (put σ (Par 0)) (put σ (Par 1)) (put σ (Par 2)) (put σ (Par 3)) (plain 0 _ refl refl) (plain 1 _ refl refl) (plain 2 _ refl refl) (plain 3 _ refl refl)) in
        resolvent.truth premise.0 premise.1.0

  module _ (stage : Signature) (σ : Assignment) (hypothesis : Tree) (premises arguments : List Tree) (formula : Tree) where
    -- where the premises are true under the assumption, the conclusion is true
    pub scope_keeps : IsInstance stage the_scope (Some hypothesis) premises arguments formula σ → (True hypothesis → EachHolds True premises) → True formula
    scope_keeps u under =
        let plain = parameter_plain stage the_scope σ (Some hypothesis) premises arguments formula u in
        let assumed = put σ (Par 0) in
        let concluded = put σ (Par 1) in
        let is : formula ≡ impl assumed concluded = yielded stage the_scope σ (Some hypothesis) premises arguments formula u (λ v. v ≡ impl assumed concluded) (impl assumed concluded) refl
        (plain_yields stage (calls stage the_scope σ (Some hypothesis) premises arguments formula u) (impl assumed concluded) (join (plain 0 _ refl refl) (plain 1 _ refl refl))) in
        let same = same_Some assumed hypothesis u.assumes in
        ap (holds S V) is ∙ by (holds S V assumed) (holds S V concluded) (λ h. (subst (EachHolds True) (sym u.premises_fit) (under (sym (ap (holds S V) same) ∙ h))).0)
      where
        by : (a c : Bool) → (a ≡ true → c ≡ true) → (not a || c) ≡ true
        by true c f = f refl
        by false c f = refl
