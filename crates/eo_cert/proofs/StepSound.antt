-- A use of a rule derives its conclusion.
use Rattle.std.specs.Prelude.{◌≡◌, ℕ, zero, suc, ◌<◌, true, false, not, ◌&&◌, nat_le, List, [], ◌∷◌, ◌++◌, length, Option, Some, None, slice_get, slice_index_or, Contains, refl}
use Rattle.std.specs.List.{list_all}
use Rattle.std.proofs.Common.{sym, ◌∙◌, ap, subst, arith, append-nil}
use Rattle.std.proofs.lemmas.Bool.{leb-true, and_parts, eqb-true, not-true}
use Rattle.std.proofs.lemmas.Option.{same_Some}
use Rattle.eo_base.proofs.Tests.{clash}
use Rattle.eo_base.specs.Limits.{calls_limit, open_calls_limit}
use Rattle.eo_term.specs.Tree.{Tree, is_value, is_tall, tree_eq}
use Rattle.eo_term.proofs.Equality.{tree_decides}
use Rattle.eo_sig.specs.Signature.{Signature, Rule, rule_at}
use Rattle.eo_pattern.specs.Matching.{put}
use Rattle.eo_stack.specs.Evaluation.{Value, Ended, eval0}
use Rattle.eo_rule.specs.Instance.{guarded_conclusion, Instance}
use Rattle.eo_rule.specs.Derivability.{IsRuleOf, Derives, by_rule, by_discharge}
use Rattle.eo_cert.specs.Traces.{of_option}
use Rattle.eo_lines.specs.Lines.{StepLine}
use Rattle.eo_cert.specs.Stated.{Context, Stated, signature, assertions, each, term_at, terms_at, context_at, derivation_at, reaches, in_force, with_derivation, without_block}
use Rattle.eo_cert.specs.Assignments.{assigned, given}
use Rattle.eo_cert.specs.Blocks.{same_outcome, ended}
use Rattle.eo_cert.specs.Uses.{is_formula, fits_rule, Place, is_first, place_of, premise, step_line}
use Rattle.eo_cert.proofs.Runs.{all_fresh}
use Rattle.eo_cert.proofs.Chains.{some_then, when_then, at_none, Of, of_each}
use Rattle.eo_cert.proofs.BlockSound.{Holds, ended_runs, same_outcome_is}
use Rattle.eo_cert.proofs.InstanceSound.{formula_is, instance_of}
use Rattle.eo_cert.proofs.ContextSound.{derivation_right, reached}
use Rattle.eo_cert.proofs.Right.{IsFormula, IsInside, IsRight}

-- ---- the place of the premises

-- the premises are in the context of the conclusion, or in one inside it whose assumption is discharged
abbrev Serves : Signature → (outer inner : Context) → Option Tree → Type 0
Serves S outer inner None = inner ≡ outer
Serves S outer inner (Some t) = (inner.assumed ≡ t ∷ outer.assumed) × IsFormula S t

abbrev IsPlace : Stated → ℕ → Place → Type 0
IsPlace st c place =
    (outer : Context) × (context_at st c ≡ Some outer) × (context_at st place.number ≡ Some place.context) × Serves (signature st) outer place.context place.hypothesis

inside_serves : (st : Stated) (c x : ℕ) (context : Context) (t : Tree) → context_at st x ≡ Some context → (cs : List ℕ) (ts : List Tree) → IsInside st.contexts (signature st) cs ts → context ≡ record { outer = cs; assumed = ts } → is_first c cs ≡ true → slice_get ts 0 ≡ Some t → IsPlace st c (record { number = x; context = context; hypothesis = Some t })
inside_serves st c x context t at [] ts h e is found = clash is
inside_serves st c x context t at (d ∷ cs) [] h e is found = absurd h
inside_serves st c x context t at (d ∷ cs) (u ∷ ts) h e is found =
    let same = same_Some u t found in
    let number = eqb-true c d is in (
      record { outer = cs; assumed = ts },
      subst (λ (k : ℕ). context_at st k ≡ Some (record { outer = cs; assumed = ts })) (sym number) h.0,
      at,
      (ap (λ (y : Context). y.assumed) e ∙ ap (λ (v : Tree). v ∷ ts) same, subst (IsFormula (signature st)) same h.1),
    )

place_is : (st : Stated) (c : ℕ) (inner : Option ℕ) (place : Place) → IsRight st → place_of st c inner ≡ Some place → IsPlace st c place
place_is st c None place h e =
    let context = some_then (context_at st c) _ place e in
    subst (IsPlace st c) (same_Some (record { number = c; context = context.0; hypothesis = None }) place context.2) (context.0, context.1, context.1, refl)
place_is st c (Some x) place h e =
    let context = some_then (context_at st x) _ place e in
    let w = when_then (is_first c context.0.outer) _ place context.2 in
    let t = some_then (slice_get context.0.assumed 0) _ place w.1 in
    subst (IsPlace st c) (same_Some (record { number = x; context = context.0; hypothesis = Some t.0 }) place t.2)
    (inside_serves st c x context.0 t.0 context.1 context.0.outer context.0.assumed (h.contexts x context.0 context.1) refl w.0 t.1)

-- ---- premises

of_contains : {A : Type 0} (P : A → Type 0) (xs : List A) → Of P xs → (x : A) → Contains xs x → P x
of_contains {A} P xs h x c = by xs h c.0 c.1 c.2
  where
    by : (xs : List A) → Of P xs → (k : ℕ) → k < length xs → slice_index_or xs k x ≡ x → P x
    by [] h k l e = absurd (omega (arith, l))
    by (y ∷ ys) h zero l e = subst P e h.0
    by (y ∷ ys) h (suc k) l e = by ys h.1 k (omega (arith, l)) e

premise_derives : (st : Stated) (place : Place) → IsRight st → context_at st place.number ≡ Some place.context → (n : ℕ) (t : Tree) → premise st place n ≡ Some t → Derives (signature st) (in_force st place.context) t
premise_derives st place h at n t e =
    let d = some_then (derivation_at st n) _ t e in
    let w = when_then (reaches place.number place.context d.0.context) _ t d.2 in
    subst (Derives (signature st) (in_force st place.context)) (same_Some d.0.formula t w.1)
    (reached st place.number place.context d.0 h at w.0 (h.derivations n d.0 d.1))

-- ---- the conclusion

rule_derives : (S : Signature) (Γ : List Tree) (outer inner : Context) (hypothesis : Option Tree) → Serves S outer inner hypothesis → (rule : Rule) (premises arguments : List Tree) (formula : Tree) → IsRuleOf S S rule → Instance S rule hypothesis premises arguments formula → ((t : Tree) → Contains premises t → Derives S (inner.assumed ++ Γ) t) → Derives S (outer.assumed ++ Γ) formula
rule_derives S Γ outer inner None same rule premises arguments formula is instance each =
    by_rule S rule premises arguments is instance (λ t c. subst (λ (x : Context). Derives S (x.assumed ++ Γ) t) same (each t c))
rule_derives S Γ outer inner (Some h) serves rule premises arguments formula is instance each =
    by_discharge S rule h premises arguments is serves.1.0 serves.1.1 instance (λ t c. subst (λ (ts : List Tree). Derives S (ts ++ Γ) t) serves.0 (each t c))

-- a tree that ends so, within the limits
ended_value : (st : Stated) → IsRight st → (t : Tree) (line : Option ℕ) (r : Option Tree × ℕ) (formula : Tree) → is_tall t ≡ false → ended st t line ≡ Some r → same_outcome r.0 (Some formula) ≡ true → nat_le r.1 open_calls_limit ≡ true → eval0 (signature st) t ≡ Value formula
ended_value st h t line r formula low e same deep =
    let runs = ended_runs (signature st) calls_limit st st.calls st.calls (λ x is. is) h.few h.block t line r low e open_calls_limit (leb-true r.1 open_calls_limit deep) in
    ap (λ (x : Ended Tree). x.0) (runs [] (all_fresh st.calls)).1 ∙ ap of_option (same_outcome_is r.0 (Some formula) same)

left_right : (st : Stated) → IsRight st → IsRight (without_block st)
left_right st h = record {
  low = h.low;
  few = omega arith;
  block = at_none (Holds (signature st) calls_limit []);
  checked = h.checked;
  first = h.first;
  contexts = h.contexts;
  derivations = h.derivations;
}

pub step_right : (st new : Stated) (line : StepLine) → IsRight st → step_line st line ≡ Some new → IsRight new
unfolding step_line
step_right st new line h e =
    let S : Signature = signature st in
    let place = some_then (place_of st line.context line.inner) _ new e in
    let rule = some_then (rule_at S line.rule) _ new place.2 in
    let premises = some_then (each (premise st place.0) line.premises) _ new rule.2 in
    let arguments = some_then (terms_at st line.arguments) _ new premises.2 in
    let qs = some_then (given st line.pairs) _ new arguments.2 in
    let guarded = some_then (term_at st line.guarded) _ new qs.2 in
    let formula = some_then (term_at st line.formula) _ new guarded.2 in
    let may = when_then (not rule.0.sorry && list_all is_value arguments.0) _ new formula.2 in
    let fits = when_then (fits_rule S rule.0 place.0.hypothesis premises.0 arguments.0 qs.0) _ new may.1 in
    let same = when_then (tree_eq guarded.0 (put (assigned qs.0) (guarded_conclusion rule.0))) _ new fits.1 in
    let r = some_then (ended st guarded.0 line.line) _ new same.1 in
    let value = when_then (same_outcome r.0.0 (Some formula.0) && nat_le r.0.1 open_calls_limit) _ new r.2 in
    let typed = when_then (is_formula S formula.0) _ new value.1 in
    let ends = and_parts (same_outcome r.0.0 (Some formula.0)) (nat_le r.0.1 open_calls_limit) value.0 in
    let low = h.low line.guarded guarded.0 guarded.1 in
    let at = place_is st line.context line.inner place.0 h place.1 in
    let is : Instance S rule.0 place.0.hypothesis premises.0 arguments.0 formula.0 =
    (assigned qs.0, instance_of S rule.0 place.0.hypothesis premises.0 arguments.0 qs.0 guarded.0 formula.0 fits.0 low ((tree_decides guarded.0 (put (assigned qs.0) (guarded_conclusion rule.0))).0 same.0) (ended_value st h guarded.0 line.line r.0 formula.0 low r.1 ends.0 ends.1) (formula_is S formula.0 typed.0).1) in
    let P : Tree → Type 0 = Derives S (in_force st place.0.context) in
    let sub : (t : Tree) → Contains premises.0 t → P t = of_contains P premises.0 (of_each P (premise st place.0) (premise_derives st place.0 h at.2) line.premises premises.0 premises.1) in
    let declared : IsRuleOf S S rule.0 = record { number = line.rule; is_stage = ([], sym (append-nil S)); declared = rule.1; no_sorry = not-true rule.0.sorry (and_parts (not rule.0.sorry) (list_all is_value arguments.0) may.0).0 } in
    subst IsRight (same_Some (without_block (with_derivation st line.context formula.0)) new typed.1)
    (left_right (with_derivation st line.context formula.0) (derivation_right st line.context formula.0 at.0 h at.1
    (rule_derives S (assertions st) at.0 place.0.context place.0.hypothesis at.3 rule.0 premises.0 arguments.0 formula.0 declared is sub)))
