-- What is noted of an accepted command whose rule keeps truth.
use Rattle.std.specs.Prelude.{◌≡◌, ℕ, Bool, true, false, not, List, Option, Some, None, Ok, unwrap_or, position, slice_get, bytes_eq, refl}
use Rattle.std.specs.Option.{option_map_or}
use Rattle.std.proofs.Common.{sym, ◌∙◌, ap, subst}
use Rattle.std.proofs.lemmas.Slice.Eq.{bytes_eq-Decides}
use Rattle.std.proofs.lemmas.List.Quantifiers.{position-Some}
use Rattle.std.proofs.lemmas.Option.{get_or_from_slice_get}
use Rattle.eo_base.proofs.ChecksLemmas.{bind_ok, ok_injective, require_then, value_or_ok}
use Rattle.eo_base.specs.declared.FaultName.TheVariants.{UnknownRule}
use Rattle.eo_run.specs.Seen.{act_by, act_decided, noted}
use Rattle.eo_sem.specs.Proving.{keeps_truth, uses_other}
use Rattle.eo_sem.specs.SemanticRules.{is_semantic}
use Rattle.eo_session.specs.Commands.{placed_command, uncounted, step}
use Rattle.eo_session.specs.Decisions.{AreDecidedPlaced, decided, scoped_decision, placed_decision}
use Rattle.eo_session.specs.Effects.{Effect}
use Rattle.eo_session.specs.Notes.{Act, act_of}
use Rattle.eo_session.specs.Origin.{Origin}
use Rattle.eo_session.specs.State.{State}
use Rattle.eo_session.specs.Step.{Concluded, concluded, is_in_reference}
use Rattle.eo_session.specs.declared.Next.{Next}
use Rattle.eo_sexp.specs.Sexp.{Sexp}
use Rattle.eo_shape.specs.Shapes.{Command, Step, StepPop, StepShape, command_of}
use Rattle.eo_sig.specs.Signature.{Signature, Rule, rules, rule_named}
use Rattle.eo_sound.specs.RulesUsed.{may_use, rule_used, used_by, sexp_rule}
use Rattle.eo_term.specs.Tree.{Tree}

-- ---- a rule that keeps truth

-- the rule that a name means has this name
named_so : (name : List ℕ) (rs : List Rule) (n : ℕ) (r : Rule) → position (λ (r : Rule). bytes_eq name r.name) rs ≡ Some n → slice_get rs n ≡ Some r → name ≡ r.name
named_so name rs n r e at =
    (bytes_eq-Decides name r.name).0 (subst (λ (x : Rule). bytes_eq name x.name ≡ true) (get_or_from_slice_get rs n r r at) (position-Some (λ (r : Rule). bytes_eq name r.name) rs n r e).1)

named_semantic : (S : Signature) (name : List ℕ) (n : ℕ) → rule_named S name ≡ Some n → keeps_truth S n ≡ true → is_semantic name ≡ true
named_semantic S name n e keeps =
    by (slice_get (rules S) n) refl keeps
  where
    by : (o : Option Rule) → slice_get (rules S) n ≡ o → option_map_or (λ (rule : Rule). is_semantic rule.name) o false ≡ true → is_semantic name ≡ true
    by None at h = absurd (cc h)
    by (Some r) at h = subst (λ (x : List ℕ). is_semantic x ≡ true) (sym (named_so name (rules S) n r e at)) h

kept : (b : Bool) → not b ≡ false → b ≡ true
kept true e = refl
kept false e = absurd (cc e)

-- ---- an accepted command

module _ (st : State) (from : Origin) where
  -- a step whose rule's number is that of a rule that keeps truth
  concluded_semantic : (assumed : Option Tree) (s : StepShape) (k : Concluded) → concluded st assumed s ≡ Ok k → not (keeps_truth st.signature (unwrap_or (rule_named st.signature s.rule) 0)) ≡ false → is_semantic s.rule ≡ true
  unfolding concluded
  concluded_semantic assumed s k e other =
      let n = bind_ok _ _ k e in
      let named = value_or_ok UnknownRule (rule_named st.signature s.rule) n.0 n.1 in
      named_semantic st.signature s.rule n.0 named
      (kept _ (subst (λ (o : Option ℕ). not (keeps_truth st.signature (unwrap_or o 0)) ≡ false) named other))

  command_semantic : (command : Command) (e : Effect) → decided st from command ≡ Ok e → uses_other st.signature (act_of st command e) ≡ false → may_use is_semantic (rule_used command) ≡ true
  command_semantic (Step s) e d other =
      let free = require_then _ _ _ e d in
      let k = bind_ok (concluded st None s) _ e free.1 in
      concluded_semantic None s k.0 k.1
      (subst (λ (x : Effect). uses_other st.signature (act_of st (Step s) x) ≡ false) (sym (ok_injective _ e k.2)) other)
  command_semantic (StepPop s) e d other =
      let a = bind_ok _ _ e d in
      let free = require_then _ _ _ e a.2 in
      let k = bind_ok (concluded st (Some a.0) s) _ e free.1 in
      concluded_semantic (Some a.0) s k.0 k.1
      (subst (λ (x : Effect). uses_other st.signature (act_of st (StepPop s) x) ≡ false) (sym (ok_injective _ e k.2)) other)
  command_semantic command e d other = refl

  -- Where what is noted is no step by another rule, the command uses none, or one that keeps truth.
  pub noted_semantic : AreDecidedPlaced → (s : Sexp) (r : State × Next) → step st from s ≡ Ok r → uses_other st.signature (noted st from s) ≡ false → may_use is_semantic (sexp_rule from s) ≡ true
  unfolding step uncounted noted scoped_decision placed_decision
  noted_semantic as_decided s r e other =
      let u = bind_ok (uncounted st from s) _ r e in
      let c = bind_ok (command_of (is_in_reference from) s) (placed_command st from) u.0 u.1 in
      let d = bind_ok (placed_decision st from c.0) _ u.0 (sym (as_decided st from c.0) ∙ c.2) in
      let effect = bind_ok (scoped_decision st from c.0) _ d.0 d.1 in
      let what = bind_ok _ _ d.0 effect.2 in
      let fits = require_then _ _ _ effect.0 effect.1 in
      let same : effect.0 ≡ d.0.0 = ap (λ (x : Effect × Next). x.0) (ok_injective _ d.0 what.2) in
      let act : noted st from s ≡ act_of st c.0 effect.0 = ap (act_by st from) c.1 ∙ (ap (act_decided st c.0) d.1 ∙ ap (act_of st c.0) (sym same)) in
      subst (λ (o : Option (List ℕ)). may_use is_semantic o ≡ true) (sym (ap used_by c.1))
      (command_semantic c.0 effect.0 fits.1 (subst (λ (a : Act). uses_other st.signature a ≡ false) act other))
