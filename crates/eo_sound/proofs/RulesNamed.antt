-- The rule that an accepted step names is declared.
use Rattle.std.specs.Prelude.{◌≡◌, ◌<◌, ℕ, zero, suc, List, [], ◌∷◌, length, Option, Some, None, position, slice_get, bytes_eq, Ok, refl}
use Rattle.std.proofs.Common.{sym, ◌∙◌, ap, subst, arith}
use Rattle.std.proofs.lemmas.List.Quantifiers.{position-Some}
use Rattle.std.proofs.lemmas.Option.{none-some, same_Some}
use Rattle.eo_base.proofs.ChecksLemmas.{bind_ok, require_then}
use Rattle.eo_sexp.specs.Sexp.{Sexp}
use Rattle.eo_shape.specs.Shapes.{Command, Step, StepPop, StepShape}
use Rattle.eo_session.specs.Commands.{by_command, scoped_command, placed_command, uncounted, step}
use Rattle.eo_session.specs.Origin.{Origin}
use Rattle.eo_session.specs.State.{State}
use Rattle.eo_session.specs.Step.{Concluded, concluded, step_plain, step_pop}
use Rattle.eo_session.specs.declared.Next.{Next}
use Rattle.eo_sig.specs.Signature.{Signature, Rule, rules, rule_named}
use Rattle.eo_sound.proofs.SoundSteps.{step_parts, named_so}
use Rattle.eo_sound.specs.RulesUsed.{rule_used, used_by, sexp_rule, IsRuleName}
use Rattle.eo_term.specs.Tree.{Tree}

at_place : (rs : List Rule) (i : ℕ) → i < length rs → (r : Rule) × (slice_get rs i ≡ Some r)
at_place [] i lt = absurd (omega (arith, lt))
at_place (r ∷ rs) zero lt = (r, refl)
at_place (r ∷ rs) (suc i) lt = at_place rs i (omega (arith, lt))

-- the rule that a name means
is_rule_name : (S : Signature) (name : List ℕ) (n : ℕ) → rule_named S name ≡ Some n → IsRuleName S name
is_rule_name S name n e =
    by (rules S) refl
  where
    by : (rs : List Rule) → rs ≡ rules S → IsRuleName S name
    by [] same = absurd (none-some n (subst (λ (rs : List Rule). position (λ (r : Rule). bytes_eq name r.name) rs ≡ Some n) (sym same) e))
    by (d ∷ rs) same =
        let within = (position-Some (λ (r : Rule). bytes_eq name r.name) (rules S) n d e).0 in
        let r = at_place (rules S) n within in
        record { number = n; rule = r.0; declared = r.1; same = named_so name (rules S) n r.0 e r.1 }

step_rule_named : (st : State) (discharged : Option Tree) (s : StepShape) (k : Concluded) (name : List ℕ) → concluded st discharged s ≡ Ok k → Some s.rule ≡ Some name → IsRuleName st.signature name
step_rule_named st discharged s k name e is =
    let p = step_parts st discharged s k e in
    subst (λ (n : List ℕ). IsRuleName st.signature n) (same_Some s.rule name is) (is_rule_name st.signature s.rule p.number p.named)

module _ (st : State) (from : Origin) where
  command_named : (command : Command) (new : State) (name : List ℕ) → by_command st from command ≡ Ok new → rule_used command ≡ Some name → IsRuleName st.signature name
  unfolding step_plain step_pop
  command_named (Step s) new name e is =
      let free = require_then _ _ _ new e in
      let k = bind_ok (concluded st None s) _ new free.1 in
      step_rule_named st None s k.0 name k.1 is
  command_named (StepPop s) new name e is =
      let a = bind_ok _ _ new e in
      let free = require_then _ _ _ new a.2 in
      let k = bind_ok (concluded st (Some a.0) s) _ new free.1 in
      step_rule_named st (Some a.0) s k.0 name k.1 is
  command_named command new name e is = absurd (none-some name is)

  -- an accepted step names a rule that is declared
  pub step_named : (s : Sexp) (r : State × Next) (name : List ℕ) → step st from s ≡ Ok r → sexp_rule from s ≡ Some name → IsRuleName st.signature name
  unfolding step uncounted placed_command scoped_command
  step_named s r name e is =
      let k = bind_ok (uncounted st from s) _ r e in
      let command = bind_ok _ _ k.0 k.1 in
      let new = bind_ok _ _ k.0 command.2 in
      let top = require_then _ _ _ new.0 new.1 in
      command_named command.0 new.0 name top.1 (sym (ap used_by command.1) ∙ is)
