-- Where nothing is stated yet.
use Rattle.std.proofs.Common.{◌≡◌, refl, ℕ, ◌≤◌, ◌^◌, false, List, [], All, Some, sym, subst}
use Rattle.std.proofs.lemmas.List.Elements.{All-nil}
use Rattle.eo_sig.specs.Signature.{Program, Rule, program_at, rule_at, first_signature}
use Rattle.eo_session.specs.State.{first_state}
use Rattle.eo_stated.specs.Sizes.{HasFewParts}

pub all_none : {X : Type 0} (P : X → Type 0) (xs : List X) → xs ≡ [] → All P xs
all_none P xs e = subst (All P) (sym e) (All-nil P)

-- no program and no rule stands first
no_program : (k : ℕ) (p : Program) → program_at first_signature k ≡ Some p → {A : Type 0} → A
no_program k p e = cc

no_rule : (k : ℕ) (r : Rule) → rule_at first_signature k ≡ Some r → {A : Type 0} → A
no_rule k r e = cc

pub first_parts : HasFewParts first_signature
first_parts = record {
  cases = λ k p e. no_program k p e;
  patterns = λ k p e n c f i h. no_program k p e;
  solved = λ k r e i h. no_rule k r e;
}

pub first_declared : first_signature ≡ (first_state false).signature
unfolding first_state
first_declared = refl

pub first_asserted : [] ≡ (first_state false).assertions
unfolding first_state
first_asserted = refl
