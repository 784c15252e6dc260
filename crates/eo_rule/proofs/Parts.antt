-- What a chain of checks that passes says of its parts.
use Rattle.std.specs.Prelude.{◌≡◌, ℕ, suc, true, false, not, List, [], ◌∷◌, Option, Some, None, option_map, option_to_list, Ok, refl}
use Rattle.std.proofs.Common.{◌∙◌, ap}
use Rattle.eo_base.specs.declared.FaultName.TheVariants.{IllTyped, PremiseMismatch, TermHeight, NotBool, ConclusionDiffers, UnknownRule}
use Rattle.eo_base.specs.Checks.{Passed, ◌>>=◌, require, value_or}
use Rattle.eo_base.proofs.ChecksLemmas.{bind_ok, ok_injective, require_ok, value_or_ok, err_is_not_ok}
use Rattle.eo_term.specs.Tree.{Tree, Con, bool_tree, is_tall, tree_eq}
use Rattle.eo_sig.specs.Signature.{Signature, Parameter, Rule, terminator, premise_patterns, rule_at}
use Rattle.eo_pattern.specs.Matching.{Assignment, empty, put, matching}
use Rattle.eo_lists.specs.Lists.{spell, list_by}
use Rattle.eo_type.specs.Types.{TypeOutcome, Typed, Untyped, TypeRange, TypeTall, settled, value_type}
use Rattle.eo_stack.specs.Evaluation.{Outcome, Value, Stuck, Deep, Calls, Range, Tall, eval0}
use Rattle.eo_eval.specs.Faults.{value_or_fault}
use Rattle.eo_rule.specs.Instance.{guarded_conclusion}
use Rattle.eo_rule.specs.Uses.{Use, typed_or, typed, joined, join_premises, match_use, matched, check_kind, check_value, check_type, check_types, conclude_value, check_formula, is_stated, check_stated, kind_conclusion, rule_conclusion, conclusion}
use Rattle.std.proofs.lemmas.Bool.{not-true}

typed_is : (o : TypeOutcome Tree) (t : Tree) → typed_or o ≡ Ok t → o ≡ Typed t
typed_is (Typed u) t e = ap Typed (ok_injective u t e)
typed_is Untyped t e = absurd (err_is_not_ok _ t e)
typed_is TypeRange t e = absurd (err_is_not_ok _ t e)
typed_is TypeTall t e = absurd (err_is_not_ok _ t e)

value_is : (o : Outcome Tree) (t : Tree) → value_or_fault o ≡ Ok t → o ≡ Value t
value_is (Value v) t e = ap Value (ok_injective v t e)
value_is Stuck t e = absurd (err_is_not_ok _ t e)
value_is Deep t e = absurd (err_is_not_ok _ t e)
value_is Calls t e = absurd (err_is_not_ok _ t e)
value_is Range t e = absurd (err_is_not_ok _ t e)
value_is Tall t e = absurd (err_is_not_ok _ t e)

map_some : (g : Tree → Tree) (o : Option Tree) (u : Tree) → option_map g o ≡ Some u → (n : Tree) × (o ≡ Some n) × (g n ≡ u)
map_some g None u e = cc e
map_some g (Some n) u e = (n, refl, cc e)

pub typed_parts : (S : Signature) (v t : Tree) → typed S v ≡ Ok t → value_type S v ≡ Typed t
unfolding typed
typed_parts S v t e = typed_is (value_type S v) t e

-- the premises, joined
pub joined_parts : (S : Signature) (f : ℕ) (ps : List Tree) (t : Tree) → joined S f ps ≡ Ok t → (n : Tree) × (terminator S f ≡ Some n) × (is_tall (spell (Con f) n ps) ≡ false) × (spell (Con f) n ps ≡ t)
unfolding joined
joined_parts S f ps t e =
    let a = bind_ok (value_or PremiseMismatch (list_by S f ps)) _ t e in
    let o = map_some (λ n. spell (Con f) n ps) (terminator S f) a.0 (value_or_ok PremiseMismatch (list_by S f ps) a.0 a.1) in
    let b = bind_ok (require (not (is_tall a.0)) TermHeight) _ t a.2 in
    let low = not-true (is_tall a.0) (require_ok (not (is_tall a.0)) TermHeight b.0 b.1) in
    (o.0, o.1, ap is_tall o.2 ∙ low, o.2 ∙ ok_injective a.0 t b.2)

pub list_parts : (S : Signature) (f : ℕ) (ps ts : List Tree) → (joined S f ps >>= λ t. Ok (t ∷ [])) ≡ Ok ts → (t : Tree) × (joined S f ps ≡ Ok t) × (t ∷ [] ≡ ts)
list_parts S f ps ts e = let a = bind_ok (joined S f ps) _ ts e in (a.0, a.1, ok_injective (a.0 ∷ []) ts a.2)

-- the three matches
pub record UseParts (r : Rule) (h : Option Tree) (ps xs : List Tree) (σ : Assignment) : Type 0 where
  pub first : Assignment
  pub second : Assignment
  pub of_assumption : matching empty (option_to_list r.assumed) (option_to_list h) ≡ Some first
  pub of_premises : matching first (premise_patterns r.premises) ps ≡ Some second
  pub of_arguments : matching second r.arguments xs ≡ Some σ

pub use_parts : (r : Rule) (h : Option Tree) (ps xs : List Tree) (σ : Assignment) → match_use r h ps xs ≡ Ok σ → UseParts r h ps xs σ
unfolding match_use
use_parts r h ps xs σ e =
    let a = bind_ok (value_or PremiseMismatch (matching empty (option_to_list r.assumed) (option_to_list h))) _ σ e in
    let b = bind_ok (value_or PremiseMismatch (matching a.0 (premise_patterns r.premises) ps)) _ σ a.2 in
    record {
      first = a.0;
      second = b.0;
      of_assumption = value_or_ok PremiseMismatch _ a.0 a.1;
      of_premises = value_or_ok PremiseMismatch _ b.0 b.1;
      of_arguments = value_or_ok PremiseMismatch _ σ b.2;
    }

-- the type of a parameter
pub record ValueParts (S : Signature) (σ : Assignment) (declared v : Tree) (τ : Assignment) : Type 0 where
  pub type : Tree
  pub expected : Tree
  pub has_type : value_type S v ≡ Typed type
  pub settles : settled (put σ declared) ≡ Typed expected
  pub matches : matching σ (expected ∷ []) (type ∷ []) ≡ Some τ

pub value_parts : (S : Signature) (σ : Assignment) (d v : Tree) (τ : Assignment) → check_value S σ d v ≡ Ok τ → ValueParts S σ d v τ
unfolding check_value
value_parts S σ d v τ e =
    let a = bind_ok (typed S v) _ τ e in
    let b = bind_ok (typed_or (settled (put σ d))) _ τ a.2 in
    record {
      type = a.0;
      expected = b.0;
      has_type = typed_parts S v a.0 a.1;
      settles = typed_is (settled (put σ d)) b.0 b.1;
      matches = value_or_ok IllTyped _ τ b.2;
    }

pub types_none : (S : Signature) (τ σ : Assignment) (i : ℕ) → check_types S τ i [] ≡ Ok σ → τ ≡ σ
unfolding check_types
types_none S τ σ i e = ok_injective τ σ e

pub types_parts : (S : Signature) (τ σ : Assignment) (i : ℕ) (p : Parameter) (ps : List Parameter) → check_types S τ i (p ∷ ps) ≡ Ok σ → (ρ : Assignment) × (check_types S τ (suc i) ps ≡ Ok ρ) × (check_type S ρ p.type (ρ i) ≡ Ok σ)
unfolding check_types
types_parts S τ σ i p ps e = bind_ok (check_types S τ (suc i) ps) _ σ e

-- the conclusion
pub conclude_parts : (S : Signature) (w t : Tree) → conclude_value S w ≡ Ok t → (is_tall w ≡ false) × (eval0 S w ≡ Value t)
unfolding conclude_value
conclude_parts S w t e =
    let a = bind_ok (require (not (is_tall w)) TermHeight) _ t e in
    (not-true (is_tall w) (require_ok (not (is_tall w)) TermHeight a.0 a.1), value_is (eval0 S w) t a.2)

pub formula_parts : (S : Signature) (t : Tree) (x : Passed) → check_formula S t ≡ Ok x → (u : Tree) × (value_type S t ≡ Typed u) × (tree_eq u bool_tree ≡ true)
unfolding check_formula
formula_parts S t x e =
    let a = bind_ok (typed S t) _ x e in
    (a.0, typed_parts S t a.0 a.1, require_ok (tree_eq a.0 bool_tree) NotBool x a.2)

pub stated_parts : (s : Option Tree) (t formula : Tree) → check_stated s t ≡ Ok formula → (is_stated s t ≡ true) × (t ≡ formula)
unfolding check_stated
stated_parts s t formula e =
    let a = bind_ok (require (is_stated s t) ConclusionDiffers) _ formula e in
    (require_ok (is_stated s t) ConclusionDiffers a.0 a.1, ok_injective t formula a.2)

-- all of them
pub record RuleParts (S : Signature) (r : Rule) (given : Use) (formula : Tree) : Type 0 where
  pub premises : List Tree
  pub first : Assignment
  pub last : Assignment
  pub value : Tree
  pub joins : join_premises S r.premises given.premises ≡ Ok premises
  pub matches : match_use r given.assumed premises given.arguments ≡ Ok first
  pub types : check_types S first 0 r.parameters ≡ Ok last
  pub concludes : conclude_value S (put last (guarded_conclusion r)) ≡ Ok value
  pub is_formula : check_formula S value ≡ Ok tt
  pub stated : check_stated given.stated value ≡ Ok formula

pub rule_parts : (S : Signature) (r : Rule) (given : Use) (formula : Tree) → rule_conclusion S r given ≡ Ok formula → RuleParts S r given formula
unfolding rule_conclusion kind_conclusion matched
rule_parts S r given formula e =
    let k = bind_ok (check_kind r.assumed given.assumed) _ formula e in
    let m = bind_ok (matched S r given) _ formula k.2 in
    let j = bind_ok (join_premises S r.premises given.premises) _ m.0 m.1 in
    let y = bind_ok (check_types S m.0 0 r.parameters) _ formula m.2 in
    let v = bind_ok (conclude_value S (put y.0 (guarded_conclusion r))) _ formula y.2 in
    let f = bind_ok (check_formula S v.0) _ formula v.2 in
    record { premises = j.0; first = m.0; last = y.0; value = v.0; joins = j.1; matches = j.2; types = y.1; concludes = v.1; is_formula = f.1; stated = f.2 }

pub conclusion_parts : (S : Signature) (n : ℕ) (given : Use) (formula : Tree) → conclusion S n given ≡ Ok formula → (r : Rule) × (rule_at S n ≡ Some r) × (rule_conclusion S r given ≡ Ok formula)
unfolding conclusion
conclusion_parts S n given formula e =
    let a = bind_ok (value_or UnknownRule (rule_at S n)) _ formula e in
    (a.0, value_or_ok UnknownRule (rule_at S n) a.0 a.1, a.2)
