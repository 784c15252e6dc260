-- A line that names an instance of a rule, its premises and the evaluation of its conclusion is accepted.
use Rattle.std.specs.Prelude.{◌≡◌, ℕ, ◌≤◌, true, false, not, ◌&&◌, nat_le, List, Some, refl}
use Rattle.std.specs.List.{list_all}
use Rattle.std.proofs.Common.{sym, ◌∙◌, ap}
use Rattle.std.proofs.lemmas.Bool.{le-leb}
use Rattle.eo_base.proofs.Tests.{join}
use Rattle.eo_base.specs.Limits.{open_calls_limit}
use Rattle.eo_term.specs.Tree.{Tree, bool_tree, is_value, tree_eq}
use Rattle.eo_term.proofs.Equality.{tree_decides}
use Rattle.eo_sig.specs.Signature.{Signature, Rule, rule_at}
use Rattle.eo_sig.specs.Usable.{IsUsable}
use Rattle.eo_pattern.specs.Matching.{Assignment, put}
use Rattle.eo_type.specs.Types.{type_of}
use Rattle.eo_stack.specs.Evaluation.{Value, eval0}
use Rattle.eo_rule.specs.Instance.{guarded_conclusion}
use Rattle.eo_lines.specs.Lines.{StepLine}
use Rattle.eo_cert.specs.Stated.{Stated, signature, each, term_at, terms_at, with_derivation, without_block}
use Rattle.eo_cert.specs.Assignments.{Given, assigned, given}
use Rattle.eo_cert.specs.Blocks.{same_outcome, ended}
use Rattle.eo_cert.specs.Accepting.{AcceptsStep}
use Rattle.eo_cert.specs.Uses.{is_formula, fits_rule, Place, place_of, premise, step_line}
use Rattle.eo_cert.proofs.Accepted.{some_step, when_step}
use Rattle.eo_cert.proofs.InstanceFits.{outcome_same, gives_typed, instance_fits}

step_accepted : (st : Stated) (line : StepLine) (place : Place) (rule : Rule) (premises arguments : List Tree) (qs : Given) (guarded formula : Tree) (d : ℕ) → place_of st line.context line.inner ≡ Some place → rule_at (signature st) line.rule ≡ Some rule → each (premise st place) line.premises ≡ Some premises → terms_at st line.arguments ≡ Some arguments → given st line.pairs ≡ Some qs → term_at st line.guarded ≡ Some guarded → term_at st line.formula ≡ Some formula → rule.sorry ≡ false → list_all is_value arguments ≡ true → fits_rule (signature st) rule place.hypothesis premises arguments qs ≡ true → guarded ≡ put (assigned qs) (guarded_conclusion rule) → ended st guarded line.line ≡ Some (Some formula, d) → d ≤ open_calls_limit → is_formula (signature st) formula ≡ true → step_line st line ≡ Some (without_block (with_derivation st line.context formula))
unfolding step_line
step_accepted st line place rule premises arguments qs guarded formula d p r ps xs g w f sorry values fits is end deep typed =
    some_step (place_of st line.context line.inner) _ place p
    ∙ (some_step (rule_at (signature st) line.rule) _ rule r
    ∙ (some_step (each (premise st place) line.premises) _ premises ps
    ∙ (some_step (terms_at st line.arguments) _ arguments xs
    ∙ (some_step (given st line.pairs) _ qs g
    ∙ (some_step (term_at st line.guarded) _ guarded w
    ∙ (some_step (term_at st line.formula) _ formula f
    ∙ (when_step (not rule.sorry && list_all is_value arguments) _ (join (ap not sorry) values)
    ∙ (when_step (fits_rule (signature st) rule place.hypothesis premises arguments qs) _ fits
    ∙ (when_step (tree_eq guarded (put (assigned qs) (guarded_conclusion rule))) _ ((tree_decides guarded (put (assigned qs) (guarded_conclusion rule))).1 is)
    ∙ (some_step (ended st guarded line.line) _ (Some formula, d) end
    ∙ (when_step (same_outcome (Some formula) (Some formula) && nat_le d open_calls_limit) _ (join (outcome_same (Some formula) (Some formula) refl) (le-leb d open_calls_limit deep))
    ∙ when_step (is_formula (signature st) formula) _ typed)))))))))))

pub accepts_step : ((S : Signature) (t v : Tree) → IsUsable S → eval0 S t ≡ Value v → is_value v ≡ true) → AcceptsStep
accepts_step values st line rule place premises arguments σ formula usable n is =
    step_accepted st line place rule premises arguments n.pairs (put σ (guarded_conclusion rule)) formula n.depth n.is_place n.is_rule n.are_premises n.are_arguments n.are_pairs n.is_guarded n.is_formula n.proved n.values
    (instance_fits (signature st) rule place.hypothesis premises arguments formula σ n.pairs is n.assigns)
    (ap (λ (τ : Assignment). put τ (guarded_conclusion rule)) (sym n.assigns)) n.ends n.shallow
    (join (values (signature st) (put σ (guarded_conclusion rule)) formula usable is.concludes)
    (gives_typed (type_of (signature st) formula) bool_tree _ is.is_formula ((tree_decides bool_tree bool_tree).1 refl)))
