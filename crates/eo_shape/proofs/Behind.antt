-- A rule and a step by the parts that are first.
use Rattle.std.proofs.Common.{◌≡◌, ℕ, true, false, List, [], ◌∷◌, Option, None, Some, ap, sym, ◌∙◌}
use Rattle.std.proofs.lemmas.Option.{same_Some}
use Rattle.std.specs.Prelude.{option_map, option_and_then, codes, if◌then◌else◌}
use Rattle.eo_sexp.specs.Pairs.{first_two}
use Rattle.eo_sexp.specs.Sexp.{Sexp}
use Rattle.eo_shape.specs.Shapes.{Command, DeclareRule, ParameterShape, StepShape, is_keyword, parameters_of, rule_of, declare_rule, symbols_of, premise_names, step_with, step_by_rule}
use Rattle.eo_shape.specs.Words.{symbol_of}

abbrev named_rule : Option (List ℕ) → Option (List ParameterShape) → List Sexp → Option Command
named_rule o p rest = option_and_then (λ name. option_and_then (λ parameters. option_map DeclareRule (rule_of name parameters rest)) p) o

abbrev Three : Type 0
Three = Sexp × Sexp × List Sexp

pub rule-behind : (parts : List Sexp) (s ps : Sexp) (rest : List Sexp) (name : List ℕ) (parameters : List ParameterShape) → Some (s, ps, rest) ≡ first_two parts
    → symbol_of s ≡ Some name → parameters_of ps ≡ Some parameters → declare_rule parts ≡ option_map DeclareRule (rule_of name parameters rest)
rule-behind [] s ps rest name parameters e f g = absurd cc
rule-behind (x ∷ []) s ps rest name parameters e f g = absurd cc
rule-behind (x ∷ y ∷ zs) s ps rest name parameters e f g =
    let same : (x, y, zs) ≡ (s, ps, rest) = sym (same_Some (s, ps, rest) (x, y, zs) e) in
    ap (λ (q : Three). named_rule (symbol_of q.0) (parameters_of q.1) q.2) same
    ∙ ap (λ o. named_rule o (parameters_of ps) rest) f
    ∙ ap (λ p. named_rule (Some name) p rest) g

abbrev named_step : List ℕ → Option Sexp → Option (List ℕ) → List Sexp → Option StepShape
named_step name stated o rest = option_and_then (λ rule. step_with name stated rule rest) o

pub step-behind : (name : List ℕ) (stated : Option Sexp) (parts : List Sexp) (k r : Sexp) (rest : List Sexp) (rule : List ℕ) → Some (k, r, rest) ≡ first_two parts
    → is_keyword (codes ":rule") k ≡ true → symbol_of r ≡ Some rule → step_by_rule name stated parts ≡ step_with name stated rule rest
step-behind name stated [] k r rest rule e f g = absurd cc
step-behind name stated (x ∷ []) k r rest rule e f g = absurd cc
step-behind name stated (x ∷ y ∷ zs) k r rest rule e f g =
    let same : (x, y, zs) ≡ (k, r, rest) = sym (same_Some (k, r, rest) (x, y, zs) e) in
    ap (λ (q : Three). if is_keyword (codes ":rule") q.0 then named_step name stated (symbol_of q.1) q.2 else None) same
    ∙ ap (λ b. if b then named_step name stated (symbol_of r) rest else None) f
    ∙ ap (λ o. named_step name stated o rest) g

pub no_premises : (parts : List Sexp) (k l : Sexp) (rest : List Sexp) → Some (k, l, rest) ≡ first_two parts → is_keyword (codes ":premises") k ≡ false → premise_names parts ≡ Some ([], parts)
no_premises [] k l rest e f = absurd cc
no_premises (x ∷ []) k l rest e f = absurd cc
no_premises (x ∷ y ∷ zs) k l rest e f =
    let same : (x, y, zs) ≡ (k, l, rest) = sym (same_Some (k, l, rest) (x, y, zs) e) in
    ap (λ b. if b then option_map (λ xs. (xs, zs)) (symbols_of y) else Some ([], x ∷ y ∷ zs)) (ap (λ (q : Three). is_keyword (codes ":premises") q.0) same ∙ f)
