-- The rules that commands use.
use Rattle.std.specs.Prelude.{◌≡◌, ℕ, Bool, true, List, Option, Some, None, Ok, Err}
use Rattle.std.specs.Option.{option_map_or}
use Rattle.eo_base.specs.Checks.{Checked}
use Rattle.eo_sexp.specs.Sexp.{Sexp}
use Rattle.eo_shape.specs.Shapes.{Command, Step, StepPop, command_of}
use Rattle.eo_session.specs.Origin.{Origin}
use Rattle.eo_session.specs.Step.{is_in_reference}
use Rattle.eo_sig.specs.Signature.{Signature, Rule, rule_at}

-- the name of the rule that a command uses, if it is a step
abbrev pub rule_used : Command → Option (List ℕ)
rule_used (Step shape) = Some shape.rule
rule_used (StepPop shape) = Some shape.rule
rule_used command = None

abbrev pub used_by : Checked Command → Option (List ℕ)
used_by (Ok command) = rule_used command
used_by (Err fault) = None

-- the same of a command as it is read
abbrev pub sexp_rule : Origin → Sexp → Option (List ℕ)
sexp_rule from s = used_by (command_of (is_in_reference from) s)

-- whether the rule, if there is one, passes the test
abbrev pub may_use : (List ℕ → Bool) → Option (List ℕ) → Bool
may_use allowed name = option_map_or allowed name true

-- A rule of this name is declared.
pub record IsRuleName (S : Signature) (name : List ℕ) : Type 0 where
  pub number : ℕ
  pub rule : Rule
  pub declared : rule_at S number ≡ Some rule
  pub same : name ≡ rule.name
