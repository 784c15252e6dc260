use Rattle.eo_sound.proofs.Closed.{step_closed, step_quiet}
use Rattle.eo_sound.proofs.Soundness.{any_may}
use Rattle.eo_sound.proofs.laws.commands_law.Goals as goal
use Rattle.eo_rule.specs.ByRules.{any_rule}
use Rattle.eo_sound.specs.RulesUsed.{sexp_rule}
use Rattle.eo_term.specs.Tree.{truth}
use Rattle.std.specs.Prelude.{false}

pub returns-clause-first : goal.returns-clause-first
returns-clause-first c = c.allowed_law.ensures.first any_rule

pub returns-clause-begin : goal.returns-clause-begin
returns-clause-begin c = c.allowed_law.ensures.begin any_rule

pub returns-clause-command : goal.returns-clause-command
returns-clause-command c = λ st from s r h e. c.allowed_law.ensures.command any_rule st from s r h (any_may (sexp_rule from s)) e

pub returns-clause-end : goal.returns-clause-end
returns-clause-end c = λ st h e proved. c.derivability_law.ensures.derives any_rule st.signature st.assertions (truth false) (c.allowed_law.ensures.end any_rule st h e proved)

pub returns-clause-closed : goal.returns-clause-closed
returns-clause-closed c = step_closed

pub returns-clause-quiet : goal.returns-clause-quiet
returns-clause-quiet c = step_quiet
