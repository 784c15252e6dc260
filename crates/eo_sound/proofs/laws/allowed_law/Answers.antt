use Rattle.eo_sound.proofs.RulesNamed.{step_named}
use Rattle.eo_sound.proofs.Soundness.{first_sound, begin_sound, step_sound, end_derives}
use Rattle.eo_sound.proofs.laws.allowed_law.Goals as goal

pub returns-clause-first : goal.returns-clause-first
returns-clause-first c = first_sound

pub returns-clause-begin : goal.returns-clause-begin
returns-clause-begin c = begin_sound

pub returns-clause-command : goal.returns-clause-command
returns-clause-command c = λ allowed. step_sound allowed c.layers_law.ensures

pub returns-clause-end : goal.returns-clause-end
returns-clause-end c = λ allowed. end_derives allowed c.layers_law.ensures

pub returns-clause-names : goal.returns-clause-names
returns-clause-names c = step_named
