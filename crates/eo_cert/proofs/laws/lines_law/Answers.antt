use Rattle.eo_cert.proofs.Accepted.{accepts_evaluation, accepts_call, ends_untaken, ends_taken}
use Rattle.eo_cert.proofs.StepAccepted.{accepts_step}
use Rattle.eo_cert.proofs.laws.lines_law.Goals as goal

pub returns-clause-evaluation : goal.returns-clause-evaluation
returns-clause-evaluation c = accepts_evaluation

pub returns-clause-call : goal.returns-clause-call
returns-clause-call c = accepts_call

pub returns-clause-untaken : goal.returns-clause-untaken
returns-clause-untaken c = ends_untaken

pub returns-clause-taken : goal.returns-clause-taken
returns-clause-taken c = ends_taken

pub returns-clause-step : goal.returns-clause-step
returns-clause-step c = accepts_step c.values_law.ensures.whole
