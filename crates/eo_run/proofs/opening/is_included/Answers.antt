use Rattle.std.proofs.Common.{◌∙◌}
use Rattle.eo_run.proofs.opening.is_included.Goals as goal

pub returns : goal.returns
returns c = c.is_some.ensures ∙ c.find.ensures.there
