use Rattle.std.proofs.Common.{ap, ◌∙◌}
use Rattle.eo_names.specs.Folding.{least}
use Rattle.eo_names.proofs.attributes.least_of.Goals as goal

pub returns : goal.returns
returns c = λ ts. c.least_count.ensures.value ts ∙ ap least (c.attribute_of.ensures.value ts)
