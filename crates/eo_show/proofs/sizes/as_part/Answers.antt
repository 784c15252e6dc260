use Rattle.std.proofs.Common.{if◌then◌else◌, sym, ap, ◌∙◌}
use Rattle.eo_show.specs.Members.{stand_in}
use Rattle.eo_show.specs.Sizes.{size_of}
use Rattle.eo_show.proofs.FormLists.{stand_in-sized}
use Rattle.eo_show.proofs.sizes.as_part.Goals as goal

pub returns-then-has_line : goal.returns-then-has_line
returns-then-has_line c = stand_in-sized ∙ ap (λ b. if b then size_of stand_in else c.args.size) (sym c.if-has_line.true)
