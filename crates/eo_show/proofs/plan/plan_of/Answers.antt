use Rattle.std.proofs.Common.{ap, ◌∙◌}
use Rattle.eo_sig.specs.Reading.{signature, macros}
use Rattle.eo_show.specs.Numbers.{numbers_from}
use Rattle.eo_show.proofs.NumberedLines.{all-live}
use Rattle.eo_show.proofs.plan.plan_of.Goals as goal

pub count_places-requires-clause-parts : goal.count_places-requires-clause-parts
count_places-requires-clause-parts c =
    let t = c.args.table.now in
    all-live (signature t.trees c.args.sig.now) t c.args.members.found.keys c.args.members.forms.items c.requires.forms

pub returns-clause-numbers : goal.returns-clause-numbers
returns-clause-numbers c =
    let ts = c.args.table.now.trees in
    λ u e. c.in_ok-numbers.ensures ts ∙ ap (numbers_from (signature ts c.args.sig.now) (macros ts c.args.sig.now) 1) (c.as_slice-2.ensures.value ∙ c.in_ok-wants.ensures u e)
