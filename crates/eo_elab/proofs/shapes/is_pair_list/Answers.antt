use Rattle.std.proofs.Common.{◌∙◌}
use Rattle.eo_elab.proofs.ShapeLemmas.{list_of_pairs}
use Rattle.eo_elab.proofs.shapes.is_pair_list.Goals as goal

pub returns-then-len-ne0 : goal.returns-then-len-ne0
returns-then-len-ne0 c = c.are_pairs.ensures ∙ list_of_pairs c.args.s.now c.children-pairs.result c.children-pairs.ensures (λ e. c.if-len-ne0.true (c.len.ensures.value ∙ e))
