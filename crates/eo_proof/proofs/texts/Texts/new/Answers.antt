use Rattle.eo_proof.proofs.Ends.{first-texts, first-ends}
use Rattle.eo_proof.proofs.texts.Texts.new.Goals as goal

pub invariant_of-result : goal.invariant_of-result
invariant_of-result c = first-ends c.new.result.items c.new-2.result.items c.new.ensures.items c.new-2.ensures.items

pub returns : goal.returns
returns c = first-texts c.new.result.items c.new-2.result.items c.new-2.ensures.items
