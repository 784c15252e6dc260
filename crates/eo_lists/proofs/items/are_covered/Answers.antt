use Rattle.std.proofs.Common.{nat_le, rules}
use Rattle.std.proofs.lemmas.Iterator.{YieldsList-from_slice}
use Rattle.std.proofs.lemmas.Iterator.Search.{all_from_yields_List}
use Rattle.eo_lists.specs.Parts.{counted}
use Rattle.eo_lists.proofs.items.are_covered.Goals as goal

pub returns : goal.returns
returns c =
    all_from_yields_List (λ i. nat_le (counted c.args.here.now i) (counted c.args.there.now i)) _ _ c.all.result c.all.ensures.ran
    (YieldsList-from_slice c.args.items.now c.iter.ensures.rest) (λ x b q called. (search rules, search rules))
