use Rattle.std.proofs.Common.{◌∙◌, nat_le}
use Rattle.std.specs.List.{list_all}
use Rattle.eo_lists.proofs.items.is_included.Goals as goal

pub returns : goal.returns
returns c = c.are_covered.ensures ∙ (λ k. list_all (λ i. nat_le (c.in_ok-here.ensures i k) (c.in_ok-there.ensures i k)) c.args.wanted.now)
