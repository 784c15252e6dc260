use Rattle.std.proofs.Common.{Some, sym, ◌∙◌}
use Rattle.eo_shape.proofs.Behind.{no_premises}
use Rattle.eo_shape.proofs.steps.premises.Goals as goal

pub returns-then-not-is_keyword : goal.returns-then-not-is_keyword
returns-then-not-is_keyword c =
    let parts = sym c.in-Some.is ∙ c.split_two.ensures in
    let none = no_premises c.args.parts.now c.in-Some.keyword c.in-Some.list c.in-Some.rest parts (sym c.is_keyword.ensures ∙ c.if-not-is_keyword.true) in
    (λ i. Some (c.no_symbols-then-not-is_keyword.ensures i, c.again-then-not-is_keyword.ensures i)) ∙ sym none
