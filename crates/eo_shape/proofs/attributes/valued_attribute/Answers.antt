use Rattle.std.proofs.Common.{None, Some, sym, ◌∙◌}
use Rattle.std.specs.Prelude.{codes, if◌then◌else◌}
use Rattle.eo_shape.specs.Shapes.{RightNilShape, LeftNilShape, ChainShape, PairsShape, BinderShape, is_keyword}
use Rattle.eo_shape.proofs.attributes.valued_attribute.Goals as goal

pub returns-then-is_keyword-2 : goal.returns-then-is_keyword-2
returns-then-is_keyword-2 c =
    let k = c.args.keyword.now in
    let v = c.args.value in
    sym (λ i. if (sym c.is_keyword.ensures ∙ c.if-is_keyword.false) i then Some (RightNilShape v)
    else if (sym c.is_keyword-2.ensures ∙ c.if-is_keyword-2.true) i then Some (LeftNilShape v)
    else if is_keyword (codes ":chainable") k then Some (ChainShape v)
    else if is_keyword (codes ":pairwise") k then Some (PairsShape v)
    else if is_keyword (codes ":binder") k then Some (BinderShape v)
    else None)
