use Rattle.std.proofs.Common.{◌≡◌, Bool, true, true≢false, refl, false, not, ◌&&◌, sym, ◌∙◌}
use Rattle.std.specs.Prelude.{is_none}
use Rattle.eo_sig.specs.Signature as sig
use Rattle.eo_sig.proofs.signature.Signature.is_free_rule.Goals as goal

flip : (a b : Bool) → a ≡ not b → b ≡ not a
flip true true e = absurd (true≢false e)
flip true false e = refl
flip false true e = refl
flip false false e = absurd (true≢false (sym e))

pub returns-then-not-is_reserved : goal.returns-then-not-is_reserved
returns-then-not-is_reserved c = λ ts.
    let r : false ≡ sig.is_reserved c.args.name.now = sym c.if-not-is_reserved.true ∙ c.is_reserved.ensures in
    let e = c.rule.ensures.named ts in
    flip _ _ c.is_none.ensures ∙ (λ i. not (r i) && is_none (e i))
