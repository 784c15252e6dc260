use Rattle.std.proofs.Common.{◌||◌, ◌&&◌, ◌+◌, sym, ap, ◌∙◌, drop, arith}
use Rattle.std.specs.List.{list_any}
use Rattle.std.specs.Prelude.{bytes_eq}
use Rattle.eo_sig.specs.Reading.{signature}
use Rattle.eo_sig.specs.Signature.{Constant, constants}
use Rattle.eo_declare.proofs.Referenced.{any_at, any_past}
use Rattle.eo_declare.proofs.constants.is_reference_constant.Goals as goal

pub loop-n-preserved : goal.loop-n-preserved
loop-n-preserved c = λ ts.
    let p = λ (d : Constant). bytes_eq c.args.name.now d.name && d.from_reference in
    let cs = constants (signature ts c.args.sig.now) in
    let here = any_at p cs c.loop-n.n _ (c.constant.ensures.value ts) in
    let not = sym c.is_referenced.ensures ∙ c.if-is_referenced.false in
    ap (λ b. b || list_any p (drop (c.loop-n.n + 1) cs)) (sym not) ∙ sym here ∙ c.loop-n.invariant ts

pub returns-then-is_referenced : goal.returns-then-is_referenced
returns-then-is_referenced c = λ ts.
    let p = λ (d : Constant). bytes_eq c.args.name.now d.name && d.from_reference in
    let cs = constants (signature ts c.args.sig.now) in
    let here = any_at p cs c.loop-n.n _ (c.constant.ensures.value ts) in
    let yes = sym c.is_referenced.ensures ∙ c.if-is_referenced.true in
    sym (ap (λ b. b || list_any p (drop (c.loop-n.n + 1) cs)) yes) ∙ sym here ∙ c.loop-n.invariant ts

pub returns : goal.returns
returns c = λ ts.
    let p = λ (d : Constant). bytes_eq c.args.name.now d.name && d.from_reference in
    let cs = constants (signature ts c.args.sig.now) in
    sym (any_past p cs c.loop-n.n (omega (arith, c.constants-n-end.ensures.value ts))) ∙ c.loop-n.invariant ts
