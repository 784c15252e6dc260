use Rattle.std.proofs.Common.{◌≡◌, ◌&&◌, false, true, length, Some, None, sym, ap, ◌∙◌}
use Rattle.eo_sig.specs.Reading.{read_constant}
use Rattle.eo_sig.specs.Signature.{argument_types, constant_taking}
use Rattle.eo_session.specs.Store.{state_of}
use Rattle.eo_session.specs.Step.{is_plain, repeats}
use Rattle.eo_session.proofs.Adding.{repeats_by}
use Rattle.eo_session.proofs.store.Store.repeats_constant.Goals as goal

pub returns-then-not-is_plain : goal.returns-then-not-is_plain
returns-then-not-is_plain c =
    let h = c.args.self.now in
    let ts = h.table.trees in
    let d = read_constant ts c.args.d.now in
    sym (ap (λ b. b && repeats (state_of h) d (constant_taking (state_of h).signature d.name (length (argument_types d.type)))) (sym (c.is_plain.ensures ts) ∙ c.if-not-is_plain.true))

pub returns-in-Some : goal.returns-in-Some
returns-in-Some c =
    let h = c.args.self.now in
    let ts = h.table.trees in
    let d = read_constant ts c.args.d.now in
    c.repeats_number.ensures
    ∙ repeats_by (state_of h) d (Some c.in-Some.k) (sym (c.is_plain.ensures ts) ∙ c.if-not-is_plain.false) c.as_bytes.result.now c.arguments-n.result c.as_bytes.ensures c.arguments-n.ensures (sym c.in-Some.is ∙ c.constant_taking.ensures.named ts)

pub returns-in-None : goal.returns-in-None
returns-in-None c =
    let h = c.args.self.now in
    let ts = h.table.trees in
    let d = read_constant ts c.args.d.now in
    repeats_by (state_of h) d None (sym (c.is_plain.ensures ts) ∙ c.if-not-is_plain.false) c.as_bytes.result.now c.arguments-n.result c.as_bytes.ensures c.arguments-n.ensures (sym c.in-None.is ∙ c.constant_taking.ensures.named ts)
