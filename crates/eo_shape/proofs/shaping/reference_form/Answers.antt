use Rattle.std.proofs.Common.{ap, ◌∙◌}
use Rattle.std.specs.Prelude.{codes, bytes_eq}
use Rattle.eo_shape.proofs.Texts.{differs}
use Rattle.eo_shape.proofs.shaping.reference_form.Goals as goal

pub returns : goal.returns
returns c =
    let w = c.args.word.now in
    let first = differs w (codes "declare-const") c.eq.result (c.eq.ensures ∙ ap (bytes_eq w) c.as_slice.ensures) c.if-eq.false in
    let second = differs w (codes "declare-fun") c.eq-2.result (c.eq-2.ensures ∙ ap (bytes_eq w) c.as_slice-2.ensures) c.if-eq-2.false in
    let third = differs w (codes "declare-sort") c.eq-3.result (c.eq-3.ensures ∙ ap (bytes_eq w) c.as_slice-3.ensures) c.if-eq-3.false in
    let fourth = differs w (codes "define-fun") c.eq-4.result (c.eq-4.ensures ∙ ap (bytes_eq w) c.as_slice-4.ensures) c.if-eq-4.false in
    let fifth = differs w (codes "define-sort") c.eq-5.result (c.eq-5.ensures ∙ ap (bytes_eq w) c.as_slice-5.ensures) c.if-eq-5.false in
    let sixth = differs w (codes "assert") c.eq-6.result (c.eq-6.ensures ∙ ap (bytes_eq w) c.as_slice-6.ensures) c.if-eq-6.false in
    let seventh = differs w (codes "exit") c.eq-7.result (c.eq-7.ensures ∙ ap (bytes_eq w) c.as_slice-7.ensures) c.if-eq-7.false in
    rw (first, second, third, fourth, fifth, sixth, seventh) c.skipping_form.ensures
