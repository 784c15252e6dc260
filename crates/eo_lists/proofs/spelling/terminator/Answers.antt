use Rattle.std.proofs.Common.{length, sym, ap, ◌∙◌, subst, arith}
use Rattle.std.specs.Prelude.{option_and_then}
use Rattle.std.proofs.lemmas.Option.{slice_get_past}
use Rattle.eo_sig.specs.Signature as sig
use Rattle.eo_sig.specs.Reading.{signature, read_attribute, AttributeBelow}
use Rattle.eo_lists.specs.Lists.{terminator_of_tree}
use Rattle.eo_lists.proofs.spelling.terminator.Goals as goal

pub returns-then-k-constants : goal.returns-then-k-constants
returns-then-k-constants c =
    let ts = c.args.table.now.trees in
    let S : sig.Signature = signature ts c.args.sig.now in
    let count = c.constants.ensures.value ts in
    ap (terminator_of_tree S) (sym c.in-Con.ensures.tree)
    ∙ ap (option_and_then (λ (d : sig.Constant). sig.terminator_of d.attribute)) (slice_get_past (sig.constants S) c.in-Con.k (omega (arith, c.if-k-constants.true, count)))

pub returns-in-RightNil : goal.returns-in-RightNil
returns-in-RightNil c =
    let ts = c.args.table.now.trees in
    let S : sig.Signature = signature ts c.args.sig.now in
    record {
      live = subst (AttributeBelow (length ts)) c.in-RightNil.is (c.constant.ensures.below (length ts) c.requires.below).attribute;
      value = ap (terminator_of_tree S) (sym c.in-Con.ensures.tree)
          ∙ ap (option_and_then (λ (d : sig.Constant). sig.terminator_of d.attribute)) (c.constant.ensures.value ts)
          ∙ ap (λ a. sig.terminator_of (read_attribute ts a)) c.in-RightNil.is;
    }
