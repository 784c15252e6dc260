use Rattle.std.proofs.Common.{ap, sym, arith}
use Rattle.std.specs.Prelude.{Option}
use Rattle.std.specs.Option.{option_map_or}
use Rattle.eo_sig.specs.Signature as sig
use Rattle.eo_sig.specs.Reading.{signature}
use Rattle.std.proofs.lemmas.Option.{slice_get_past}
use Rattle.eo_names.proofs.attributes.attribute_of.Goals as goal

pub returns-then-k-constants-clause-value : goal.returns-then-k-constants-clause-value
returns-then-k-constants-clause-value c = λ ts.
    let none = slice_get_past (sig.constants (signature ts c.args.sig.now)) c.args.k (omega (arith, c.constants.ensures.value ts, c.if-k-constants.true)) in
    ap (λ (o : Option sig.Constant). option_map_or (λ (d : sig.Constant). d.attribute) o sig.Plain) (sym none)

pub returns-clause-below : goal.returns-clause-below
returns-clause-below c = λ n h. (c.constant.ensures.below n h).attribute
