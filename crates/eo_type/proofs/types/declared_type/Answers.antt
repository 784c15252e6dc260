use Rattle.std.proofs.Common.{length, ap, arith, rules}
use Rattle.std.proofs.lemmas.Option.{slice_get_past}
use Rattle.eo_sig.specs.Signature.{constants}
use Rattle.eo_sig.specs.Reading.{signature}
use Rattle.eo_type.specs.Types.{declared}
use Rattle.eo_type.proofs.types.declared_type.Goals as goal

pub returns-then-k-constants : goal.returns-then-k-constants
returns-then-k-constants c =
    let S = signature c.args.table.now.trees c.args.sig.now in
    record { gives = ap declared (slice_get_past (constants S) c.args.k (omega (arith, c.constants.ensures.value c.args.table.now.trees))) }

pub returns : goal.returns
returns c = record { gives = record { live = c.constant.ensures.live (length c.args.table.now.trees) c.requires; typed = search rules } }
