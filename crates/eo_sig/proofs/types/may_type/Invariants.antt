use Rattle.std.proofs.Common.{◌≡◌, drop, map}
use Rattle.eo_sig.specs.Signature as sig
use Rattle.eo_sig.specs.Reading.{read_parameter}
use Rattle.eo_sig.proofs.types.may_type.Given as goal

abbrev pub invariant-loop-p : goal.invariant-loop-p
invariant-loop-p l = sig.may_type (map (read_parameter l.table.trees) (drop l.p-index l.params)) ≡ sig.may_type (map (read_parameter l.table.trees) l.params)
