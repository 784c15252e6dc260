use Rattle.std.proofs.Common.{◌≡◌, drop, map}
use Rattle.eo_term.specs.Terms.{tree_at}
use Rattle.eo_sig.specs.Signature as sig
use Rattle.eo_sig.specs.Reading.{read_parameter}
use Rattle.eo_sig.proofs.types.implicit_occur.Given as goal

abbrev pub invariant-loop-i : goal.invariant-loop-i
invariant-loop-i l =
    let types = sig.argument_types (tree_at l.table.trees l.fn.ty) in
    sig.implicit_occur types l.i (map (read_parameter l.table.trees) (drop l.i l.params)) ≡ sig.implicit_occur types 0 (map (read_parameter l.table.trees) l.params)
