use Rattle.std.proofs.Common.{◌≡◌, ◌&&◌, drop, map}
use Rattle.std.specs.List.{list_all}
use Rattle.eo_term.specs.Tree.{Tree, uses_only}
use Rattle.eo_sig.specs.Reading.{read_pair}
use Rattle.eo_term.specs.ParamSet.{has}
use Rattle.eo_sig.proofs.patterns.pairs_use_only.Given as goal

abbrev pub invariant-loop-a : goal.invariant-loop-a
invariant-loop-a l =
    let passes = λ (q : Tree × Tree). uses_only (has l.known) q.0 && uses_only (has l.known) q.1 in
    list_all passes (map (read_pair l.table.trees) (drop l.a-index l.pairs)) ≡ list_all passes (map (read_pair l.table.trees) l.pairs)
