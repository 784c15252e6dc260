use Rattle.std.proofs.Common.{◌≡◌, length, drop, map}
use Rattle.eo_term.specs.Terms.{tree_at}
use Rattle.eo_pattern.specs.Slots.{held, Leads, Keeps}
use Rattle.eo_pattern.proofs.matching.match_all.Given as goal

abbrev pub invariant-loop-i : goal.invariant-loop-i
invariant-loop-i l =
    let ts = l.table.trees in
    record {
      leads : Leads (held ts l.fn.subst) (map (tree_at ts) l.patterns) (map (tree_at ts) l.terms) (held ts l.subst) (map (tree_at ts) (drop l.i l.patterns)) (map (tree_at ts) (drop l.i l.terms));
      kept : Keeps (length ts) l.fn.subst l.subst;
      room : l.tasks.room ≡ l.fn.tasks.room;
    }
