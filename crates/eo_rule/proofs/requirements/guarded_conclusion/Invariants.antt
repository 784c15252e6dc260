use Rattle.std.proofs.Common.{◌≡◌, ◌<◌, ◌≤◌, length, map, drop}
use Rattle.eo_sig.specs.Reading.{read_pair}
use Rattle.eo_term.specs.Terms.{tree_at}
use Rattle.eo_term.specs.Growth.{Grows}
use Rattle.eo_rule.specs.Instance.{required}
use Rattle.eo_rule.proofs.requirements.guarded_conclusion.Given as goal

abbrev pub invariant-loop-left : goal.invariant-loop-left
invariant-loop-left l = let old = l.fn.table.trees in
    record {
      within : l.left ≤ length l.requirements;
      live : l.made < length l.table.trees;
      grows : Grows l.fn.table l.table;
      tree : tree_at l.table.trees l.made ≡ required (drop l.left (map (read_pair old) l.requirements)) (tree_at old l.rule.conclusion);
    }

abbrev pub decreases-loop-left : goal.decreases-loop-left
decreases-loop-left l = l.left
