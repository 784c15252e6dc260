use Rattle.std.proofs.Common.{◌≡◌, ℕ, ◌≤◌, List, All, map, drop, max}
use Rattle.eo_term.specs.Tree.{Tree}
use Rattle.eo_cert.specs.Rules.{deepest}
use Rattle.eo_stated.specs.Checking.{read_evaluated, IsShallow}
use Rattle.eo_stated.proofs.blocks.deepest_of.Given as goal

abbrev pub invariant-loop-evaluated : goal.invariant-loop-evaluated
invariant-loop-evaluated l = record {
  deepest : (ts : List Tree) → max l.depth (deepest (map (read_evaluated ts) (drop l.evaluated-index l.listed))) ≡ deepest (map (read_evaluated ts) l.listed);
  shallow : (n : ℕ) → All (IsShallow n) l.listed → l.depth ≤ n;
}
