use Rattle.std.proofs.Common.{◌≡◌, ◌<◌, ◌≤◌, ◌+◌, length, option_map}
use Rattle.eo_lists.specs.Parts.{spelled_in}
use Rattle.eo_lists.proofs.spelling.length_of.Given as goal

-- what was counted and what is left are the whole
abbrev pub invariant-loop-rest : goal.invariant-loop-rest
invariant-loop-rest l = record {
  live : l.rest < length l.table.trees;
  counted : l.count + l.rest ≤ l.fn.list;
  whole : option_map length (spelled_in l.table l.fn.form l.fn.list) ≡ option_map (λ xs. l.count + length xs) (spelled_in l.table l.fn.form l.rest);
}

-- what is left is an older term
abbrev pub decreases-loop-rest : goal.decreases-loop-rest
decreases-loop-rest l = l.rest
