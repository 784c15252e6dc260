use Rattle.std.proofs.Common.{◌≡◌, ◌<◌, ◌++◌, All, length, option_map}
use Rattle.eo_term.specs.Growth.{trees_in}
use Rattle.eo_lists.specs.Parts.{spelled_in}
use Rattle.eo_lists.proofs.spelling.items.Given as goal

-- with the items that are left they are the whole
abbrev pub invariant-loop-rest : goal.invariant-loop-rest
invariant-loop-rest l = record {
  live : l.rest < length l.table.trees;
  found : All (λ j. j < length l.table.trees) l.found;
  whole : spelled_in l.table l.fn.form l.fn.list ≡ option_map (λ xs. trees_in l.table l.found ++ xs) (spelled_in l.table l.fn.form l.rest);
}

-- what is left is an older term
abbrev pub decreases-loop-rest : goal.decreases-loop-rest
decreases-loop-rest l = l.rest
