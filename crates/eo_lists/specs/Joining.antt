-- Items that a constant joins into one list, over the terms of a table.
use Rattle.std.specs.Prelude.{ℕ, List, Option, option_map}
use Rattle.eo_term.specs.Growth.{tree_in, trees_in}
use Rattle.eo_term.specs.Terms.{Terms}
use Rattle.eo_term.specs.Tree.{Tree}
use Rattle.eo_sig.specs.Reading.{Kept, signature}
use Rattle.eo_lists.specs.Lists.{spell, list_by}
use Rattle.eo_lists.specs.Parts.{terminator_in}

-- what spells the items by the constant of this number, over the terms of a table
abbrev pub list_in : Kept → Terms → ℕ → List ℕ → Option Tree
list_in k t f is = list_by (signature t.trees k) f (trees_in t is)

-- the same by a term that is the constant
abbrev pub list_from : Kept → Terms → ℕ → List ℕ → Option Tree
list_from k t i is = option_map (λ n. spell (tree_in t i) n (trees_in t is)) (terminator_in k t i)
