use Rattle.std.proofs.Common.{◌≡◌, ◌&&◌, drop}
use Rattle.std.specs.List.{list_any}
use Rattle.eo_term.specs.Tree.{tree_eq}
use Rattle.eo_term.specs.Terms.{tree_at}
use Rattle.eo_names.specs.Names.{read_locals}
use Rattle.eo_names.proofs.locals.Locals.has_list.Given as goal

abbrev pub invariant-loop-local : goal.invariant-loop-local
invariant-loop-local l =
    list_any (λ x. x.list && tree_eq x.tree (tree_at l.table.trees l.id)) (read_locals l.table.trees (drop l.local-index l.local-items))
    ≡ list_any (λ x. x.list && tree_eq x.tree (tree_at l.table.trees l.id)) (read_locals l.table.trees l.local-items)
