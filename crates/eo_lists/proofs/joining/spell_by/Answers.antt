use Rattle.std.proofs.Common.{sym, ap, subst}
use Rattle.std.specs.Prelude.{option_map}
use Rattle.eo_term.specs.Growth.{tree_in, trees_in}
use Rattle.eo_lists.specs.Lists.{spell}
use Rattle.eo_lists.specs.Outcomes.{GivesList, IsTreeOf}
use Rattle.eo_lists.specs.Parts.{GivesTree, terminator_in}
use Rattle.eo_lists.proofs.joining.spell_by.Goals as goal

pub returns-clause-gives : goal.returns-clause-gives
returns-clause-gives c =
    let t = c.args.table.now in
    let new = c.build-made.new.table in
    let f = tree_in t c.args.fun in
    let xs = trees_in t c.args.items.now in
    let o = terminator_in c.args.sig.now t c.args.fun in
    let end : IsTreeOf t o c.in-Some.end = subst (λ r. GivesTree t r o) c.in-Some.is c.terminator.ensures in
    subst (GivesList new c.answer.result) (sym (ap (option_map (λ n. spell f n xs)) end.value))
    (c.answer.ensures new (spell f (tree_in t c.in-Some.end) xs) c.build-made.ensures.gives)
