use Rattle.std.proofs.Common.{subst}
use Rattle.std.specs.Prelude.{Option, option_map}
use Rattle.eo_base.proofs.Elements.{map_same}
use Rattle.eo_term.specs.Terms.{tree_at}
use Rattle.eo_term.specs.Tree.{Tree}
use Rattle.eo_lists.specs.Lists.{spell, terminator_of_tree}
use Rattle.eo_lists.specs.Outcomes.{GivesList}
use Rattle.eo_lists.proofs.joining.spell_by_number.Goals as goal

pub returns-clause-gives : goal.returns-clause-gives
returns-clause-gives c =
    let old = c.args.table.now in
    let g = c.in_ok-constant.ensures.grows in
    let mid = c.intern.new.self in
    let fun = c.in_ok-constant.ensures.interned.tree in
    let items = map_same _ (tree_at old.trees) (tree_at mid.trees) g.now.tree c.args.items.now c.requires.items in
    let same = (c.laws.ensures old mid c.requires.below g).stays.signature in
    subst (λ (o : Option Tree). GivesList c.spell_by.new.table c.spell_by.result o)
    (λ k. option_map (λ n. spell (fun k) n (items k)) (terminator_of_tree (same k) (fun k)))
    c.spell_by.ensures.gives
