use Rattle.std.proofs.Common.{[], ◌∷◌, ◌++◌, refl, sym, ap, ◌∙◌, subst}
use Rattle.eo_term.specs.declared.node.Node.TheVariants as node
use Rattle.eo_term.specs.Held.{trees_of, IsSound}
use Rattle.eo_term.proofs.First.{IsLeaf, IsConstant, first_entries, first_trees_of, first_sound, empty_apart, empty_characters}
use Rattle.eo_term.proofs.table.add_constants.Goals as goal

pub returns-clause-first : goal.returns-clause-first
returns-clause-first c = λ xs empty.
    let p : IsConstant 0 (record { node = node.Con 0; args = c.new.result.items }) = record { node = refl; args = c.new.ensures.items } in
    let q : IsConstant 1 (record { node = node.Con 1; args = c.new-2.result.items }) = record { node = refl; args = c.new-2.ensures.items } in
    let r : IsConstant 2 (record { node = node.Con 2; args = c.new-3.result.items }) = record { node = refl; args = c.new-3.ensures.items } in
    let s : IsConstant 3 (record { node = node.Con 3; args = c.new-4.result.items }) = record { node = refl; args = c.new-4.ensures.items } in
    let i : IsLeaf c.leaf.result = record { height = c.leaf.ensures.height; arity = c.leaf.ensures.arity; value = c.leaf.ensures.value; closed = c.leaf.ensures.closed; plain = c.leaf.ensures.plain; typable = c.leaf.ensures.typable; parameters = c.leaf.ensures.parameters; open_parameters = c.leaf.ensures.open_parameters } in
    let j : IsLeaf c.leaf-2.result = record { height = c.leaf-2.ensures.height; arity = c.leaf-2.ensures.arity; value = c.leaf-2.ensures.value; closed = c.leaf-2.ensures.closed; plain = c.leaf-2.ensures.plain; typable = c.leaf-2.ensures.typable; parameters = c.leaf-2.ensures.parameters; open_parameters = c.leaf-2.ensures.open_parameters } in
    let k : IsLeaf c.leaf-3.result = record { height = c.leaf-3.ensures.height; arity = c.leaf-3.ensures.arity; value = c.leaf-3.ensures.value; closed = c.leaf-3.ensures.closed; plain = c.leaf-3.ensures.plain; typable = c.leaf-3.ensures.typable; parameters = c.leaf-3.ensures.parameters; open_parameters = c.leaf-3.ensures.open_parameters } in
    let l : IsLeaf c.leaf-4.result = record { height = c.leaf-4.ensures.height; arity = c.leaf-4.ensures.arity; value = c.leaf-4.ensures.value; closed = c.leaf-4.ensures.closed; plain = c.leaf-4.ensures.plain; typable = c.leaf-4.ensures.typable; parameters = c.leaf-4.ensures.parameters; open_parameters = c.leaf-4.ensures.open_parameters } in
    let e = c.in_ok-add.ensures.ok ∙ ap (λ es. es ++ (record { node = node.Con 0; args = c.new.result.items }, c.leaf.result) ∷ []) c.requires.none in
    let four = first_entries _ _ _ _ i j k l _ _ _ _ xs p q r s _ _ _ _ e c.in_ok-add-2.ensures.ok c.in_ok-add-3.ensures.ok c.in_ok-add-4.ensures.ok in (
      ap (trees_of xs) four ∙ first_trees_of _ _ _ _ i j k l _ _ _ _ xs p q r s,
      subst (λ es. IsSound es xs) (sym four) (first_sound _ _ _ _ i j k l _ _ _ _ xs p q r s (empty_apart xs empty) (empty_characters xs empty)),
    )
