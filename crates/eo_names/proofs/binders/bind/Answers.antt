use Rattle.std.proofs.Common.{◌≡◌, length, ap, subst, sym, ◌∙◌}
use Rattle.eo_names.specs.Names.{BindingsBelow, read_pairs, with_terms}
use Rattle.eo_names.proofs.BinderLemmas.{all_terms, as_many, as_variables}
use Rattle.eo_names.proofs.binders.bind.Goals as goal

pub set_all-requires : goal.set_all-requires
set_all-requires c =
    ap length c.as_slice.ensures ∙ as_many c.args.table.now.trees c.list_or_leave.new.table.trees c.args.names.now c.list_or_leave.new.variables c.in-Ok.ensures.variables.trees

pub returns-in-Ok-clause-below : goal.returns-in-Ok-clause-below
returns-in-Ok-clause-below c =
    let bs = c.args.names.now in
    let is = c.list_or_leave.new.variables in
    let made = c.in-Ok.ensures.variables in
    let us = c.list_or_leave.new.table.trees in
    let same : c.set_all.new.self ≡ with_terms bs is = c.set_all.ensures ∙ ap (with_terms bs) c.as_slice.ensures in
    subst (BindingsBelow (length us)) (sym same) (all_terms bs is (as_many c.args.table.now.trees us bs is made.trees) (length us) made.live)

pub returns-in-Ok-clause-names : goal.returns-in-Ok-clause-names
returns-in-Ok-clause-names c =
    let bs = c.args.names.now in
    let is = c.list_or_leave.new.variables in
    let us = c.list_or_leave.new.table.trees in
    let same : c.set_all.new.self ≡ with_terms bs is = c.set_all.ensures ∙ ap (with_terms bs) c.as_slice.ensures in
    ap (read_pairs us) same ∙ as_variables c.args.table.now.trees us bs is c.in-Ok.ensures.variables.trees
