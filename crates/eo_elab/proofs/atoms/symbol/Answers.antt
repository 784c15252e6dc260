use Rattle.std.proofs.Common.{◌≡◌, ap, length, subst, sym, ◌∙◌}
use Rattle.eo_sexp.specs.AtomKind as kinds
use Rattle.eo_names.specs.Gives.{GivesTree}
use Rattle.eo_names.specs.Meanings.{meant}
use Rattle.eo_names.specs.Symbols.{read_meant}
use Rattle.eo_elab.specs.Meaning.{atom, tree_alone, word_alone}
use Rattle.eo_elab.specs.Worlds.{atom_in, place}
use Rattle.eo_elab.proofs.atoms.symbol.Goals as goal

pub term_of-requires : goal.term_of-requires
term_of-requires c = c.resolve_name.ensures.live (length c.args.table.now.trees) c.requires

pub returns-in-Name-clause-gives : goal.returns-in-Name-clause-gives
unfolding atom
returns-in-Name-clause-gives c =
    let t = c.args.table.now in
    let k = c.args.sig.now in
    let w = place t k c.args.scope.now in
    let m = meant w.names w.locals c.args.name.now in
    let alone : atom_in w kinds.Symbol c.args.name.now ≡ tree_alone (read_meant t.trees k c.resolve_name.result) =
    ap (λ v. word_alone v m) (sym c.in-Name.ensures) ∙ ap tree_alone (sym (c.resolve_name.ensures.value t.trees)) in
    subst (GivesTree c.term_of.new.table c.term_of.result) (sym alone) c.term_of.ensures.gives

pub returns-in-Underscore-clause-gives : goal.returns-in-Underscore-clause-gives
unfolding atom
returns-in-Underscore-clause-gives c =
    let w = place c.args.table.now c.args.sig.now c.args.scope.now in
    ap (λ v. word_alone v (meant w.names w.locals c.args.name.now)) (sym c.in-Underscore.ensures)

pub returns-in-Arrow-clause-gives : goal.returns-in-Arrow-clause-gives
unfolding atom
returns-in-Arrow-clause-gives c =
    let w = place c.args.table.now c.args.sig.now c.args.scope.now in
    ap (λ v. word_alone v (meant w.names w.locals c.args.name.now)) (sym c.in-Arrow.ensures)

pub returns-in-Let-clause-gives : goal.returns-in-Let-clause-gives
unfolding atom
returns-in-Let-clause-gives c =
    let w = place c.args.table.now c.args.sig.now c.args.scope.now in
    ap (λ v. word_alone v (meant w.names w.locals c.args.name.now)) (sym c.in-Let.ensures)

pub returns-in-Annotation-clause-gives : goal.returns-in-Annotation-clause-gives
unfolding atom
returns-in-Annotation-clause-gives c =
    let w = place c.args.table.now c.args.sig.now c.args.scope.now in
    ap (λ v. word_alone v (meant w.names w.locals c.args.name.now)) (sym c.in-Annotation.ensures)
