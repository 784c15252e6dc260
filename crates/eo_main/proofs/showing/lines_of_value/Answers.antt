use Rattle.std.proofs.Common.{◌≡◌, ◌<◌, true, length, sym, subst}
use Rattle.eo_sig.specs.Reading.{IsBelow}
use Rattle.eo_term.specs.Terms.{Terms, tree_at}
use Rattle.eo_term.specs.Tree.{is_value}
use Rattle.eo_main.proofs.ShowLemmas.{lines_are, unshown_lines}
use Rattle.eo_main.proofs.showing.lines_of_value.Goals as goal

pub show_term-requires-clause-live : goal.show_term-requires-clause-live
show_term-requires-clause-live c = subst (λ (t : Terms). c.args.id < length t.trees) (sym c.table.ensures) c.requires.value.live

pub show_term-requires-clause-value : goal.show_term-requires-clause-value
show_term-requires-clause-value c = subst (λ (t : Terms). is_value (tree_at t.trees c.args.id) ≡ true) (sym c.table.ensures) c.requires.value.value

pub show_term-requires-clause-below : goal.show_term-requires-clause-below
show_term-requires-clause-below c =
    subst (λ (t : Terms). IsBelow (length t.trees) c.signature.result.now) (sym c.table.ensures) (c.signature.ensures c.requires.going).below

pub returns-in-Ok : goal.returns-in-Ok
returns-in-Ok c =
    let session = c.args.session.now in
    let declared = c.signature.ensures c.requires.going in
    lines_are session.state c.table.result.now session.terms c.signature.result.now c.args.id c.table.ensures declared.signature declared.macros c.in-Ok.lines c.in-Ok.ensures.shown c.in-Ok.ensures.printable

pub returns-in-Err : goal.returns-in-Err
returns-in-Err c =
    let session = c.args.session.now in
    let declared = c.signature.ensures c.requires.going in
    unshown_lines session.state c.table.result.now session.terms c.signature.result.now c.args.id c.table.ensures declared.signature declared.macros c.args.place.now c.in-Err.e c.of_lines.result c.of_lines.ensures c.in-Err.ensures.refused
