use Rattle.std.proofs.Common.{sym, subst}
use Rattle.eo_term.specs.Growth.{trees_in}
use Rattle.eo_pattern.specs.Matching.{Matches}
use Rattle.eo_pattern.specs.Slots.{held}
use Rattle.eo_pattern.proofs.room.match_with_room.Goals as goal

pub returns-clause-yes : goal.returns-clause-yes
returns-clause-yes c = λ y.
    let t = c.args.table.now in
    let ps = trees_in t c.args.patterns.now in
    let us = trees_in t c.args.terms.now in
    let before = held t.trees c.args.subst.now in
    let found = held t.trees c.match_terms.new.subst in
    c.matching_law.ensures.complete before found ps us (subst (λ σ. Matches σ ps us found) c.in_ok-make_room.ensures.held (c.match_terms.ensures.yes y))

pub returns-clause-no : goal.returns-clause-no
returns-clause-no c = λ n.
    let t = c.args.table.now in
    let ps = trees_in t c.args.patterns.now in
    let us = trees_in t c.args.terms.now in
    let before = held t.trees c.args.subst.now in
    c.matching_law.ensures.none before ps us (λ ρ m. c.match_terms.ensures.no n ρ (subst (λ σ. Matches σ ps us ρ) (sym c.in_ok-make_room.ensures.held) m))
