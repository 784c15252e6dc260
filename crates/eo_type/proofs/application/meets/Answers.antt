use Rattle.std.proofs.Common.{◌≡◌, [], ◌∷◌, sym, ◌∙◌, subst}
use Rattle.eo_term.specs.Terms.{tree_at}
use Rattle.eo_pattern.specs.Matching.{empty, Matches}
use Rattle.eo_pattern.specs.Slots.{held}
use Rattle.eo_type.proofs.Assigned.{empty_below, empty_held}
use Rattle.eo_type.proofs.application.meets.Goals as goal

pub match_terms-requires-clause-below : goal.match_terms-requires-clause-below
match_terms-requires-clause-below c = c.reserve_for.ensures.below _ (empty_below _ _ c.requires.empty)

pub returns-clause-yes : goal.returns-clause-yes
returns-clause-yes c = λ y.
    let ts = c.args.table.now.trees in
    let none : held ts c.reserve_for.new.self ≡ empty = c.reserve_for.ensures.held ts ∙ empty_held ts c.args.subst.now c.requires.empty in
    c.matching_law.ensures.complete empty _ _ _ (subst (λ σ. Matches σ (tree_at ts c.args.pattern ∷ []) (tree_at ts c.args.ty ∷ []) (held ts c.match_terms.new.subst)) none (c.match_terms.ensures.yes y))

pub returns-clause-no : goal.returns-clause-no
returns-clause-no c = λ n.
    let ts = c.args.table.now.trees in
    let none : held ts c.reserve_for.new.self ≡ empty = c.reserve_for.ensures.held ts ∙ empty_held ts c.args.subst.now c.requires.empty in
    c.matching_law.ensures.none empty _ _ (λ ρ m. c.match_terms.ensures.no n ρ (subst (λ σ. Matches σ (tree_at ts c.args.pattern ∷ []) (tree_at ts c.args.ty ∷ []) ρ) (sym none) m))
