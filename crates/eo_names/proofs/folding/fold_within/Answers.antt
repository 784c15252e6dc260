use Rattle.std.proofs.Common.{ap, sym, subst, ◌∙◌}
use Rattle.eo_base.proofs.Answering.{gives_fault}
use Rattle.eo_term.proofs.Growing.{grows_on}
use Rattle.eo_names.specs.Gives.{GivesTree}
use Rattle.eo_names.specs.Grouped.{if_low}
use Rattle.eo_names.specs.Turns.{after}
use Rattle.eo_names.specs.Scopes.{bound_in}
use Rattle.eo_names.specs.Worlds.{World, world, turns_in}
use Rattle.eo_names.proofs.folding.fold_within.Goals as goal

pub returns-in_err-first-clause-gives : goal.returns-in_err-first-clause-gives
returns-in_err-first-clause-gives c = gives_fault _ _ _ _ _ _ c.from_residual.ensures.1 (c.in_err-first.ensures.gives c.args.turns)

pub returns-clause-gives : goal.returns-clause-gives
returns-clause-gives c =
    let w = world c.args.table.now c.args.sig.now c.args.scope.now in
    let next = c.turn_of.new.table in
    let same = (c.names_law.ensures.stays c.args.sig.now (bound_in c.args.scope.now) c.args.table.now next c.requires.ready c.turn_of.ensures.grows).world in
    subst (GivesTree c.take_turns.new.table c.take_turns.result) (ap (λ (v : World). if_low (after (turns_in v c.args.turns) next.trees c.in_ok-first.first)) same ∙ ap if_low (sym (c.in_ok-first.ensures.gives.is c.args.turns))) c.take_turns.ensures.gives

pub take_turns-requires-clause-ready : goal.take_turns-requires-clause-ready
take_turns-requires-clause-ready c = (c.names_law.ensures.stays c.args.sig.now (bound_in c.args.scope.now) c.args.table.now c.turn_of.new.table c.requires.ready c.turn_of.ensures.grows).ready

pub returns-clause-grows : goal.returns-clause-grows
returns-clause-grows c = grows_on _ _ _ c.turn_of.ensures.grows c.take_turns.ensures.grows
