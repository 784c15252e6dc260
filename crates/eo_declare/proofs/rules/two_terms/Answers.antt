use Rattle.std.proofs.Common.{arith, ap, sym, ◌∙◌}
use Rattle.std.specs.Prelude.{Ok}
use Rattle.eo_base.proofs.Answering.{fails}
use Rattle.eo_term.proofs.Growing.{grows_on}
use Rattle.eo_term.specs.Growth.{tree_in}
use Rattle.eo_names.specs.Worlds.{World, world_of}
use Rattle.eo_elab.specs.Worlds.{meaning_in}
use Rattle.eo_declare.proofs.RuleLemmas.{two-no-left, two-no-right, two-both}
use Rattle.eo_declare.proofs.rules.two_terms.Goals as goal

pub returns-in_err-left-clause-gives : goal.returns-in_err-left-clause-gives
returns-in_err-left-clause-gives c =
    let w = world_of c.args.table.now c.args.sig.now c.args.locals.now in
    fails _ _ _ _ _ _ _ c.from_residual.ensures.1 (two-no-left w (c.args.left.now, c.args.right.now)) c.in_err-left.ensures.gives

pub term-requires-2 : goal.term-requires-2
term-requires-2 c = record { ready = (c.names_law.ensures.stays c.args.sig.now c.args.locals.now c.args.table.now c.term.new.table c.requires.ready c.in_ok-left.ensures.grows).ready }

pub returns-in_err-right-clause-gives : goal.returns-in_err-right-clause-gives
returns-in_err-right-clause-gives c =
    let t = c.args.table.now in
    let us = c.term.new.table in
    let w = world_of t c.args.sig.now c.args.locals.now in
    let same = (c.names_law.ensures.stays c.args.sig.now c.args.locals.now t us c.requires.ready c.in_ok-left.ensures.grows).world in
    fails _ _ _ _ _ _ _ c.from_residual-in_err-right.ensures.1
    (λ f e. two-no-right w (c.args.left.now, c.args.right.now) (tree_in us c.in_ok-left.left) c.in_ok-left.ensures.gives.is f (ap (λ (u : World). meaning_in u c.args.right.now) (sym same) ∙ e)) c.in_err-right.ensures.gives

pub returns-clause-gives : goal.returns-clause-gives
returns-clause-gives c =
    let t = c.args.table.now in
    let us = c.term.new.table in
    let vs = c.term-2.new.table in
    let w = world_of t c.args.sig.now c.args.locals.now in
    let same = (c.names_law.ensures.stays c.args.sig.now c.args.locals.now t us c.requires.ready c.in_ok-left.ensures.grows).world in
    let right = tree_in vs c.in_ok-right.right in
    let grown = c.in_ok-right.ensures.grows.now.tree c.in_ok-left.left c.in_ok-left.ensures.gives.live in
    record {
      live = (omega (arith, c.in_ok-right.ensures.grows.now.more_trees, c.in_ok-left.ensures.gives.live), c.in_ok-right.ensures.gives.live);
      is = two-both w (c.args.left.now, c.args.right.now) (tree_in us c.in_ok-left.left) c.in_ok-left.ensures.gives.is right (ap (λ (u : World). meaning_in u c.args.right.now) (sym same) ∙ c.in_ok-right.ensures.gives.is)
          ∙ (λ i. Ok (sym grown i, right));
    }

pub returns-in_err-right-clause-grows : goal.returns-in_err-right-clause-grows
returns-in_err-right-clause-grows c = grows_on c.args.table.now c.term.new.table c.term-2.new.table c.in_ok-left.ensures.grows c.in_err-right.ensures.grows

pub returns-clause-grows : goal.returns-clause-grows
returns-clause-grows c = grows_on c.args.table.now c.term.new.table c.term-2.new.table c.in_ok-left.ensures.grows c.in_ok-right.ensures.grows
