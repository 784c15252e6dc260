use Rattle.std.proofs.Common.{◌≡◌, ◌==◌, true, length, arith, ap, sym, ◌∙◌}
use Rattle.std.specs.Prelude.{Ok}
use Rattle.eo_base.proofs.Answering.{fails}
use Rattle.eo_term.proofs.Growing.{grows_on}
use Rattle.eo_shape.specs.Reading.{read_case as read_shape}
use Rattle.eo_term.specs.Growth.{tree_in, trees_in}
use Rattle.eo_names.specs.Worlds.{World, world_of}
use Rattle.eo_elab.specs.Worlds.{meaning_in}
use Rattle.eo_declare.proofs.ConstantLemmas.{trees-grown, ids-more}
use Rattle.eo_declare.proofs.ProgramLemmas.{same-count, other-count, case-arity, case-no-patterns, case-no-body, case-whole}
use Rattle.eo_declare.proofs.programs.elaborate_case.Goals as goal

pub returns-in_err-patterns-clause-gives : goal.returns-in_err-patterns-clause-gives
returns-in_err-patterns-clause-gives c =
    let w = world_of c.args.table.now c.args.sig.now c.args.locals.now in
    let s = read_shape c.args.shape.now in
    let many : (length s.patterns == c.args.inputs) ≡ true = same-count (length s.patterns) c.args.inputs (omega (arith, c.len.ensures, c.if-len-inputs.false)) in
    fails _ _ _ _ _ _ _ c.from_residual.ensures.1 (case-no-patterns w.names w.locals c.args.inputs s many) c.in_err-patterns.ensures.gives

pub elaborate_view-requires : goal.elaborate_view-requires
elaborate_view-requires c = record { ready = (c.names_law.ensures.stays c.args.sig.now c.args.locals.now c.args.table.now c.elaborate_terms.new.table c.requires.ready c.in_ok-patterns.ensures.grows).ready }

pub returns-in_err-body-clause-gives : goal.returns-in_err-body-clause-gives
returns-in_err-body-clause-gives c =
    let t = c.args.table.now in
    let us = c.elaborate_terms.new.table in
    let w = world_of t c.args.sig.now c.args.locals.now in
    let s = read_shape c.args.shape.now in
    let many : (length s.patterns == c.args.inputs) ≡ true = same-count (length s.patterns) c.args.inputs (omega (arith, c.len.ensures, c.if-len-inputs.false)) in
    let same = (c.names_law.ensures.stays c.args.sig.now c.args.locals.now t us c.requires.ready c.in_ok-patterns.ensures.grows).world in
    fails _ _ _ _ _ _ _ c.from_residual-in_err-body.ensures.1
    (λ f e. case-no-body w.names w.locals c.args.inputs s many (trees_in us c.in_ok-patterns.patterns) c.in_ok-patterns.ensures.gives.is f (ap (λ (u : World). meaning_in u s.body) (sym same) ∙ e)) c.in_err-body.ensures.gives

pub returns-clause-gives : goal.returns-clause-gives
returns-clause-gives c =
    let t = c.args.table.now in
    let us = c.elaborate_terms.new.table in
    let vs = c.elaborate_view.new.table in
    let w = world_of t c.args.sig.now c.args.locals.now in
    let s = read_shape c.args.shape.now in
    let many : (length s.patterns == c.args.inputs) ≡ true = same-count (length s.patterns) c.args.inputs (omega (arith, c.len.ensures, c.if-len-inputs.false)) in
    let same = (c.names_law.ensures.stays c.args.sig.now c.args.locals.now t us c.requires.ready c.in_ok-patterns.ensures.grows).world in
    let ids = c.in_ok-patterns.patterns in
    let body = tree_in vs c.in_ok-body.body in
    let grown = trees-grown (length us.trees) us.trees vs.trees ids c.in_ok-body.ensures.grows.now.tree c.in_ok-patterns.ensures.gives.live in
    record {
      live = record { patterns = ids-more (length us.trees) (length vs.trees) ids c.in_ok-body.ensures.grows.now.more_trees c.in_ok-patterns.ensures.gives.live; body = c.in_ok-body.ensures.gives.live };
      is = case-whole w.names w.locals c.args.inputs s many (trees_in us ids) c.in_ok-patterns.ensures.gives.is body (ap (λ (u : World). meaning_in u s.body) (sym same) ∙ c.in_ok-body.ensures.gives.is)
          ∙ (λ i. Ok (record { patterns = sym grown i; body = body }));
    }

pub returns-then-len-inputs-clause-gives : goal.returns-then-len-inputs-clause-gives
returns-then-len-inputs-clause-gives c =
    let w = world_of c.args.table.now c.args.sig.now c.args.locals.now in
    let s = read_shape c.args.shape.now in
    case-arity w.names w.locals c.args.inputs s (other-count (length s.patterns) c.args.inputs (λ e. omega (arith, e, c.len.ensures, c.if-len-inputs.true)))

pub returns-in_err-body-clause-grows : goal.returns-in_err-body-clause-grows
returns-in_err-body-clause-grows c = grows_on c.args.table.now c.elaborate_terms.new.table c.elaborate_view.new.table c.in_ok-patterns.ensures.grows c.in_err-body.ensures.grows

pub returns-clause-grows : goal.returns-clause-grows
returns-clause-grows c = grows_on c.args.table.now c.elaborate_terms.new.table c.elaborate_view.new.table c.in_ok-patterns.ensures.grows c.in_ok-body.ensures.grows
