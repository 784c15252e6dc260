use Rattle.std.proofs.Common.{length, map, All, arith, ap, sym, subst, ◌∙◌}
use Rattle.std.proofs.lemmas.List.Elements.{All-nil}
use Rattle.eo_base.proofs.Answering.{fails}
use Rattle.eo_shape.specs.Reading.{read_program}
use Rattle.eo_sig.specs.Reading.{read_case, CaseBelow}
use Rattle.eo_term.proofs.Growing.{grows_on}
use Rattle.eo_term.specs.Growth.{tree_in, trees_in}
use Rattle.eo_names.specs.Worlds.{World}
use Rattle.eo_declare.specs.Declarations.{with_cases}
use Rattle.eo_declare.specs.Declaring.{read_bound}
use Rattle.eo_declare.specs.Gives.{GivesProgram}
use Rattle.eo_elab.specs.Worlds.{context_in, meaning_in}
use Rattle.eo_declare.proofs.BoundLemmas.{parameters-grown, parameters-more}
use Rattle.eo_declare.proofs.ConstantLemmas.{trees-grown, ids-more}
use Rattle.eo_declare.proofs.ProgramLemmas.{over-no-inputs, over-no-output, over-cases}
use Rattle.eo_declare.proofs.programs.program_over.Goals as goal

pub returns-in_err-types-clause-gives : goal.returns-in_err-types-clause-gives
returns-in_err-types-clause-gives c =
    let t = c.args.table.now in
    fails _ _ _ _ _ _ _ c.from_residual.ensures.1 (over-no-inputs (context_in t c.args.sig.now) (read_bound t.trees c.args.bound) (read_program c.args.shape.now)) c.in_err-types.ensures.gives

pub returns-in_err-output-clause-gives : goal.returns-in_err-output-clause-gives
returns-in_err-output-clause-gives c =
    let t = c.args.table.now in
    let us = c.meanings.new.table in
    let same = (c.names_law.ensures.stays c.args.sig.now c.args.bound.locals t us c.requires.bound.ready c.in_ok-types.ensures.grows).world in
    fails _ _ _ _ _ _ _ c.from_residual-in_err-output.ensures.1
    (λ f e. over-no-output (context_in t c.args.sig.now) (read_bound t.trees c.args.bound) (read_program c.args.shape.now) (trees_in us c.in_ok-types.types) c.in_ok-types.ensures.gives.is f (ap (λ (u : World). meaning_in u c.args.shape.now.output) (sym same) ∙ e)) c.in_err-output.ensures.gives

pub term-requires : goal.term-requires
term-requires c = record { ready = (c.names_law.ensures.stays c.args.sig.now c.args.bound.locals c.args.table.now c.meanings.new.table c.requires.bound.ready c.in_ok-types.ensures.grows).ready }

pub with_cases-requires-clause-ready : goal.with_cases-requires-clause-ready
with_cases-requires-clause-ready c =
    let all = grows_on c.args.table.now c.meanings.new.table c.term.new.table c.in_ok-types.ensures.grows c.in_ok-output.ensures.grows in
    (c.names_law.ensures.stays c.args.sig.now c.args.bound.locals c.args.table.now c.term.new.table c.requires.bound.ready all).ready

pub with_cases-requires-clause-head : goal.with_cases-requires-clause-head
with_cases-requires-clause-head c =
    let t = c.args.table.now in
    let us = c.meanings.new.table in
    let vs = c.term.new.table in
    let all = grows_on t us vs c.in_ok-types.ensures.grows c.in_ok-output.ensures.grows in
    record {
      params = parameters-more (length t.trees) (length vs.trees) c.args.bound.params all.now.more_trees c.requires.bound.params;
      inputs = ids-more (length us.trees) (length vs.trees) c.in_ok-types.types c.in_ok-output.ensures.grows.now.more_trees c.in_ok-types.ensures.gives.live;
      output = c.in_ok-output.ensures.gives.live;
      cases = subst (All (CaseBelow (length vs.trees))) (sym c.new-2.ensures) (All-nil (CaseBelow (length vs.trees)));
      few = omega (arith, c.in_ok-types.ensures.count, c.requires.few);
    }

pub returns-clause-gives : goal.returns-clause-gives
returns-clause-gives c =
    let t = c.args.table.now in
    let us = c.meanings.new.table in
    let vs = c.term.new.table in
    let k = c.args.sig.now in
    let x = context_in t k in
    let b = read_bound t.trees c.args.bound in
    let all = grows_on t us vs c.in_ok-types.ensures.grows c.in_ok-output.ensures.grows in
    let first = (c.names_law.ensures.stays k c.args.bound.locals t us c.requires.bound.ready c.in_ok-types.ensures.grows).world in
    let last = (c.names_law.ensures.stays k c.args.bound.locals t vs c.requires.bound.ready all).world in
    let ts = trees_in us c.in_ok-types.types in
    let o = tree_in vs c.in_ok-output.output in
    let parts = over-cases x b (read_program c.args.shape.now) ts c.in_ok-types.ensures.gives.is o (ap (λ (u : World). meaning_in u c.args.shape.now.output) (sym first) ∙ c.in_ok-output.ensures.gives.is) in
    let params = parameters-grown (length t.trees) t.trees vs.trees c.args.bound.params all.now.tree c.requires.bound.params in
    let inputs = trees-grown (length us.trees) us.trees vs.trees c.in_ok-types.types c.in_ok-output.ensures.grows.now.tree c.in_ok-types.ensures.gives.live in
    subst (GivesProgram c.with_cases.new.table c.with_cases.result)
    (sym (parts ∙ (λ i. with_cases (sym last i).names (sym last i).locals (record { name = sym c.in_ok-new.ensures i; parameters = sym params i; inputs = sym inputs i; output = o; cases = map (read_case vs.trees) (sym c.new-2.ensures i) }) c.args.shape.now.cases)))
    c.with_cases.ensures.gives

pub returns-in_err-output-clause-grows : goal.returns-in_err-output-clause-grows
returns-in_err-output-clause-grows c = grows_on c.args.table.now c.meanings.new.table c.term.new.table c.in_ok-types.ensures.grows c.in_err-output.ensures.grows

pub returns-in_err-new-clause-grows : goal.returns-in_err-new-clause-grows
returns-in_err-new-clause-grows c = grows_on c.args.table.now c.meanings.new.table c.term.new.table c.in_ok-types.ensures.grows c.in_ok-output.ensures.grows

pub returns-clause-grows : goal.returns-clause-grows
returns-clause-grows c =
    let all = grows_on c.args.table.now c.meanings.new.table c.term.new.table c.in_ok-types.ensures.grows c.in_ok-output.ensures.grows in
    grows_on c.args.table.now c.term.new.table c.with_cases.new.table all c.with_cases.ensures.grows
