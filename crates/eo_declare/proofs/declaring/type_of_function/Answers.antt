use Rattle.std.proofs.Common.{◌≡◌, [], subst, ap, sym, ◌∙◌}
use Rattle.eo_base.proofs.Answering.{fails}
use Rattle.eo_term.proofs.Growing.{grows_on}
use Rattle.eo_term.specs.Growth.{trees_in}
use Rattle.eo_declare.specs.Declaring.{function_to}
use Rattle.eo_names.specs.Gives.{GivesTree}
use Rattle.eo_names.specs.Scopes.{read_file_kind}
use Rattle.eo_names.specs.Worlds.{World}
use Rattle.eo_elab.specs.Worlds.{context_at, world_in, in_file_kind}
use Rattle.eo_declare.specs.Worlds.{meanings_in}
use Rattle.eo_declare.proofs.DeclaringLemmas.{function-no-inputs, function-inputs}
use Rattle.eo_declare.proofs.Giving.{none_ready}
use Rattle.eo_declare.proofs.declaring.type_of_function.Goals as goal

pub meanings_at-requires : goal.meanings_at-requires
meanings_at-requires c = record { ready = none_ready c.args.sig.now _ _ c.new-none.ensures c.requires }

pub returns-in_err-types-clause-gives : goal.returns-in_err-types-clause-gives
returns-in_err-types-clause-gives c =
    let x = context_at c.args.table.now c.args.sig.now c.args.file_kind in
    let alone : world_in c.args.table.now c.args.sig.now c.new-none.result c.args.file_kind ≡ record { names = x; locals = [] } = ap (λ ls. world_in c.args.table.now c.args.sig.now ls c.args.file_kind) c.new-none.ensures in
    fails _ _ _ _ _ _ _ c.from_residual.ensures.1
    (λ f e. function-no-inputs x c.args.inputs.now c.args.output.now f (ap (λ (u : World). meanings_in u c.args.inputs.now) (sym alone) ∙ e)) c.in_err-types.ensures.gives

pub function_to-requires-clause-ready : goal.function_to-requires-clause-ready
function_to-requires-clause-ready c = (c.names_law.ensures.stays c.args.sig.now _ c.args.table.now c.meanings_at.new.table (none_ready c.args.sig.now _ _ c.new-none.ensures c.requires) c.in_ok-types.ensures.grows).ready

pub function_to-requires-clause-types : goal.function_to-requires-clause-types
function_to-requires-clause-types c = c.in_ok-types.ensures.gives.live

pub returns-clause-gives : goal.returns-clause-gives
returns-clause-gives c =
    let k = c.args.sig.now in
    let x = context_at c.args.table.now k c.args.file_kind in
    let us = c.meanings_at.new.table in
    let alone : world_in c.args.table.now k c.new-none.result c.args.file_kind ≡ record { names = x; locals = [] } = ap (λ ls. world_in c.args.table.now k ls c.args.file_kind) c.new-none.ensures in
    let same = ap (in_file_kind (read_file_kind c.args.file_kind)) (c.names_law.ensures.stays k c.new-none.result c.args.table.now us (none_ready k _ _ c.new-none.ensures c.requires) c.in_ok-types.ensures.grows).world in
    let is = trees_in us c.in_ok-types.types in
    let parts = function-inputs x c.args.inputs.now c.args.output.now is (ap (λ (u : World). meanings_in u c.args.inputs.now) (sym alone) ∙ c.in_ok-types.ensures.gives.is) in
    subst (GivesTree c.function_to.new.table c.function_to.result) (sym (parts ∙ ap (λ (u : World). function_to u is c.args.output.now) (sym (same ∙ alone)))) c.function_to.ensures.gives

pub returns-clause-grows : goal.returns-clause-grows
returns-clause-grows c = grows_on c.args.table.now c.meanings_at.new.table c.function_to.new.table c.in_ok-types.ensures.grows c.function_to.ensures.grows
