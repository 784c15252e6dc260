use Rattle.std.proofs.Common.{◌≡◌, ◌<◌, ◌≤◌, length, ap, sym, subst, ◌∙◌, arith, All, []}
use Rattle.eo_base.proofs.Answering.{gives_fault, ok_always}
use Rattle.eo_base.proofs.Elements.{ids_more}
use Rattle.eo_term.specs.Growth.{trees_in}
use Rattle.eo_names.specs.Binders.{variables_of}
use Rattle.eo_names.specs.Folding.{attribute_at, least}
use Rattle.eo_names.specs.Gives.{GivesTerm}
use Rattle.eo_names.specs.Readers.{with_named_terms}
use Rattle.eo_names.specs.Scopes.{bound_in}
use Rattle.eo_names.specs.Worlds.{world, folded_in, bound_list_in, seen_in}
use Rattle.eo_names.proofs.BinderLemmas.{list_few, list_tall, seen_list, length_pairs}
use Rattle.eo_names.proofs.Giving.{labelled, tall_told}
use Rattle.eo_names.proofs.JoinLemmas.{map_grown}
use Rattle.eo_names.proofs.binders.list_or_leave.Goals as goal

pub returns-then-len-least_of-clause-gives : goal.returns-then-len-least_of-clause-gives
returns-then-len-least_of-clause-gives c =
    let w = world c.args.table.now c.args.sig.now c.args.scope.now in
    let ts = c.args.table.now.trees in
    list_few w.names.signature w.locals c.args.collector (seen_in c.args.table.now c.args.names.now) (omega (arith, length_pairs ts c.args.names.now, c.least_of.ensures ts))

pub returns-in_err-make_variables-clause-gives : goal.returns-in_err-make_variables-clause-gives
returns-in_err-make_variables-clause-gives c =
    let w = world c.args.table.now c.args.sig.now c.args.scope.now in
    let ts = c.args.table.now.trees in
    let ps = seen_in c.args.table.now c.args.names.now in
    let enough : least (attribute_at w.names.signature c.args.collector) ≤ length ps = omega (arith, length_pairs ts c.args.names.now, c.least_of.ensures ts) in
    gives_fault _ _ _ _ _ _ c.from_residual.ensures.1
    (tall_told c.in_err-make_variables.field-0.0 _ (bound_list_in w c.args.collector ps) (list_tall w.names.signature w.locals c.args.collector ps enough) c.in_err-make_variables.ensures.makes)

pub fold_constant-requires-clause-args : goal.fold_constant-requires-clause-args
fold_constant-requires-clause-args c =
    let n = length c.make_variables.new.table.trees in
    subst (λ is. All (λ i. i < n) is) (sym c.as_slice.ensures) c.in_ok-make_variables.ensures.makes.live

pub returns-clause-variables : goal.returns-clause-variables
returns-clause-variables c =
    let made = c.in_ok-make_variables.ensures.makes in
    let next = c.make_variables.new.table in
    let n = length next.trees in
    let grown = c.fold_constant.ensures.grows.now in
    let is = c.make_variables.new.variables in
    ok_always _ c.fold_constant.result (λ x. record {
      live = ids_more n (length c.fold_constant.new.table.trees) grown.more_trees is made.live;
      trees = map_grown n next.trees c.fold_constant.new.table.trees grown.tree is made.live ∙ made.trees;
    })

pub returns-clause-gives : goal.returns-clause-gives
returns-clause-gives c =
    let w = world c.args.table.now c.args.sig.now c.args.scope.now in
    let next = c.make_variables.new.table in
    let v = world next c.args.sig.now c.args.scope.now in
    let collector = c.args.collector in
    let ps = seen_in c.args.table.now c.args.names.now in
    let same : v ≡ w = (c.names_law.ensures.stays c.args.sig.now (bound_in c.args.scope.now) c.args.table.now next c.requires.ready c.make_variables.ensures.grows).world in
    let given = trees_in next c.as_slice.result.now in
    let args : given ≡ variables_of ps = ap (trees_in next) c.as_slice.ensures ∙ c.in_ok-make_variables.ensures.makes.trees in
    let step : bound_list_in w collector ps ≡ with_named_terms [] (folded_in v collector given) =
    seen_list w.names.signature w.locals collector ps ∙ ap (with_named_terms []) (sym (λ i. folded_in (same i) collector (args i))) in
    subst (GivesTerm c.fold_constant.new.table c.fold_constant.result) (sym step) (labelled c.fold_constant.new.table c.fold_constant.result (folded_in v collector given) c.fold_constant.ensures.gives)
