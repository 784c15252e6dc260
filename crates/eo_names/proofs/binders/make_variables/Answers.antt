use Rattle.std.proofs.Common.{◌≡◌, ◌+◌, ◌<◌, List, [], ◌∷◌, ◌++◌, length, map, All, drop, sym, subst, ◌∙◌, arith}
use Rattle.std.proofs.lemmas.Result.{err_from_is_err_and}
use Rattle.eo_base.proofs.Elements.{push_below}
use Rattle.eo_term.proofs.Growing.{grows_on}
use Rattle.eo_term.specs.Tree.{Tree, Var, is_tall}
use Rattle.eo_term.specs.Terms.{tree_at}
use Rattle.eo_names.specs.Binders.{variables_of}
use Rattle.eo_names.specs.Names.{read_pairs}
use Rattle.eo_names.proofs.BinderLemmas.{variable_at, no_variable, type_at}
use Rattle.eo_names.proofs.JoinLemmas.{push_grown, one_more, one_tall, all_made}
use Rattle.eo_names.proofs.binders.make_variables.Goals as goal

pub returns-in_err-id-clause-makes : goal.returns-in_err-id-clause-makes
returns-in_err-id-clause-makes c =
    let ts = c.args.table.now.trees in
    let v = c.loop-i.invariant in
    let i = c.loop-i.i in
    let bs = c.args.names.now in
    let name = c.get-ty.result.0.now in
    let ty = c.get-ty.result.1 in
    let live : ty < length ts = type_at (length ts) bs i name ty c.requires.types c.get-ty.ensures in
    let now : List Tree = map (tree_at c.loop-i.table.trees) c.loop-i.variables in
    let rest : List Tree = variables_of (read_pairs ts (drop (i + 1) bs)) in
    let e = err_from_is_err_and c.from_residual.result c.from_residual.ensures.1 in
    rw (e.1, e.2)
    (c.builds_law.ensures.taller c.in_err-id.field-0.0 _ _ (λ h. one_tall now (Var name (tree_at ts ty)) rest (variables_of (read_pairs ts bs))
    ((λ k. now ++ sym (variable_at ts bs i name ty c.get-ty.ensures) k) ∙ v.trees)
    ((λ k. is_tall (Var name (sym (v.grows.now.tree ty live) k))) ∙ h)) c.in_err-id.ensures.gives)

pub loop-i-preserved : goal.loop-i-preserved
loop-i-preserved c =
    let ts = c.args.table.now.trees in
    let v = c.loop-i.invariant in
    let i = c.loop-i.i in
    let bs = c.args.names.now in
    let name = c.get-ty.result.0.now in
    let ty = c.get-ty.result.1 in
    let live : ty < length ts = type_at (length ts) bs i name ty c.requires.types c.get-ty.ensures in
    let t : Tree = Var name (tree_at ts ty) in
    let now = c.loop-i.table.trees in
    let next = c.variable.new.table.trees in
    let g = c.variable.ensures.grows.now in
    let id = c.in_ok-id.id in
    let own : tree_at next id ≡ t = c.in_ok-id.ensures.gives.tree ∙ (λ k. Var name (v.grows.now.tree ty live k)) in
    let rest : List Tree = variables_of (read_pairs ts (drop (i + 1) bs)) in
    let pushed : c.push.new.self ≡ c.loop-i.variables ++ id ∷ [] = c.in_ok-push.ensures.pushed in
    record {
      live = subst (All (λ j. j < length next)) (sym pushed) (push_below (length now) (length next) id c.loop-i.variables g.more_trees c.in_ok-id.ensures.gives.live v.live);
      grows = grows_on _ _ _ v.grows c.variable.ensures.grows;
      trees = (λ k. map (tree_at next) (pushed k) ++ rest)
          ∙ (λ k. push_grown (length now) now next g.tree c.loop-i.variables id t v.live own k ++ rest)
          ∙ one_more (map (tree_at now) c.loop-i.variables) t rest (variables_of (read_pairs ts bs))
          ((λ k. map (tree_at now) c.loop-i.variables ++ sym (variable_at ts bs i name ty c.get-ty.ensures) k) ∙ v.trees);
    }

pub returns-clause-makes : goal.returns-clause-makes
returns-clause-makes c =
    let ts = c.args.table.now.trees in
    let bs = c.args.names.now in
    record {
      live = c.loop-i.invariant.live;
      trees = all_made (map (tree_at c.loop-i.table.trees) c.loop-i.variables) (variables_of (read_pairs ts (drop c.loop-i.i bs))) (variables_of (read_pairs ts bs)) (no_variable ts bs c.loop-i.i (omega (arith, c.len-i-end.ensures))) c.loop-i.invariant.trees;
    }

pub returns-in_err-id-clause-grows : goal.returns-in_err-id-clause-grows
returns-in_err-id-clause-grows c = grows_on _ _ _ c.loop-i.invariant.grows c.variable.ensures.grows
