use Rattle.std.proofs.Common.{◌≡◌, ◌+◌, ◌++◌, ◌∷◌, [], map, drop, Some, All, sym, ap, ◌∙◌, subst, append-nil, arith}
use Rattle.std.specs.Prelude.{IfSome, option_map}
use Rattle.std.proofs.lemmas.List.{map-append}
use Rattle.std.proofs.lemmas.List.Elements.{All-push}
use Rattle.eo_term.specs.Terms.{tree_at}
use Rattle.eo_pattern.proofs.Steps.{trees_from, trees_past}
use Rattle.eo_ops.specs.Lit.{lit, IsWellFormed}
use Rattle.eo_ops.specs.Operators.{literals}
use Rattle.eo_type.proofs.LiteralSteps.{one_more, none_more}
use Rattle.eo_type.proofs.literals.literals.Goals as goal

pub loop-id-preserved : goal.loop-id-preserved
loop-id-preserved c =
    let ts = c.args.table.now.trees in
    let found = c.loop-id.found.items in
    let i = c.loop-id.invariant in
    let left = trees_from ts c.args.ids.now c.loop-id.id-index c.id-item.result (omega arith) c.id-item.is in
    let rest = map (tree_at ts) (drop (c.loop-id.id-index + 1) c.args.ids.now) in
    let items : c.push.new.self.items ≡ found ++ c.in-Some.one ∷ [] = c.in_ok-push.ensures.items in
    record {
      value =
          one_more (map lit found) (tree_at ts c.id-item.result) rest (map (tree_at ts) c.args.ids.now) (i.value ∙ ap (λ us. option_map (λ ls. map lit found ++ ls) (literals us)) left) (lit c.in-Some.one) (ap (option_map lit) (sym c.in-Some.is) ∙ c.in_ok-one.ensures.value)
          ∙ ap (λ fs. option_map (λ ls. fs ++ ls) (literals rest)) (sym (ap (map lit) items ∙ map-append lit found (c.in-Some.one ∷ [])));
      well_formed = subst (All IsWellFormed) (sym items) (All-push IsWellFormed found c.in-Some.one i.well_formed (subst (λ o. IfSome o IsWellFormed) c.in-Some.is c.in_ok-one.ensures.well_formed));
    }

pub returns-in_default-clause-value : goal.returns-in_default-clause-value
returns-in_default-clause-value c =
    let ts = c.args.table.now.trees in
    let found = c.loop-id.found.items in
    let left = trees_from ts c.args.ids.now c.loop-id.id-index c.id-item.result (omega arith) c.id-item.is in
    none_more (map lit found) (tree_at ts c.id-item.result) (map (tree_at ts) (drop (c.loop-id.id-index + 1) c.args.ids.now)) (map (tree_at ts) c.args.ids.now) (c.loop-id.invariant.value ∙ ap (λ us. option_map (λ ls. map lit found ++ ls) (literals us)) left) (ap (option_map lit) (sym c.in_default.is) ∙ c.in_ok-one.ensures.value)

pub returns-clause-value : goal.returns-clause-value
returns-clause-value c =
    let found = c.loop-id.found.items in
    sym (c.loop-id.invariant.value ∙ ap (λ us. option_map (λ ls. map lit found ++ ls) (literals us)) (trees_past c.args.table.now.trees c.args.ids.now c.loop-id.id-index (omega arith)) ∙ ap Some (append-nil (map lit found)))
