use Rattle.std.proofs.Common.{◌≡◌, sym, ap, ◌∙◌, subst}
use Rattle.eo_term.specs.Tree.{is_value}
use Rattle.eo_term.specs.Terms.{tree_at}
use Rattle.eo_pattern.specs.Matching.{empty, assign, put}
use Rattle.eo_pattern.specs.Slots.{held}
use Rattle.eo_type.specs.Types.{Typed, on_typed, typed_if, settled}
use Rattle.eo_type.specs.Outcomes.{Stops, Gives}
use Rattle.eo_type.proofs.Walk.{stops_first, gives_stop}
use Rattle.eo_type.proofs.Assigned.{empty_held}
use Rattle.eo_type.proofs.types.literal_with.Goals as goal

pub returns-in_err-found : goal.returns-in_err-found
returns-in_err-found c =
    let ts = c.args.table.now.trees in
    let t = tree_at ts c.args.ty in
    let found : held ts c.assign.new.subst ≡ assign empty 0 (tree_at ts c.args.id) = c.in_ok-assign.ensures.held ∙ ap (λ σ. assign σ 0 (tree_at ts c.args.id)) (empty_held ts c.args.subst.now c.requires.empty) in
    record {
      gives = gives_stop _ _ _ _ c.from_residual-in_err-found.ensures.1
          (stops_first c.in_err-found.field-0.0 (settled (put (assign empty 0 (tree_at ts c.args.id)) t)) (λ u. typed_if (is_value u) u) (subst (λ σ. Stops c.in_err-found.field-0.0 (settled (put σ t))) found c.in_err-found.ensures.gives));
      grows = c.in_err-found.ensures.grows;
    }

pub returns : goal.returns
returns c =
    let ts = c.args.table.now.trees in
    let t = tree_at ts c.args.ty in
    let found : held ts c.assign.new.subst ≡ assign empty 0 (tree_at ts c.args.id) = c.in_ok-assign.ensures.held ∙ ap (λ σ. assign σ 0 (tree_at ts c.args.id)) (empty_held ts c.args.subst.now c.requires.empty) in
    let made : settled (put (assign empty 0 (tree_at ts c.args.id)) t) ≡ Typed (tree_at c.settle_under.new.table.trees c.in_ok-found.found) = ap (λ σ. settled (put σ t)) (sym found) ∙ c.in_ok-found.ensures.gives.typed in
    record {
      gives = subst (Gives c.settle_under.new.table c.if_value.result) (sym (ap (λ o. on_typed o (λ u. typed_if (is_value u) u)) made)) c.if_value.ensures.gives;
      grows = c.in_ok-found.ensures.grows;
    }
