use Rattle.std.proofs.Common.{◌≡◌, ◌<◌, ℕ, [], ◌∷◌, Ok, length, sym, ◌∙◌, subst, arith}
use Rattle.std.proofs.lemmas.List.Elements.{All-cons, All-nil}
use Rattle.eo_base.specs.Answers.{Tells}
use Rattle.eo_base.specs.Checks.{Checked, value_or}
use Rattle.eo_base.specs.declared.FaultName.TheVariants.{IllTyped}
use Rattle.eo_sig.specs.Reading.{signature}
use Rattle.eo_term.specs.Terms.{tree_at}
use Rattle.eo_term.specs.Tree.{Tree}
use Rattle.eo_pattern.specs.Matching.{Assignment, put, matching}
use Rattle.eo_pattern.specs.Slots.{held}
use Rattle.eo_type.specs.Types.{settled}
use Rattle.eo_type.proofs.Fitting.{grows_under_on}
use Rattle.eo_rule.specs.Answers.{told, GivesAssignment}
use Rattle.eo_rule.specs.Uses.{typed_or, typed, check_value}
use Rattle.eo_rule.proofs.Steps.{assignment_fails}
use Rattle.eo_rule.proofs.Chains.{value-first, value-second, value-last}
use Rattle.eo_rule.proofs.typing.check_value.Goals as goal

pub returns-in_err-found-clause-gives : goal.returns-in_err-found-clause-gives
returns-in_err-found-clause-gives c =
    let t = c.args.table.now in
    let S = signature t.trees c.args.sig.now in
    let σ = held t.trees c.args.subst.now in
    let d = tree_at t.trees c.args.ty in
    let v = tree_at t.trees c.args.value in
    assignment_fails c.value_type.new.table c.args.subst.now _ (check_value S σ d v) c.in_err-found.field-0.0 (typed S v) c.from_residual.ensures.1 (value-first S σ d v) c.in_err-found.ensures.gives

pub returns-in_err-expected-clause-gives : goal.returns-in_err-expected-clause-gives
returns-in_err-expected-clause-gives c =
    let t = c.args.table.now in
    let S = signature t.trees c.args.sig.now in
    let s = c.args.subst.now in
    let σ = held t.trees s in
    let d = tree_at t.trees c.args.ty in
    let v = tree_at t.trees c.args.value in
    let mid = c.value_type.new.table in
    let g = c.in_ok-found.ensures.extends.grows.table.now in
    let same : held mid.trees s ≡ σ = (c.growing_law.ensures.holds s t mid c.requires.below g).held in
    let tree : tree_at mid.trees c.args.ty ≡ d = g.tree c.args.ty c.requires.ty in
    let x = c.in_err-expected.field-0.0 in
    assignment_fails c.settle_type.new.table s _ (check_value S σ d v) x (typed_or (settled (put σ d))) c.from_residual-in_err-expected.ensures.1 (value-second S σ d v _ c.in_ok-found.ensures.gives.is)
    (subst (λ (o : Checked Tree). Tells told x o) (λ k. typed_or (settled (put (same k) (tree k)))) c.in_err-expected.ensures.gives)

pub returns-clause-gives : goal.returns-clause-gives
returns-clause-gives c =
    let t = c.args.table.now in
    let S = signature t.trees c.args.sig.now in
    let s = c.args.subst.now in
    let σ = held t.trees s in
    let d = tree_at t.trees c.args.ty in
    let v = tree_at t.trees c.args.value in
    let mid = c.value_type.new.table in
    let new = c.settle_type.new.table in
    let g = c.in_ok-found.ensures.extends.grows.table.now in
    let h = c.in_ok-expected.ensures.grows.now in
    let first = c.growing_law.ensures.holds s t mid c.requires.below g in
    let second = c.growing_law.ensures.holds s mid new first.below h in
    let tree : tree_at mid.trees c.args.ty ≡ d = g.tree c.args.ty c.requires.ty in
    let found : tree_at new.trees c.in_ok-found.found ≡ tree_at mid.trees c.in_ok-found.found = h.tree c.in_ok-found.found c.in_ok-found.ensures.gives.live in
    let u = tree_at new.trees c.in_ok-expected.expected in
    let settles : typed_or (settled (put σ d)) ≡ Ok u = sym (λ k. typed_or (settled (put (first.held k) (tree k)))) ∙ c.in_ok-expected.ensures.gives.is in
    subst (λ (o : Checked Assignment). GivesAssignment new c.match_list.result c.match_list.new.subst o)
    ((λ k. value_or IllTyped (matching ((second.held ∙ first.held) k) (u ∷ []) (found k ∷ []))) ∙ sym (value-last S σ d v _ u c.in_ok-found.ensures.gives.is settles))
    c.match_list.ensures

pub value_type-requires : goal.value_type-requires
value_type-requires c = record { live = c.requires.value; fits = c.requires.fit }

pub settle_type-requires : goal.settle_type-requires
settle_type-requires c =
    let g = c.in_ok-found.ensures.extends.grows.table.now in
    record {
      live = omega (arith, c.requires.ty, g.more_trees);
      below = (c.growing_law.ensures.holds c.args.subst.now c.args.table.now c.value_type.new.table c.requires.below g).below;
    }

pub match_list-requires : goal.match_list-requires
match_list-requires c =
    let s = c.args.subst.now in
    let mid = c.value_type.new.table in
    let new = c.settle_type.new.table in
    let h = c.in_ok-expected.ensures.grows.now in
    let P : ℕ → Type 0 = λ i. i < length new.trees in
    let first = c.growing_law.ensures.holds s c.args.table.now mid c.requires.below c.in_ok-found.ensures.extends.grows.table.now in
    record {
      patterns = All-cons P c.in_ok-expected.expected [] c.in_ok-expected.ensures.gives.live (All-nil P);
      terms = All-cons P c.in_ok-found.found [] (omega (arith, c.in_ok-found.ensures.gives.live, h.more_trees)) (All-nil P);
      below = (c.growing_law.ensures.holds s mid new first.below h).below;
    }

pub returns-in_err-found-clause-extends : goal.returns-in_err-found-clause-extends
returns-in_err-found-clause-extends c =
    record { fits = c.in_err-found.ensures.extends.fits; grows = c.in_err-found.ensures.extends.grows }

pub returns-in_err-expected-clause-extends : goal.returns-in_err-expected-clause-extends
returns-in_err-expected-clause-extends c =
    let found = c.in_ok-found.ensures.extends.fits in
    let k = c.args.sig.now in
    let mid = c.value_type.new.table in
    let new = c.settle_type.new.table in
    let first = c.in_ok-found.ensures.extends.grows in
    record {
      fits = record { fit = c.laws-2.ensures.grown c.args.sig.now c.value_type.new.table c.settle_type.new.table c.in_err-expected.ensures.grows.now found.fit; kept = found.kept };
      grows = grows_under_on k c.args.table.now mid new first (c.laws.ensures mid new first.stays.below c.in_err-expected.ensures.grows);
    }

pub returns-clause-extends : goal.returns-clause-extends
returns-clause-extends c =
    let found = c.in_ok-found.ensures.extends.fits in
    let k = c.args.sig.now in
    let mid = c.value_type.new.table in
    let new = c.settle_type.new.table in
    let first = c.in_ok-found.ensures.extends.grows in
    record {
      fits = record { fit = c.laws-2.ensures.grown c.args.sig.now c.value_type.new.table c.settle_type.new.table c.in_ok-expected.ensures.grows.now found.fit; kept = found.kept };
      grows = grows_under_on k c.args.table.now mid new first (c.laws.ensures mid new first.stays.below c.in_ok-expected.ensures.grows);
    }
