use Rattle.std.proofs.Common.{ℕ, ◌<◌, length, Option, option_map, ap, sym, subst, ◌∙◌}
use Rattle.std.specs.Prelude.{IfSome}
use Rattle.eo_shape.specs.Reading.{read_step}
use Rattle.eo_term.specs.Growth.{tree_in}
use Rattle.eo_session.specs.Store.{state_of}
use Rattle.eo_base.specs.Checks.{Checked}
use Rattle.eo_session.specs.Effects.{Effect}
use Rattle.eo_session.specs.Deciding.{Decides}
use Rattle.eo_session.proofs.Concluding.{pop-none, pop-redeclared, pop-free}
use Rattle.eo_session.proofs.store.Store.decide_pop.Goals as goal

pub returns-in_default-clause-decides : goal.returns-in_default-clause-decides
returns-in_default-clause-decides c =
    let h = c.args.self.now in
    (pop-none (state_of h) (read_step c.args.shape.now) (sym (c.hypothesis.ensures.innermost h.table.trees) ∙ ap (option_map (tree_in h.table)) c.in_default.is), λ q. absurd cc)

pub returns-then-not-is_free_outside-clause-decides : goal.returns-then-not-is_free_outside-clause-decides
returns-then-not-is_free_outside-clause-decides c =
    let h = c.args.self.now in
    let is = sym (c.hypothesis.ensures.innermost h.table.trees) ∙ ap (option_map (tree_in h.table)) c.in-Some.is in
    (pop-redeclared (state_of h) (read_step c.args.shape.now) (tree_in h.table c.in-Some.assumed) is (sym c.is_free_outside.ensures ∙ c.if-not-is_free_outside.true), λ q. absurd cc)

pub decide_outside-requires-clause-live : goal.decide_outside-requires-clause-live
decide_outside-requires-clause-live c =
    let n = length c.args.self.now.table.trees in
    subst (λ (o : Option ℕ). IfSome o (λ i. i < n)) c.in-Some.is (c.hypothesis.ensures.below n c.requires.store.facts)

pub decide_outside-requires-clause-assumed : goal.decide_outside-requires-clause-assumed
decide_outside-requires-clause-assumed c =
    let h = c.args.self.now in
    sym (c.hypothesis.ensures.innermost h.table.trees) ∙ ap (option_map (tree_in h.table)) c.in-Some.is

pub decide_outside-requires-clause-free : goal.decide_outside-requires-clause-free
decide_outside-requires-clause-free c = sym c.is_free_outside.ensures ∙ c.if-not-is_free_outside.false

pub returns-clause-decides : goal.returns-clause-decides
returns-clause-decides c =
    let h = c.args.self.now in
    let is = sym (c.hypothesis.ensures.innermost h.table.trees) ∙ ap (option_map (tree_in h.table)) c.in-Some.is in
    subst (λ (m : Checked Effect). Decides c.decide_outside.new.self c.decide_outside.result m)
    (sym (pop-free (state_of h) (read_step c.args.shape.now) (tree_in h.table c.in-Some.assumed) is (sym c.is_free_outside.ensures ∙ c.if-not-is_free_outside.false)))
    c.decide_outside.ensures.decides
