use Rattle.std.proofs.Common.{ℕ, List, ◌<◌, length, sym, ap, subst, ◌∙◌, arith}
use Rattle.std.specs.Prelude.{Ok, Result}
use Rattle.std.proofs.Math.Path.{transport}
use Rattle.std.proofs.lemmas.List.Elements.{All-weaker}
use Rattle.eo_elab.specs.Worlds.{named_terms_in}
use Rattle.eo_names.specs.Names.{Binding}
use Rattle.eo_term.specs.Growth.{tree_in}
use Rattle.eo_session.specs.Asserting.{MayBeNames}
use Rattle.eo_session.specs.Decisions.{asserted_effect}
use Rattle.eo_session.specs.Effects.{Asserts}
use Rattle.eo_session.specs.Deciding.{Decides}
use Rattle.eo_session.specs.Store.{state_of}
use Rattle.eo_session.specs.State.{is_in_scope}
use Rattle.eo_session.specs.Step.{formula_of}
use Rattle.eo_session.specs.Stepping.{GivesTerm}
use Rattle.eo_session.specs.declared.effects.Effect.TheVariants as effect
use Rattle.eo_session.specs.declared.refused.Refused.{Refused}
use Rattle.eo_session.proofs.Assertions.{asserted-fault, asserted-is, named_terms_later}
use Rattle.eo_session.proofs.Decided.{decides-refused}
use Rattle.eo_session.proofs.store.Store.decide_asserted.Goals as goal

pub returns-in_err-formula-clause-decides : goal.returns-in_err-formula-clause-decides
returns-in_err-formula-clause-decides c =
    let h = c.args.self.now in
    let new = c.formula_of.new.self in
    let t = tree_in h.table c.args.id in
    decides-refused (formula_of (state_of h) t) _ c.from_residual.result c.in_err-formula.field-0.0 new c.from_residual.ensures.1
    (subst (λ (r : Result ℕ Refused). GivesTerm new r (formula_of (state_of h) t)) c.in_err-formula.ensures.refused c.formula_of.ensures.gives)
    (asserted-fault (state_of h) t (named_terms_in h.table c.args.names))

pub returns-clause-decides : goal.returns-clause-decides
returns-clause-decides c =
    let h = c.args.self.now in
    let new = c.formula_of.new.self in
    let st = state_of h in
    let t = tree_in h.table c.args.id in
    let names = c.args.names in
    let i = c.in_ok-formula.formula in
    let v = tree_in new.table i in
    let keeps = c.formula_of.ensures.keeps in
    let given = subst (λ (r : Result ℕ Refused). GivesTerm new r (formula_of st t)) c.in_ok-formula.ensures.called c.formula_of.ensures.gives in
    let named_terms = named_terms_later h.table new.table keeps.grows names c.requires.below in
    subst (λ (n : List Binding). Decides new (Ok (effect.Assert i n)) (asserted_effect st t (named_terms_in h.table names))) (sym c.in_ok-formula.ensures.other)
    (record {
      live = record {
        live = given.live;
        below = All-weaker (λ (b : Binding). b.1 < length h.table.trees) (λ (b : Binding). b.1 < length new.table.trees) (λ b l. omega (arith, l, keeps.grows.now.more_trees)) names c.requires.below;
        new = transport (λ j. MayBeNames (sym keeps.same j) (sym named_terms j)) c.requires.new;
        outside = ap is_in_scope keeps.same ∙ c.requires.outside;
      };
      is = asserted-is st t (named_terms_in h.table names) v given.is ∙ (λ j. Ok (Asserts v (sym named_terms j)));
    })
