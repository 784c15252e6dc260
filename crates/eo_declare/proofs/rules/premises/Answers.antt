use Rattle.std.proofs.Common.{ap, ◌∙◌}
use Rattle.std.specs.Prelude.{Ok}
use Rattle.eo_base.proofs.Answering.{fails}
use Rattle.eo_shape.specs.Reading.{read_premises}
use Rattle.eo_term.specs.Tree.{Tree}
use Rattle.eo_names.specs.Worlds.{world_of}
use Rattle.eo_declare.specs.Declarations.{EachMeant, JoinedMeant}
use Rattle.eo_elab.specs.Meaning.{meaning}
use Rattle.eo_declare.specs.RuleParts.{premises_in, requirement_in}
use Rattle.eo_declare.proofs.CheckedLemmas.{then-ok, then-err}
use Rattle.eo_declare.proofs.RuleLemmas.{joined-parts}
use Rattle.eo_declare.proofs.rules.premises.Goals as goal

pub returns-in_err-ids-in-Each-clause-gives : goal.returns-in_err-ids-in-Each-clause-gives
returns-in_err-ids-in-Each-clause-gives c =
    let w = world_of c.args.table.now c.args.sig.now c.args.locals.now in
    fails _ _ _ _ _ _ _ c.from_residual.ensures.1 (λ f e. ap (λ k. premises_in w (read_premises k)) c.in-Each.is ∙ then-err (λ ts. Ok (EachMeant ts)) _ f e) c.in_err-ids-in-Each.ensures.gives

pub returns-in_ok-ids-in-Each-clause-gives : goal.returns-in_ok-ids-in-Each-clause-gives
returns-in_ok-ids-in-Each-clause-gives c =
    let w = world_of c.args.table.now c.args.sig.now c.args.locals.now in
    record {
      live = c.in_ok-ids-in-Each.ensures.gives.live;
      is = ap (λ k. premises_in w (read_premises k)) c.in-Each.is ∙ then-ok (λ ts. Ok (EachMeant ts)) _ _ c.in_ok-ids-in-Each.ensures.gives.is;
    }

pub returns-in_err-pattern-in-Joined-clause-gives : goal.returns-in_err-pattern-in-Joined-clause-gives
returns-in_err-pattern-in-Joined-clause-gives c =
    let w = world_of c.args.table.now c.args.sig.now c.args.locals.now in
    let p = c.in-Joined.pattern in
    let g = c.in-Joined.joiner in
    fails _ _ _ _ _ _ _ c.from_residual-in_err-pattern-in-Joined.ensures.1
    (λ f e. ap (λ k. premises_in w (read_premises k)) c.in-Joined.is ∙ joined-parts (meaning w.names w.locals p) (meaning w.names w.locals g) ∙ then-err (λ (q : Tree × Tree). Ok (JoinedMeant q.0 q.1)) (requirement_in w (p, g)) f e)
    c.in_err-pattern-in-Joined.ensures.gives

pub returns-in_ok-pattern-in-Joined-clause-gives : goal.returns-in_ok-pattern-in-Joined-clause-gives
returns-in_ok-pattern-in-Joined-clause-gives c =
    let w = world_of c.args.table.now c.args.sig.now c.args.locals.now in
    let p = c.in-Joined.pattern in
    let g = c.in-Joined.joiner in
    record {
      live = c.in_ok-pattern-in-Joined.ensures.gives.live;
      is = ap (λ k. premises_in w (read_premises k)) c.in-Joined.is ∙ joined-parts (meaning w.names w.locals p) (meaning w.names w.locals g)
          ∙ then-ok (λ (q : Tree × Tree). Ok (JoinedMeant q.0 q.1)) (requirement_in w (p, g)) _ c.in_ok-pattern-in-Joined.ensures.gives.is;
    }
