use Rattle.std.proofs.Common.{Some, ap, ◌∙◌}
use Rattle.std.specs.Prelude.{Ok}
use Rattle.eo_base.proofs.Answering.{fails}
use Rattle.eo_names.specs.Worlds.{world_of}
use Rattle.eo_declare.specs.RuleParts.{optional_in}
use Rattle.eo_declare.proofs.CheckedLemmas.{then-ok, then-err}
use Rattle.eo_declare.proofs.rules.optional.Goals as goal

pub returns-in_err-id-in-Some-clause-gives : goal.returns-in_err-id-in-Some-clause-gives
returns-in_err-id-in-Some-clause-gives c =
    let w = world_of c.args.table.now c.args.sig.now c.args.locals.now in
    fails _ _ _ _ _ _ _ c.from_residual.ensures.1 (λ f e. ap (optional_in w) c.in-Some.is ∙ then-err (λ t. Ok (Some t)) _ f e) c.in_err-id-in-Some.ensures.gives

pub returns-in_ok-id-in-Some-clause-gives : goal.returns-in_ok-id-in-Some-clause-gives
returns-in_ok-id-in-Some-clause-gives c =
    let w = world_of c.args.table.now c.args.sig.now c.args.locals.now in
    record {
      live = c.in_ok-id-in-Some.ensures.gives.live;
      is = ap (optional_in w) c.in-Some.is ∙ then-ok (λ t. Ok (Some t)) _ _ c.in_ok-id-in-Some.ensures.gives.is;
    }
