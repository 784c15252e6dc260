use Rattle.eo_base.proofs.Answering.{fails}
use Rattle.eo_declare.specs.Declarations.{as_constant}
use Rattle.eo_declare.proofs.CheckedLemmas.{then-ok, then-err}
use Rattle.eo_declare.proofs.declaring.declared_constant.Goals as goal

pub returns-in_err-d-clause-gives : goal.returns-in_err-d-clause-gives
returns-in_err-d-clause-gives c = fails _ _ _ _ _ _ _ c.from_residual.ensures.1 (λ f e. then-err as_constant _ f e) c.in_err-d.ensures.gives

pub returns-clause-gives : goal.returns-clause-gives
returns-clause-gives c = record {
  live = c.in_ok-d.ensures.gives.live;
  is = then-ok as_constant _ _ c.in_ok-d.ensures.gives.is;
}
