use Rattle.std.specs.Prelude.{Ok}
use Rattle.eo_base.specs.Checks.{Checked}
use Rattle.eo_base.proofs.Answering.{fails}
use Rattle.eo_base.proofs.ChecksLemmas.{bind_step, bind_fails}
use Rattle.eo_declare.specs.Declarations.{Declaration}
use Rattle.eo_ref.specs.Reference.{ReferenceNext, Declares}
use Rattle.eo_ref.proofs.reference.Reference.declaration_of.Goals as goal

abbrev declaring : Declaration → Checked ReferenceNext
declaring d = Ok (Declares d)

pub returns-in_err-d-clause-gives : goal.returns-in_err-d-clause-gives
returns-in_err-d-clause-gives c = fails _ _ _ _ _ _ _ c.from_residual.ensures.1 (λ f e. bind_fails _ declaring f e) c.in_err-d.ensures.gives

pub returns-clause-gives : goal.returns-clause-gives
returns-clause-gives c = record {
  live = c.in_ok-d.ensures.gives.live;
  is = bind_step _ declaring _ c.in_ok-d.ensures.gives.is;
}
