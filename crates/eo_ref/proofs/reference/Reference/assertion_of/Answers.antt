use Rattle.std.specs.Prelude.{List, Ok}
use Rattle.eo_base.specs.Checks.{Checked}
use Rattle.eo_base.proofs.Answering.{fails}
use Rattle.eo_base.proofs.ChecksLemmas.{bind_step, bind_fails}
use Rattle.eo_names.specs.Readers.{NamedTerm}
use Rattle.eo_term.specs.Tree.{Tree}
use Rattle.eo_ref.specs.Reference.{ReferenceNext, Asserts}
use Rattle.eo_ref.proofs.reference.Reference.assertion_of.Goals as goal

abbrev asserts : Tree × List NamedTerm → Checked ReferenceNext
asserts r = Ok (Asserts r.0 r.1)

pub returns-in_err-read-clause-gives : goal.returns-in_err-read-clause-gives
returns-in_err-read-clause-gives c = fails _ _ _ _ _ _ _ c.from_residual.ensures.1 (λ f e. bind_fails _ asserts f e) c.in_err-read.ensures.gives

pub returns-clause-gives : goal.returns-clause-gives
returns-clause-gives c = record {
  live = c.in_ok-read.ensures.gives.live;
  is = bind_step _ asserts _ c.in_ok-read.ensures.gives.is;
}
