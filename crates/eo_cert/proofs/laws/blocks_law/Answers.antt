use Rattle.eo_cert.proofs.ClosedBodies.{bodies_closed}
use Rattle.eo_cert.proofs.FewCalls.{value_has_block}
use Rattle.eo_cert.proofs.Known.{known_line}
use Rattle.eo_cert.proofs.OneEach.{block_one}
use Rattle.eo_base.specs.Limits.{calls_limit}
use Rattle.eo_cert.proofs.laws.blocks_law.Goals as goal

pub returns-clause-block : goal.returns-clause-block
returns-clause-block c = λ S t v usable checked low closed e.
    value_has_block S (λ k u b w d q. c.values_law.ensures.part S calls_limit k u w b d usable q) (bodies_closed S checked) t v low closed e

pub returns-clause-one : goal.returns-clause-one
returns-clause-one c = block_one

pub returns-clause-again : goal.returns-clause-again
returns-clause-again c = λ S es calls t o k b d e usable checked h is_in term.
    known_line S (λ j u x w y q. c.values_law.ensures.part S calls_limit j u w x y usable q) (bodies_closed S checked) es calls t o k b d e h is_in term
