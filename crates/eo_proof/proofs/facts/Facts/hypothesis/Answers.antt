use Rattle.eo_proof.proofs.Reading.{innermost_below}
use Rattle.eo_proof.proofs.facts.Facts.hypothesis.Goals as goal

pub returns-clause-below : goal.returns-clause-below
returns-clause-below c = (λ m h. innermost_below m c.args.self.now c.innermost.result c.innermost.ensures h)
