use Rattle.eo_sig.proofs.Growing.{grows_under}
use Rattle.eo_sig.proofs.signature.Signature.laws.Goals as goal

pub returns : goal.returns
returns c = λ old new h g. grows_under c.args.self.now old new h g
