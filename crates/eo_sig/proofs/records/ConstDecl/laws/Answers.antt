use Rattle.std.proofs.Common.{length}
use Rattle.eo_sig.proofs.Same.{constant_same}
use Rattle.eo_sig.proofs.records.ConstDecl.laws.Goals as goal

pub returns : goal.returns
returns c = λ old new h g. constant_same (length old.trees) old.trees new.trees (record { at = g.tree }) c.args.self.now h
