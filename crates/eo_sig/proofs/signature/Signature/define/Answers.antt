use Rattle.std.proofs.Common.{sym, subst}
use Rattle.eo_sig.specs.Reading.{IsBelow}
use Rattle.eo_sig.proofs.Readings.{free_macro, below_macro}
use Rattle.eo_sig.proofs.signature.Signature.define.Goals as goal

pub keep_macro-requires : goal.keep_macro-requires
keep_macro-requires c = free_macro c.args.self.now c.args.d.name c.requires.free

pub returns-in-Ok-clause-below : goal.returns-in-Ok-clause-below
returns-in-Ok-clause-below c = λ m h g. subst (IsBelow m) (sym c.in-Ok.ensures.kept) (below_macro m c.args.self.now c.args.d h g)
