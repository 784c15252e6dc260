use Rattle.eo_sig.specs.declared.records.Declared.TheVariants as declared
use Rattle.eo_sig.proofs.Adding.{stays_with}
use Rattle.eo_sig.proofs.Usable.{usable_literal}
use Rattle.eo_sig.proofs.signature.Signature.set_literal_type.Goals as goal

pub returns-in-Ok-clause-usable : goal.returns-in-Ok-clause-usable
returns-in-Ok-clause-usable c = λ ts.
    stays_with c.args.self.now _ (declared.Literal c.args.class c.args.ty) c.in-Ok.ensures.kept ts (usable_literal _ _ _)
