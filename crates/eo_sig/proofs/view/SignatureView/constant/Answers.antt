use Rattle.std.proofs.Common.{◌<◌, length, slice_get, ap, sym, subst, ◌∙◌}
use Rattle.std.specs.Option.{option_copied}
use Rattle.eo_sig.specs.Reading.{Kept, constants_of}
use Rattle.eo_sig.proofs.Readings.{constant_read, constant_below}
use Rattle.eo_sig.proofs.Views.{own_constants}
use Rattle.eo_sig.proofs.view.SignatureView.constant.Goals as goal

pub constant-requires : goal.constant-requires
constant-requires c =
    subst (λ m. c.args.n < m) (ap (λ (k : Kept). length (constants_of k)) (sym c.self.view_is) ∙ ap length (own_constants c.self.inside.sig.now (option_copied c.self.inside.own))) c.requires

pub returns-clause-kept : goal.returns-clause-kept
returns-clause-kept c =
    ap (λ (k : Kept). slice_get (constants_of k) c.args.n) (sym c.self.view_is)
    ∙ ap (λ ds. slice_get ds c.args.n) (own_constants c.self.inside.sig.now (option_copied c.self.inside.own)) ∙ c.constant.ensures.kept

pub returns-clause-value : goal.returns-clause-value
returns-clause-value c = λ ts. constant_read ts c.args.self.now c.args.n c.constant.result.now (returns-clause-kept c)

pub returns-clause-below : goal.returns-clause-below
returns-clause-below c = λ m h. constant_below m c.args.self.now c.args.n c.constant.result.now h (returns-clause-kept c)
