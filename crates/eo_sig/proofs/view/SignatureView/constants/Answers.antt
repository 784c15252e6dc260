use Rattle.std.proofs.Common.{length, ap, sym, ◌∙◌}
use Rattle.std.specs.Option.{option_copied}
use Rattle.eo_sig.specs.Reading.{Kept, constants_of, read_constant}
use Rattle.std.proofs.lemmas.List.{length-map}
use Rattle.eo_sig.proofs.Readings.{constants_read}
use Rattle.eo_sig.proofs.Views.{own_constants}
use Rattle.eo_sig.proofs.view.SignatureView.constants.Goals as goal

pub returns-clause-count : goal.returns-clause-count
returns-clause-count c =
    c.constants.ensures.count ∙ sym (ap length (own_constants c.self.inside.sig.now (option_copied c.self.inside.own))) ∙ ap (λ (k : Kept). length (constants_of k)) c.self.view_is

pub returns-clause-value : goal.returns-clause-value
returns-clause-value c = λ ts.
    returns-clause-count c ∙ sym (ap length (constants_read ts c.args.self.now.entries) ∙ length-map (constants_of c.args.self.now) (read_constant ts))
