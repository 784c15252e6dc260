use Rattle.std.proofs.Common.{[], not, sym, ap, ◌∙◌}
use Rattle.eo_sig.specs.Reading.{signature, read_counts}
use Rattle.eo_sig.proofs.Readings.{apart_anywhere}
use Rattle.eo_sig.proofs.Single.{apart_new}
use Rattle.eo_sig.proofs.signature.Signature.is_apart.Goals as goal

pub returns-in-Some : goal.returns-in-Some
returns-in-Some c = λ ts.
    let k = c.args.self.now in
    ap not (c.meets.ensures c.args.name.now (sym (c.first_named.ensures.named []) ∙ c.in-Some.is)) ∙ sym (apart_anywhere ts k.entries c.args.name.now (read_counts c.args.counts))

pub returns-in-None : goal.returns-in-None
returns-in-None c = λ ts. sym (apart_new (signature ts c.args.self.now) c.args.name.now (read_counts c.args.counts) (sym (c.first_named.ensures.named ts) ∙ c.in-None.is))
