use Rattle.std.proofs.Common.{[], sym, ap, ◌∙◌}
use Rattle.std.specs.Prelude.{is_some}
use Rattle.eo_sig.specs.Indexed.{is_met}
use Rattle.eo_sig.specs.Reading.{signature, read_counts}
use Rattle.eo_sig.proofs.Indexed.{met_exactly}
use Rattle.eo_sig.proofs.signature.Signature.meets.Goals as goal

pub returns-in-Exactly : goal.returns-in-Exactly
returns-in-Exactly c = λ w h.
    let S = signature [] c.args.self.now in
    c.is_some.ensures ∙ ap is_some (c.taking.ensures w h) ∙ met_exactly S w c.in-Exactly.n ∙ ap (λ q. is_met S w (read_counts q)) (sym c.in-Exactly.is)

pub returns-in-From : goal.returns-in-From
returns-in-From c = λ w h. c.reaches.ensures w h ∙ ap (λ q. is_met (signature [] c.args.self.now) w (read_counts q)) (sym c.in-From.is)
