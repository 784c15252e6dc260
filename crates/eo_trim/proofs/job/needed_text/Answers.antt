use Rattle.std.proofs.Common.{◌≡◌, ◌∷◌, [], List, Bool, ap, ◌∙◌}
use Rattle.std.proofs.lemmas.Result.{IfOk-weaker}
use Rattle.eo_trim.specs.Marking.{is_marked, entry_needs, text_of}
use Rattle.eo_trim.specs.TrimAnswers.{needed_text}
use Rattle.eo_trim.proofs.Shortening.{text-marked}
use Rattle.eo_trim.proofs.job.needed_text.Goals as goal

pub returns-clause-text : goal.returns-clause-text
returns-clause-text c = λ below.
    let entries = c.args.entries.now in
    let marks = c.in_ok-marks.marks.items in
    IfOk-weaker c.trimmed_text.result (λ text. text.items ≡ text_of (is_marked c.deref.result.now) c.args.entries.now) (λ text. text.items ≡ needed_text c.args.command c.args.entries.now)
    (λ text e. e ∙ ap (λ (ms : List Bool). text_of (is_marked ms) c.args.entries.now) c.deref.ensures.value
    ∙ text-marked marks (entry_needs (c.args.command ∷ []) entries) entries c.in_ok-marks.ensures.all below (c.in_ok-marks.ensures.marks below))
    c.trimmed_text.ensures.text
