use Rattle.std.proofs.Common.{ap, ap₂, ◌≡◌, ◌∙◌, ◌||◌, Bool}
use Rattle.std.proofs.lemmas.Result.{IfOk-at_ok, IfOk-weaker}
use Rattle.clap.specs.Words.{App, app_of, with_rule, with_subcommand}
use Rattle.eo_main.specs.CommandLine as line
use Rattle.eo_main.proofs.words.with_prove.Goals as goal

abbrev or : Bool → Bool → Bool
or a b = a || b

pub returns : goal.returns
returns c =
    let first = IfOk-at_ok _ c.in_ok-begun.ensures.called c.arg-begun.ensures in
    let second = IfOk-at_ok _ c.in_ok-prove.ensures.called c.arg-whole.ensures in
    let begun_local = first.globals ∙ ap₂ or c.new.ensures.local c.required_valued.ensures.local in
    let local = second.globals ∙ ap₂ or begun_local c.positional.ensures.local in
    let begun_is = first.shape c.required_valued.ensures.local ∙ ap₂ with_rule c.new.ensures.app c.required_valued.ensures.rule in
    let prove_is : app_of c.in_ok-prove.prove ≡ line.prove_command = second.shape c.positional.ensures.local ∙ ap₂ with_rule begun_is c.positional.ensures.rule in
    IfOk-weaker c.subcommand.result _ _ (λ m h. h.shape local
    ∙ ap₂ with_subcommand (ap app_of c.in_ok-prove.ensures.other ∙ ap app_of c.in_ok-begun.ensures.other) (ap (λ (a : App). a.top) prove_is)) c.subcommand.ensures
