use Rattle.std.proofs.Common.{ap, ap₂, ◌≡◌, ◌∙◌, ◌||◌, Bool}
use Rattle.std.proofs.lemmas.Result.{IfOk-at_ok, IfOk-weaker}
use Rattle.clap.specs.Words.{App, app_of, with_rule, with_subcommand}
use Rattle.eo_main.specs.CommandLine as line
use Rattle.eo_main.proofs.words.with_command.Goals as goal

abbrev or : Bool → Bool → Bool
or a b = a || b

pub returns : goal.returns
returns c =
    let added = IfOk-at_ok _ c.in_ok-below.ensures.called c.arg-below.ensures in
    let local = added.globals ∙ ap₂ or c.new.ensures.local c.positional.ensures.local in
    let below_is : app_of c.in_ok-below.below ≡ line.taking c.args.name.now c.args.word.now =
    added.shape c.positional.ensures.local ∙ ap₂ with_rule c.new.ensures.app c.positional.ensures.rule in
    IfOk-weaker c.subcommand.result _ _ (λ m h. h.shape local
    ∙ ap₂ with_subcommand (ap app_of c.in_ok-below.ensures.other) (ap (λ (a : App). a.top) below_is)) c.subcommand.ensures
