use Rattle.std.proofs.Common.{ap, ap₂, ◌≡◌, ◌∙◌, ◌||◌, Bool}
use Rattle.std.proofs.lemmas.Result.{IfOk-at_ok, IfOk-weaker}
use Rattle.clap.specs.Words.{App, app_of, with_rule, with_subcommand}
use Rattle.eo_main.specs.CommandLine as line
use Rattle.eo_main.proofs.words.with_job.Goals as goal

abbrev or : Bool → Bool → Bool
or a b = a || b

pub returns : goal.returns
returns c =
    let first = IfOk-at_ok _ c.in_ok-begun.ensures.called c.arg-begun.ensures in
    let second = IfOk-at_ok _ c.in_ok-referring.ensures.called c.arg-referring.ensures in
    let third = IfOk-at_ok _ c.in_ok-closing.ensures.called c.arg-closing.ensures in
    let fourth = IfOk-at_ok _ c.in_ok-job.ensures.called c.arg-whole.ensures in
    let begun_local = first.globals ∙ ap₂ or c.new.ensures.local c.value_option.ensures.local in
    let referring_local = second.globals ∙ ap₂ or begun_local c.value_option-2.ensures.local in
    let closing_local = third.globals ∙ ap₂ or referring_local c.flag.ensures.local in
    let local = fourth.globals ∙ ap₂ or closing_local c.positional.ensures.local in
    let begun_is = first.shape c.value_option.ensures.local ∙ ap₂ with_rule c.new.ensures.app c.value_option.ensures.rule in
    let referring_is = second.shape c.value_option-2.ensures.local ∙ ap₂ with_rule begun_is c.value_option-2.ensures.rule in
    let closing_is = third.shape c.flag.ensures.local ∙ ap₂ with_rule referring_is c.flag.ensures.rule in
    let job_is : app_of c.in_ok-job.job ≡ line.taking_job c.args.name.now = fourth.shape c.positional.ensures.local ∙ ap₂ with_rule closing_is c.positional.ensures.rule in
    IfOk-weaker c.subcommand.result _ _ (λ m h. h.shape local
    ∙ ap₂ with_subcommand (ap app_of c.in_ok-job.ensures.other ∙ ap app_of c.in_ok-closing.ensures.other ∙ ap app_of c.in_ok-referring.ensures.other ∙ ap app_of c.in_ok-begun.ensures.other)
    (ap (λ (a : App). a.top) job_is)) c.subcommand.ensures
