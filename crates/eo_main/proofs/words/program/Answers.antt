use Rattle.std.proofs.Common.{ap, ◌≡◌, ◌∙◌}
use Rattle.std.proofs.lemmas.Result.{IfOk-weaker}
use Rattle.clap.specs.Simple.{app_of_fields}
use Rattle.clap.specs.Words.{app_of, with_subcommand}
use Rattle.eo_main.specs.CommandLine as line
use Rattle.eo_main.proofs.words.program.Goals as goal

pub returns : goal.returns
returns c =
    let set : app_of c.subcommand_required-alone.result ≡ line.requires_subcommand (app_of c.new.result) = ap app_of_fields c.subcommand_required-alone.ensures in
    let alone_is = set ∙ ap line.requires_subcommand c.new.ensures.app in
    let with_check_is = c.in_ok-ethos.ensures ∙ ap (λ a. with_subcommand a line.check_command.top) alone_is in
    let with_load_is = c.in_ok-ethos-2.ensures ∙ ap (λ a. with_subcommand a line.load_command.top) with_check_is in
    let with_bench_is = c.in_ok-ethos-3.ensures ∙ ap (λ a. with_subcommand a line.bench_command.top) with_load_is in
    let with_show_is = c.in_ok-ethos-4.ensures ∙ ap (λ a. with_subcommand a line.show_command.top) with_bench_is in
    let with_trim_is = c.in_ok-ethos-5.ensures ∙ ap (λ a. with_subcommand a line.trim_command.top) with_show_is in
    IfOk-weaker c.with_prove.result _ _ (λ m is. is ∙ ap (λ a. with_subcommand a line.prove_command.top) with_trim_is) c.with_prove.ensures
