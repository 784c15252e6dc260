use Rattle.std.proofs.Common.{◌≡◌, ◌∙◌, map, ap, ap₂, sym}
use Rattle.std.specs.Prelude.{option_and_then}
use Rattle.std.proofs.lemmas.Result.{IfOk-weaker}
use Rattle.clap.specs.Words.{fault_of, is_simple, is_simple_and_free, subcommand_of, takes}
use Rattle.eo_main.specs.CommandLine as line
use Rattle.eo_main.proofs.Readings.{read, unread}
use Rattle.eo_main.proofs.words.read_words.Goals as goal

pub returns-in-Ok : goal.returns-in-Ok
returns-in-Ok c =
    let program_is = c.in_ok-program.ensures in
    let words_are : map (λ s. s.now) c.as_slice.result.now ≡ c.args.words.now = ap (map (λ s. s.now)) c.as_slice.ensures.value ∙ c.in_ok-texts.ensures in
    let none = sym (ap₂ fault_of program_is words_are) ∙ c.in-Ok.ensures.kinds (ap is_simple_and_free program_is) in
    let found = (c.in-Ok.ensures.matches (ap is_simple program_is)).1 ∙ ap₂ subcommand_of program_is words_are in
    IfOk-weaker c.request_of.result _ _ (λ reading e. e ∙ ap (option_and_then line.request_of) found ∙ sym (read c.args.words.now none)) c.request_of.ensures

pub returns : goal.returns
returns c =
    let program_is = c.in_ok-program.ensures in
    let words_are : map (λ s. s.now) c.as_slice.result.now ≡ c.args.words.now = ap (map (λ s. s.now)) c.as_slice.ensures.value ∙ c.in_ok-texts.ensures in
    unread c.args.words.now (λ taken. c.in_default.not-OutOfMemory (c.kind.ensures ∙ c.in-Err.ensures.passes (ap₂ takes program_is words_are ∙ taken)))
