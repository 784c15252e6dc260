-- The words of the command line, read as `clap` reads them.
use Rattle.std.specs.Prelude.{ℕ, nat_le, ◌&&◌, List, [], ◌∷◌, fold, Option, Some, None, Bool, true, false, codes, bytes_eq, option_map, option_and_then, if◌then◌else◌}
use Rattle.std.specs.Option.{option_map_or}
use Rattle.clap.specs.declared.builder.action.ArgAction.TheVariants.{Set, SetTrue}
use Rattle.clap.specs.Words.{App, Row, Rule, Text, first_of, new_app, new_rule, subcommand_of, takes, with_rule, with_subcommand}
use Rattle.eo_lit.specs.Literals.{numeral}
use Rattle.eo_run.specs.declared.CheckJob.{CheckJob}
use Rattle.eo_main.specs.declared.Request.{Request}
use Rattle.eo_main.specs.declared.Request.TheVariants.{Check, Load, Bench, Show, Trim, Prove}

-- ---- the commands

-- `--name=VALUE` or `--name VALUE`
abbrev pub valued : Text → Rule
valued name = record (new_rule name) { long = Some name; action = Some Set }

-- the same, where it has to be there
abbrev pub required_valued : Text → Rule
required_valued name = record (valued name) { required = true }

-- `--name`
abbrev pub flag : Text → Rule
flag name = record (new_rule name) { long = Some name; action = Some SetTrue }

-- a word that has to be there
abbrev pub positional : Text → Rule
positional name = record (new_rule name) { action = Some Set; required = true }

-- a command with these arguments
abbrev pub command : Text → List Rule → App
command name rules = fold with_rule (new_app name) rules

-- a command that takes a job: `NAME [--include=F] [--reference=F] [--closed] PROOF`
abbrev pub taking_job : (name : Text) → App
taking_job name =
    command name (valued (codes "include") ∷ valued (codes "reference") ∷ flag (codes "closed") ∷ positional (codes "PROOF") ∷ [])

-- `check [--include=F] [--reference=F] [--closed] PROOF`
abbrev pub check_command : App
check_command = taking_job (codes "check")

-- a command that takes one word
abbrev pub taking : (name word : Text) → App
taking name word = command name (positional word ∷ [])

-- a command that takes two words
abbrev pub taking_two : (name first second : Text) → App
taking_two name first second = command name (positional first ∷ positional second ∷ [])

-- `load FILE`
abbrev pub load_command : App
load_command = taking (codes "load") (codes "FILE")

-- `bench N`
abbrev pub bench_command : App
bench_command = taking (codes "bench") (codes "N")

-- `show FILE NAME`
abbrev pub show_command : App
show_command = taking_two (codes "show") (codes "FILE") (codes "NAME")

-- `trim [--include=F] [--reference=F] [--closed] PROOF`
abbrev pub trim_command : App
trim_command = taking_job (codes "trim")

-- `prove --reference=F PROOF`
abbrev pub prove_command : App
prove_command = command (codes "prove") (required_valued (codes "reference") ∷ positional (codes "PROOF") ∷ [])

abbrev pub requires_subcommand : App → App
requires_subcommand a = record a { top = record a.top { subcommand_required = true } }

-- `ethos`, with one of these below it
abbrev pub program : App
program =
    let alone = requires_subcommand (new_app (codes "ethos")) in
    let with_four = with_subcommand (with_subcommand (with_subcommand (with_subcommand alone check_command.top) load_command.top) bench_command.top) show_command.top in
    with_subcommand (with_subcommand with_four trim_command.top) prove_command.top

-- ---- what the words ask for

-- a flag's value is the text `true` where it is among the words
abbrev pub is_set : Text → List Row → Bool
is_set name rows = option_map_or (λ value. bytes_eq value (codes "true")) (first_of name rows) false

abbrev pub job_of : List Row → (proof : Text) → CheckJob
job_of rows proof = record {
  include = first_of (codes "include") rows;
  reference = first_of (codes "reference") rows;
  proof = proof;
  closed = is_set (codes "closed") rows;
}

abbrev pub job_in : List Row → Option CheckJob
job_in rows = option_map (job_of rows) (first_of (codes "PROOF") rows)

abbrev pub check_of : List Row → Option Request
check_of rows = option_map Check (job_in rows)

abbrev pub trim_of : List Row → Option Request
trim_of rows = option_map Trim (job_in rows)

abbrev pub load_of : List Row → Option Request
load_of rows = option_map Load (first_of (codes "FILE") rows)

-- the most hops of a bench
abbrev pub bench_limit : ℕ
bench_limit = 100000

-- a number from 1 to the limit, in digits without sign and without a leading zero
abbrev pub bench_size : Text → Option ℕ
bench_size word = option_and_then (λ n. if nat_le 1 n && nat_le n bench_limit then Some n else None) (numeral word)

abbrev pub bench_of : List Row → Option Request
bench_of rows = option_and_then (λ word. option_map Bench (bench_size word)) (first_of (codes "N") rows)

abbrev pub show_of : List Row → Option Request
show_of rows = option_and_then (λ file. option_map (Show file) (first_of (codes "NAME") rows)) (first_of (codes "FILE") rows)

abbrev pub prove_of : List Row → Option Request
prove_of rows = option_and_then (λ reference. option_map (Prove reference) (first_of (codes "PROOF") rows)) (first_of (codes "reference") rows)

-- what is asked for, by the name of the command among the words and what was found for it
abbrev pub request_of : Text × List Row → Option Request
request_of found =
    if bytes_eq found.0 (codes "check") then check_of found.1
    else if bytes_eq found.0 (codes "load") then load_of found.1
    else if bytes_eq found.0 (codes "bench") then bench_of found.1
    else if bytes_eq found.0 (codes "show") then show_of found.1
    else if bytes_eq found.0 (codes "trim") then trim_of found.1
    else if bytes_eq found.0 (codes "prove") then prove_of found.1
    else None

-- The reading of the words, the first of which is the program's name: none where `clap` does not take them, or a bench has no size.
unfoldable pub request : List Text → Option Request
request words = if takes program words then option_and_then request_of (subcommand_of program words) else None
