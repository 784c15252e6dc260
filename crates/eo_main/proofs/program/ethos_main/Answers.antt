use Rattle.std.proofs.Common.{◌≡◌, ◌∙◌, ap, sym, refl, arith, Some, None}
use Rattle.eo_main.specs.CommandLine.{request}
use Rattle.eo_main.specs.declared.Request.{Request}
use Rattle.eo_main.specs.declared.Request.TheVariants.{Check, Load, Bench, Show, Trim, Prove}
use Rattle.eo_main.proofs.EndLemmas.{reading_ends, reads_ends, no_reading_ends, usage_ends, bench_ends_as, own_has_cause, own_ends, own_usage, own_bench, own_memory, wants_files, asks_bench}
use Rattle.eo_main.proofs.AbsentLemmas.{absent_by_letter}
use Rattle.eo_main.proofs.Refuting.{ok_refutes}
use Rattle.eo_main.proofs.ToolLemmas.{trim_says, trim_shortens, prove_says}
use Rattle.eo_main.proofs.program.ethos_main.Goals as goal

pub returns-in-Ok-Some-Check-clause-refutes : goal.returns-in-Ok-Some-Check-clause-refutes
returns-in-Ok-Some-Check-clause-refutes g c =
    let reading : Some (Check c.in-Ok-Some-Check.job) ≡ request c.args.words.now =
    sym (c.in-Ok-Some-Check.field-0-is ∙ ap (λ (r : Request). Some r) c.in-Ok-Some-Check.field-0-0-is) ∙ c.in-Ok-Some-Check.ensures in
    ok_refutes _ c.soundness_law.ensures.correct _ _ _ _ _ (reading_ends _ _ _ _ _ _ _ reading c.check.ensures.exact)

pub returns-in-Ok-None-clause-exact : goal.returns-in-Ok-None-clause-exact
returns-in-Ok-None-clause-exact g c =
    let reading : None ≡ request c.args.words.now = sym c.in-Ok-None.field-0-is ∙ c.in-Ok-None.ensures in
    reading_ends _ _ _ _ _ _ _ reading (no_reading_ends _ _ _ _ _ (usage_ends _ _ _ _ c.print_line.ensures.due))

pub returns-in-Ok-None-clause-absent : goal.returns-in-Ok-None-clause-absent
returns-in-Ok-None-clause-absent g c = λ files proof. absent_by_letter _ 117 _ _ _ _ _ _ _ (omega arith) c.print_line.ensures.due

pub returns-in-Err-clause-absent : goal.returns-in-Err-clause-absent
returns-in-Err-clause-absent g c = λ files proof. absent_by_letter _ 111 _ _ _ _ _ _ _ (omega arith) c.print_line-in-Err.ensures.due

-- ---- what needs no files

pub returns-in-Ok-Some-Check-clause-own : goal.returns-in-Ok-Some-Check-clause-own
returns-in-Ok-Some-Check-clause-own g c =
    let reading : Some (Check c.in-Ok-Some-Check.job) ≡ request c.args.words.now =
    sym (c.in-Ok-Some-Check.field-0-is ∙ ap (λ (r : Request). Some r) c.in-Ok-Some-Check.field-0-0-is) ∙ c.in-Ok-Some-Check.ensures in
    λ own. absurd (wants_files (Some (Check c.in-Ok-Some-Check.job)) (request c.args.words.now) reading refl own)

pub returns-in-Ok-Some-Load-clause-own : goal.returns-in-Ok-Some-Load-clause-own
returns-in-Ok-Some-Load-clause-own g c =
    let reading : Some (Load c.in-Ok-Some-Load.file) ≡ request c.args.words.now =
    sym (c.in-Ok-Some-Load.field-0-is ∙ ap (λ (r : Request). Some r) c.in-Ok-Some-Load.field-0-0-is) ∙ c.in-Ok-Some-Load.ensures in
    λ own. absurd (wants_files (Some (Load c.in-Ok-Some-Load.file)) (request c.args.words.now) reading refl own)

pub returns-in-Ok-None-clause-own : goal.returns-in-Ok-None-clause-own
returns-in-Ok-None-clause-own g c =
    let reading : None ≡ request c.args.words.now = sym c.in-Ok-None.field-0-is ∙ c.in-Ok-None.ensures in
    λ own. own_ends _ _ _ _ _ reading (own_usage _ _ _ c.print_line.ensures.due)

pub returns-in-Err-clause-own : goal.returns-in-Err-clause-own
returns-in-Err-clause-own g c = λ own. own_memory _ _ _ (request c.args.words.now) c.print_line-in-Err.ensures.due

-- ---- a bench

pub returns-in-Ok-Some-Bench-clause-exact : goal.returns-in-Ok-Some-Bench-clause-exact
returns-in-Ok-Some-Bench-clause-exact g c =
    let n = c.in-Ok-Some-Bench.n in
    let reading : Some (Bench n) ≡ request c.args.words.now =
    sym (c.in-Ok-Some-Bench.field-0-is ∙ ap (λ (r : Request). Some r) c.in-Ok-Some-Bench.field-0-0-is) ∙ c.in-Ok-Some-Bench.ensures in
    reading_ends _ _ _ _ _ _ _ reading (bench_ends_as _ _ _ n _ _ c.run_bench.ensures.exact)

pub returns-in-Ok-Some-Bench-clause-own : goal.returns-in-Ok-Some-Bench-clause-own
returns-in-Ok-Some-Bench-clause-own g c =
    let n = c.in-Ok-Some-Bench.n in
    let reading : Some (Bench n) ≡ request c.args.words.now =
    sym (c.in-Ok-Some-Bench.field-0-is ∙ ap (λ (r : Request). Some r) c.in-Ok-Some-Bench.field-0-0-is) ∙ c.in-Ok-Some-Bench.ensures in
    λ own. own_ends _ _ _ _ _ reading (own_bench _ n _ _ c.run_bench.ensures.exact)

pub returns-in-Ok-Some-Bench-clause-cause : goal.returns-in-Ok-Some-Bench-clause-cause
returns-in-Ok-Some-Bench-clause-cause g c = own_has_cause _ _ _ _ _ c.run_bench.ensures.no_read_fault c.run_bench.ensures.cause

pub returns-in-Ok-Some-Bench-clause-absent : goal.returns-in-Ok-Some-Bench-clause-absent
returns-in-Ok-Some-Bench-clause-absent g c =
    let n = c.in-Ok-Some-Bench.n in
    let reading : Some (Bench n) ≡ request c.args.words.now =
    sym (c.in-Ok-Some-Bench.field-0-is ∙ ap (λ (r : Request). Some r) c.in-Ok-Some-Bench.field-0-0-is) ∙ c.in-Ok-Some-Bench.ensures in
    λ files proof. absurd (asks_bench (Some (Bench n)) (request c.args.words.now) reading refl files)

-- ---- a check, and a signature file

pub returns-in-Ok-Some-Check-clause-exact : goal.returns-in-Ok-Some-Check-clause-exact
returns-in-Ok-Some-Check-clause-exact g c =
    let reading : Some (Check c.in-Ok-Some-Check.job) ≡ request c.args.words.now =
    sym (c.in-Ok-Some-Check.field-0-is ∙ ap (λ (r : Request). Some r) c.in-Ok-Some-Check.field-0-0-is) ∙ c.in-Ok-Some-Check.ensures in
    reading_ends _ _ _ _ _ _ _ reading c.check.ensures.exact

pub returns-in-Ok-Some-Check-clause-cause : goal.returns-in-Ok-Some-Check-clause-cause
returns-in-Ok-Some-Check-clause-cause g c = c.check.ensures.cause

pub returns-in-Ok-Some-Check-clause-usage : goal.returns-in-Ok-Some-Check-clause-usage
returns-in-Ok-Some-Check-clause-usage g c =
    let reading : Some (Check c.in-Ok-Some-Check.job) ≡ request c.args.words.now =
    sym (c.in-Ok-Some-Check.field-0-is ∙ ap (λ (r : Request). Some r) c.in-Ok-Some-Check.field-0-0-is) ∙ c.in-Ok-Some-Check.ensures in
    reads_ends _ (Check c.in-Ok-Some-Check.job) _ reading c.check.ensures.usage

pub returns-in-Ok-Some-Check-clause-absent : goal.returns-in-Ok-Some-Check-clause-absent
returns-in-Ok-Some-Check-clause-absent g c = λ files proof. c.check.ensures.absent

pub returns-in-Ok-Some-Load-clause-exact : goal.returns-in-Ok-Some-Load-clause-exact
returns-in-Ok-Some-Load-clause-exact g c =
    let reading : Some (Load c.in-Ok-Some-Load.file) ≡ request c.args.words.now =
    sym (c.in-Ok-Some-Load.field-0-is ∙ ap (λ (r : Request). Some r) c.in-Ok-Some-Load.field-0-0-is) ∙ c.in-Ok-Some-Load.ensures in
    reading_ends _ _ _ _ _ _ _ reading c.load.ensures.exact

pub returns-in-Ok-Some-Load-clause-cause : goal.returns-in-Ok-Some-Load-clause-cause
returns-in-Ok-Some-Load-clause-cause g c = c.load.ensures.cause

pub returns-in-Ok-Some-Load-clause-usage : goal.returns-in-Ok-Some-Load-clause-usage
returns-in-Ok-Some-Load-clause-usage g c =
    let reading : Some (Load c.in-Ok-Some-Load.file) ≡ request c.args.words.now =
    sym (c.in-Ok-Some-Load.field-0-is ∙ ap (λ (r : Request). Some r) c.in-Ok-Some-Load.field-0-0-is) ∙ c.in-Ok-Some-Load.ensures in
    reads_ends _ (Load c.in-Ok-Some-Load.file) _ reading c.load.ensures.usage

pub returns-in-Ok-Some-Load-clause-absent : goal.returns-in-Ok-Some-Load-clause-absent
returns-in-Ok-Some-Load-clause-absent g c = λ files proof. c.load.ensures.absent

-- ---- the value of a name

pub returns-in-Ok-Some-Show-clause-exact : goal.returns-in-Ok-Some-Show-clause-exact
returns-in-Ok-Some-Show-clause-exact g c =
    let reading : Some (Show c.in-Ok-Some-Show.file c.in-Ok-Some-Show.name) ≡ request c.args.words.now =
    sym (c.in-Ok-Some-Show.field-0-is ∙ ap (λ (r : Request). Some r) c.in-Ok-Some-Show.field-0-0-is) ∙ c.in-Ok-Some-Show.ensures in
    reading_ends _ _ _ _ _ _ _ reading c.show.ensures.exact

pub returns-in-Ok-Some-Show-clause-own : goal.returns-in-Ok-Some-Show-clause-own
returns-in-Ok-Some-Show-clause-own g c =
    let reading : Some (Show c.in-Ok-Some-Show.file c.in-Ok-Some-Show.name) ≡ request c.args.words.now =
    sym (c.in-Ok-Some-Show.field-0-is ∙ ap (λ (r : Request). Some r) c.in-Ok-Some-Show.field-0-0-is) ∙ c.in-Ok-Some-Show.ensures in
    λ own. absurd (wants_files (Some (Show c.in-Ok-Some-Show.file c.in-Ok-Some-Show.name)) (request c.args.words.now) reading refl own)

pub returns-in-Ok-Some-Show-clause-cause : goal.returns-in-Ok-Some-Show-clause-cause
returns-in-Ok-Some-Show-clause-cause g c = c.show.ensures.cause

pub returns-in-Ok-Some-Show-clause-usage : goal.returns-in-Ok-Some-Show-clause-usage
returns-in-Ok-Some-Show-clause-usage g c =
    let reading : Some (Show c.in-Ok-Some-Show.file c.in-Ok-Some-Show.name) ≡ request c.args.words.now =
    sym (c.in-Ok-Some-Show.field-0-is ∙ ap (λ (r : Request). Some r) c.in-Ok-Some-Show.field-0-0-is) ∙ c.in-Ok-Some-Show.ensures in
    reads_ends _ (Show c.in-Ok-Some-Show.file c.in-Ok-Some-Show.name) _ reading c.show.ensures.usage

pub returns-in-Ok-Some-Show-clause-absent : goal.returns-in-Ok-Some-Show-clause-absent
returns-in-Ok-Some-Show-clause-absent g c = λ files proof. c.show.ensures.absent

-- ---- a proof that is trimmed

pub returns-in-Ok-Some-Trim-clause-exact : goal.returns-in-Ok-Some-Trim-clause-exact
returns-in-Ok-Some-Trim-clause-exact g c =
    let reading : Some (Trim c.in-Ok-Some-Trim.job) ≡ request c.args.words.now =
    sym (c.in-Ok-Some-Trim.field-0-is ∙ ap (λ (r : Request). Some r) c.in-Ok-Some-Trim.field-0-0-is) ∙ c.in-Ok-Some-Trim.ensures in
    reading_ends _ _ _ _ _ _ _ reading c.trim.ensures.exact

pub returns-in-Ok-Some-Trim-clause-own : goal.returns-in-Ok-Some-Trim-clause-own
returns-in-Ok-Some-Trim-clause-own g c =
    let reading : Some (Trim c.in-Ok-Some-Trim.job) ≡ request c.args.words.now =
    sym (c.in-Ok-Some-Trim.field-0-is ∙ ap (λ (r : Request). Some r) c.in-Ok-Some-Trim.field-0-0-is) ∙ c.in-Ok-Some-Trim.ensures in
    λ own. absurd (wants_files (Some (Trim c.in-Ok-Some-Trim.job)) (request c.args.words.now) reading refl own)

pub returns-in-Ok-Some-Trim-clause-cause : goal.returns-in-Ok-Some-Trim-clause-cause
returns-in-Ok-Some-Trim-clause-cause g c = c.trim.ensures.cause

pub returns-in-Ok-Some-Trim-clause-usage : goal.returns-in-Ok-Some-Trim-clause-usage
returns-in-Ok-Some-Trim-clause-usage g c =
    let reading : Some (Trim c.in-Ok-Some-Trim.job) ≡ request c.args.words.now =
    sym (c.in-Ok-Some-Trim.field-0-is ∙ ap (λ (r : Request). Some r) c.in-Ok-Some-Trim.field-0-0-is) ∙ c.in-Ok-Some-Trim.ensures in
    reads_ends _ (Trim c.in-Ok-Some-Trim.job) _ reading c.trim.ensures.usage

pub returns-in-Ok-Some-Trim-clause-shorter : goal.returns-in-Ok-Some-Trim-clause-shorter
returns-in-Ok-Some-Trim-clause-shorter g c =
    let reading : Some (Trim c.in-Ok-Some-Trim.job) ≡ request c.args.words.now =
    sym (c.in-Ok-Some-Trim.field-0-is ∙ ap (λ (r : Request). Some r) c.in-Ok-Some-Trim.field-0-0-is) ∙ c.in-Ok-Some-Trim.ensures in
    trim_shortens _ _ c.in-Ok-Some-Trim.job (request c.args.words.now) _ _ reading c.trim.ensures.shorter

pub returns-in-Ok-Some-Trim-clause-absent : goal.returns-in-Ok-Some-Trim-clause-absent
returns-in-Ok-Some-Trim-clause-absent g c =
    let reading : Some (Trim c.in-Ok-Some-Trim.job) ≡ request c.args.words.now =
    sym (c.in-Ok-Some-Trim.field-0-is ∙ ap (λ (r : Request). Some r) c.in-Ok-Some-Trim.field-0-0-is) ∙ c.in-Ok-Some-Trim.ensures in
    λ files proof. trim_says _ _ c.in-Ok-Some-Trim.job (request c.args.words.now) reading c.trim.ensures.absent proof

-- ---- a proof that assertions have no model

pub returns-in-Ok-Some-Prove-clause-exact : goal.returns-in-Ok-Some-Prove-clause-exact
returns-in-Ok-Some-Prove-clause-exact g c =
    let reading : Some (Prove c.in-Ok-Some-Prove.reference c.in-Ok-Some-Prove.proof) ≡ request c.args.words.now =
    sym (c.in-Ok-Some-Prove.field-0-is ∙ ap (λ (r : Request). Some r) c.in-Ok-Some-Prove.field-0-0-is) ∙ c.in-Ok-Some-Prove.ensures in
    reading_ends _ _ _ _ _ _ _ reading c.prove.ensures.exact

pub returns-in-Ok-Some-Prove-clause-own : goal.returns-in-Ok-Some-Prove-clause-own
returns-in-Ok-Some-Prove-clause-own g c =
    let reading : Some (Prove c.in-Ok-Some-Prove.reference c.in-Ok-Some-Prove.proof) ≡ request c.args.words.now =
    sym (c.in-Ok-Some-Prove.field-0-is ∙ ap (λ (r : Request). Some r) c.in-Ok-Some-Prove.field-0-0-is) ∙ c.in-Ok-Some-Prove.ensures in
    λ own. absurd (wants_files (Some (Prove c.in-Ok-Some-Prove.reference c.in-Ok-Some-Prove.proof)) (request c.args.words.now) reading refl own)

pub returns-in-Ok-Some-Prove-clause-cause : goal.returns-in-Ok-Some-Prove-clause-cause
returns-in-Ok-Some-Prove-clause-cause g c = c.prove.ensures.cause

pub returns-in-Ok-Some-Prove-clause-usage : goal.returns-in-Ok-Some-Prove-clause-usage
returns-in-Ok-Some-Prove-clause-usage g c =
    let reading : Some (Prove c.in-Ok-Some-Prove.reference c.in-Ok-Some-Prove.proof) ≡ request c.args.words.now =
    sym (c.in-Ok-Some-Prove.field-0-is ∙ ap (λ (r : Request). Some r) c.in-Ok-Some-Prove.field-0-0-is) ∙ c.in-Ok-Some-Prove.ensures in
    reads_ends _ (Prove c.in-Ok-Some-Prove.reference c.in-Ok-Some-Prove.proof) _ reading c.prove.ensures.usage

pub returns-in-Ok-Some-Prove-clause-model : goal.returns-in-Ok-Some-Prove-clause-model
returns-in-Ok-Some-Prove-clause-model g c =
    let reading : Some (Prove c.in-Ok-Some-Prove.reference c.in-Ok-Some-Prove.proof) ≡ request c.args.words.now =
    sym (c.in-Ok-Some-Prove.field-0-is ∙ ap (λ (r : Request). Some r) c.in-Ok-Some-Prove.field-0-0-is) ∙ c.in-Ok-Some-Prove.ensures in
    prove_says _ _ c.in-Ok-Some-Prove.reference c.in-Ok-Some-Prove.proof (request c.args.words.now) reading c.prove.ensures.model

pub returns-in-Ok-Some-Prove-clause-absent : goal.returns-in-Ok-Some-Prove-clause-absent
returns-in-Ok-Some-Prove-clause-absent g c = λ files proof. c.prove.ensures.absent
