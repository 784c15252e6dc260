use Rattle.eo_main.proofs.EndLemmas.{load_ends, end_has_cause, no_usage}
use Rattle.eo_main.proofs.AbsentLemmas.{absent_by_answer}
use Rattle.eo_main.proofs.InRange.{load_in_range}
use Rattle.eo_main.proofs.program.load.Goals as goal

pub print_verdict-requires : goal.print_verdict-requires
print_verdict-requires g c = load_in_range _ _ c.load_files-verdict.ensures.kind

pub returns-clause-exact : goal.returns-clause-exact
returns-clause-exact g c = load_ends _ _ _ _ _ _ _ _ c.args.file.now c.load_files-verdict.ensures.verdict c.load_files-verdict.ensures.cause c.print_verdict.ensures.due

pub returns-clause-cause : goal.returns-clause-cause
returns-clause-cause g c = end_has_cause _ _ _ _ _ _ _ _ _ _ c.print_verdict.ensures.due c.load_files-verdict.ensures.cause c.print_verdict.ensures.cause

pub returns-clause-usage : goal.returns-clause-usage
returns-clause-usage g c = no_usage _ _ _ _ _ c.print_verdict.ensures.due

pub returns-clause-absent : goal.returns-clause-absent
returns-clause-absent g c = absent_by_answer _ _ _ _ _ _ _ _ c.print_verdict.ensures.due c.load_files-verdict.ensures.cause
