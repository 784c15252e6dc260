use Rattle.eo_main.proofs.EndLemmas.{check_ends, end_has_cause, no_usage}
use Rattle.eo_main.proofs.AbsentLemmas.{absent_by_answer}
use Rattle.eo_main.proofs.InRange.{check_in_range}
use Rattle.eo_main.proofs.program.check.Goals as goal

pub print_verdict-requires : goal.print_verdict-requires
print_verdict-requires g c = check_in_range _ _ c.check_files-verdict.ensures.kind

pub returns-clause-exact : goal.returns-clause-exact
returns-clause-exact g c = check_ends _ _ _ _ _ _ _ _ c.args.job.now c.check_files-verdict.ensures.verdict c.check_files-verdict.ensures.cause c.print_verdict.ensures.due

pub returns-clause-cause : goal.returns-clause-cause
returns-clause-cause g c = end_has_cause _ _ _ _ _ _ _ _ _ _ c.print_verdict.ensures.due c.check_files-verdict.ensures.cause c.print_verdict.ensures.cause

pub returns-clause-usage : goal.returns-clause-usage
returns-clause-usage g c = no_usage _ _ _ _ _ c.print_verdict.ensures.due

pub returns-clause-absent : goal.returns-clause-absent
returns-clause-absent g c = absent_by_answer _ _ _ _ _ _ _ _ c.print_verdict.ensures.due c.check_files-verdict.ensures.cause
