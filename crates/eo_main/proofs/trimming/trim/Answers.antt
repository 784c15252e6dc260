use Rattle.eo_main.proofs.ToolLemmas.{trim_ends, trim_cause, trim_no_usage, trim_absent, ok_shortens}
use Rattle.eo_main.proofs.trimming.trim.Goals as goal

pub returns-clause-exact : goal.returns-clause-exact
returns-clause-exact g c =
    trim_ends c.trim_files-end.new.paths c.print_trimmed.result _ _ _ _ _ c.args.job.now c.trim_files-end.result c.trim_files-end.ensures.trims c.trim_files-end.ensures.cause c.print_trimmed.ensures.due

pub returns-clause-cause : goal.returns-clause-cause
returns-clause-cause g c =
    trim_cause c.trim_files-end.new.paths c.print_trimmed.result _ _ _ _ _ c.trim_files-end.result _ _ c.print_trimmed.ensures.due c.trim_files-end.ensures.cause c.print_trimmed.ensures.cause

pub returns-clause-usage : goal.returns-clause-usage
returns-clause-usage g c = trim_no_usage c.trim_files-end.new.paths c.print_trimmed.result _ _ 0 0 c.trim_files-end.result c.print_trimmed.ensures.due

pub returns-clause-absent : goal.returns-clause-absent
returns-clause-absent g c =
    trim_absent c.trim_files-end.new.paths c.print_trimmed.result _ _ _ _ _ c.trim_files-end.result c.print_trimmed.ensures.due c.trim_files-end.ensures.cause

pub returns-clause-shorter : goal.returns-clause-shorter
returns-clause-shorter g c =
    ok_shortens c.trim_files-end.new.paths c.print_trimmed.result _ _ 0 0 _ c.args.job.now c.trim_files-end.result c.trim_files-end.ensures.shorter c.trim_files-end.ensures.kind c.print_trimmed.ensures.due
