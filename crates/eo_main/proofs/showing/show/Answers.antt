use Rattle.std.proofs.Common.{List, ℕ, subst}
use Rattle.eo_main.specs.ShowAnswers.{AnswersShow}
use Rattle.eo_main.proofs.ShowLemmas.{show_ends, show_cause, show_no_usage, show_absent}
use Rattle.eo_main.proofs.showing.show.Goals as goal

pub returns-clause-exact : goal.returns-clause-exact
returns-clause-exact g c =
    show_ends c.lines_of_name-shown.new.paths c.print_shown.result _ _ _ _ _ c.args.file.now c.args.name.now c.lines_of_name-shown.result
    (subst (λ (n : List ℕ). AnswersShow (g.L.Library.told c.args.files.now) c.args.file.now n c.lines_of_name-shown.new.paths c.lines_of_name-shown.result) c.as_bytes.ensures.value c.lines_of_name-shown.ensures.answers)
    c.lines_of_name-shown.ensures.cause c.print_shown.ensures.due

pub returns-clause-cause : goal.returns-clause-cause
returns-clause-cause g c =
    show_cause c.lines_of_name-shown.new.paths c.print_shown.result _ _ _ _ _ c.lines_of_name-shown.result _ _ c.print_shown.ensures.due c.lines_of_name-shown.ensures.cause c.print_shown.ensures.cause

pub returns-clause-usage : goal.returns-clause-usage
returns-clause-usage g c = show_no_usage c.lines_of_name-shown.new.paths c.print_shown.result _ _ 0 0 c.lines_of_name-shown.result c.print_shown.ensures.due

pub returns-clause-absent : goal.returns-clause-absent
returns-clause-absent g c =
    show_absent c.lines_of_name-shown.new.paths c.print_shown.result _ _ _ _ _ c.lines_of_name-shown.result c.lines_of_name-shown.ensures.kind c.print_shown.ensures.due c.lines_of_name-shown.ensures.cause
