use Rattle.eo_main.proofs.ToolLemmas.{prove_ends, prove_cause, prove_no_usage, prove_absent, ok_leaves_none}
use Rattle.eo_main.proofs.proving.prove.Goals as goal

pub returns-clause-exact : goal.returns-clause-exact
returns-clause-exact g c =
    prove_ends c.prove_files-end.new.paths c.print_proved.result _ _ _ _ _ c.args.reference.now c.args.proof.now c.prove_files-end.result c.prove_files-end.ensures.proves c.prove_files-end.ensures.cause c.print_proved.ensures.due

pub returns-clause-model : goal.returns-clause-model
returns-clause-model g c =
    ok_leaves_none c.prove_files-end.new.paths c.print_proved.result _ _ 0 0 _ c.args.reference.now c.args.proof.now c.prove_files-end.result c.prove_files-end.ensures.sound c.prove_files-end.ensures.kind c.print_proved.ensures.due

pub returns-clause-cause : goal.returns-clause-cause
returns-clause-cause g c =
    prove_cause c.prove_files-end.new.paths c.print_proved.result _ _ _ _ _ c.prove_files-end.result _ _ c.print_proved.ensures.due c.prove_files-end.ensures.cause c.print_proved.ensures.cause

pub returns-clause-usage : goal.returns-clause-usage
returns-clause-usage g c = prove_no_usage c.prove_files-end.new.paths c.print_proved.result _ _ 0 0 c.prove_files-end.result c.print_proved.ensures.due

pub returns-clause-absent : goal.returns-clause-absent
returns-clause-absent g c =
    prove_absent c.prove_files-end.new.paths c.print_proved.result _ _ _ _ _ c.prove_files-end.result c.print_proved.ensures.due c.prove_files-end.ensures.cause
