use Rattle.std.proofs.Common.{ap, ◌∙◌}
use Rattle.std.specs.Prelude.{codes}
use Rattle.eo_io.specs.Stored.{with_file}
use Rattle.eo_run.proofs.benching.add_reference.Goals as goal

pub returns-clause-told : goal.returns-clause-told
returns-clause-told c = c.in_ok-add.ensures.told ∙ ap (with_file c.args.files.now.told (codes "bench.smt2")) (c.as_bytes.ensures.value ∙ c.in_ok-text.ensures)
