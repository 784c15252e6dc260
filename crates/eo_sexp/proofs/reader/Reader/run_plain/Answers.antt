use Rattle.eo_base.specs.Limits.{limits}
use Rattle.eo_sexp.proofs.RunSteps.{runs-none}
use Rattle.eo_sexp.proofs.reader.Reader.run_plain.Goals as goal

pub returns-in-Gap : goal.returns-in-Gap
returns-in-Gap c = runs-none limits c.args.buffer.now c.args.self.now c.args.rest.now c.requires.reader c.requires.short
