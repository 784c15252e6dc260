use Rattle.std.proofs.Common.{refl}
use Rattle.eo_base.specs.Limits.{limits}
use Rattle.eo_sexp.specs.Reader.{held}
use Rattle.eo_sexp.proofs.ReaderSteps.{turns-in_comment}
use Rattle.eo_sexp.proofs.reader.Reader.turn.Goals as goal

pub returns-in-Comment-clause-turns : goal.returns-in-Comment-clause-turns
returns-in-Comment-clause-turns c = turns-in_comment limits _ (held c.args.buffer.now c.args.self.now) _ c.args.at c.args.x refl c.requires.begun.reader c.in-Comment.is refl refl c.behind_comment_byte-self.ensures
