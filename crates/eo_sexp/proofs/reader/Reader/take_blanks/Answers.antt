use Rattle.std.proofs.Common.{arith}
use Rattle.eo_base.specs.Limits.{limits}
use Rattle.eo_sexp.proofs.LimitFacts.{command_is}
use Rattle.eo_sexp.proofs.BlankRuns.{blank-runs}
use Rattle.eo_sexp.proofs.reader.Reader.take_blanks.Goals as goal

pub returns : goal.returns
returns c = record {
  moves = λ e. c.blank_run-taken.ensures.first c.requires.first c.requires.begun.some;
  runs =
      blank-runs limits c.args.buffer.now c.extend.new.self c.args.self.now c.args.rest.now c.blank_run-taken.result c.requires.gap c.requires.begun.reader c.in_ok-extend.ensures c.blank_run-taken.ensures.within c.blank_run-taken.ensures.blank
      (omega (arith, c.blank_run-taken.ensures.within, c.requires.begun.room, command_is));
}
