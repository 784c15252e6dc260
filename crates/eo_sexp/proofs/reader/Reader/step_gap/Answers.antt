use Rattle.std.proofs.Common.{rules}
use Rattle.eo_sexp.proofs.reader.Reader.step_gap.Goals as goal

pub take_word-requires-clause-first : goal.take_word-requires-clause-first
take_word-requires-clause-first c = record { gap = c.requires.gap; first = search rules }
