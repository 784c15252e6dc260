use Rattle.std.proofs.Common.{rules}
use Rattle.eo_sexp.proofs.reader.Reader.step_other.Goals as goal

pub take_quoted-requires-clause-first : goal.take_quoted-requires-clause-first
take_quoted-requires-clause-first c = record { gap = c.requires.gap; first = search rules }

pub take_text-requires-clause-first : goal.take_text-requires-clause-first
take_text-requires-clause-first c = record { gap = c.requires.gap; first = search rules }
