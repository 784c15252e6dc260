use Rattle.std.proofs.Common.{arith}
use Rattle.eo_sexp.proofs.LimitFacts.{token_is}
use Rattle.eo_sexp.proofs.reader.Reader.bar_ahead.Goals as goal

pub returns-then-rest-n-eq124-clause-short : goal.returns-then-rest-n-eq124-clause-short
returns-then-rest-n-eq124-clause-short c = omega (arith, c.if-n-lt-TOKEN.true, token_is)

pub returns-else-n-gt0-clause-short : goal.returns-else-n-gt0-clause-short
returns-else-n-gt0-clause-short c = omega (arith, token_is)
