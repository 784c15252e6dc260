use Rattle.std.proofs.Common.{ap, ◌∙◌, arith}
use Rattle.eo_sexp.specs.Lexicon.{class}
use Rattle.eo_sexp.proofs.AheadRuns.{bar-class}
use Rattle.eo_sexp.proofs.reader.begins_quoted.Goals as goal

pub returns : goal.returns
returns c = λ yes. record { class = ap class (grind (arith, yes)) ∙ bar-class; begun = λ e. cc }
