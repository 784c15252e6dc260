use Rattle.std.proofs.Common.{sym, ◌∙◌, arith}
use Rattle.eo_sexp.proofs.PlainTables.{word-class}
use Rattle.eo_sexp.proofs.reader.begins_word.Goals as goal

pub returns : goal.returns
returns c = λ yes. record { class = word-class c.args.x (omega arith) (sym c.is_word.ensures ∙ yes); begun = λ e. cc }
