use Rattle.std.proofs.Common.{◌≡◌, false, get_or, take}
use Rattle.std.proofs.lemmas.List.Elements.{All-weaker}
use Rattle.eo_sexp.specs.declared.plain.TheConstants.{COMMENT}
use Rattle.eo_sexp.specs.Lexicon.{is_line_end}
use Rattle.eo_sexp.proofs.PlainTables.{comment-inside}
use Rattle.eo_sexp.proofs.plain.comment_run.Goals as goal

pub returns-clause-inside : goal.returns-clause-inside
returns-clause-inside c = All-weaker (λ x. get_or COMMENT x 0 ≡ 49) (λ x. is_line_end x ≡ false) comment-inside (take c.run_in.result c.args.bytes.now) c.run_in.ensures.run
