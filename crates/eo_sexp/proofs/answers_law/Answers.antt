use Rattle.eo_base.specs.Limits.{limits}
use Rattle.eo_sexp.proofs.Naming.{answers_pieces, answers_end}
use Rattle.eo_sexp.proofs.Counting.{begins_waiting, counts_pieces, end_stays}
use Rattle.eo_sexp.proofs.Telling.{ends_behind}
use Rattle.eo_sexp.proofs.answers_law.Goals as goal

pub returns : goal.returns
returns c = record { begins = begins_waiting limits; counts = counts_pieces limits; answers = answers_pieces limits; end_answers = answers_end limits; end_stays = end_stays limits; ends = ends_behind limits }
