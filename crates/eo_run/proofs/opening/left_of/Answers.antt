use Rattle.std.proofs.lemmas.List.{take_rest}
use Rattle.eo_run.proofs.opening.left_of.Goals as goal

pub returns : goal.returns
returns c = take_rest c.args.piece.now c.args.used
