use Rattle.std.proofs.Common.{length}
use Rattle.eo_eval.proofs.machine.results.is_given.Goals as goal

pub is_same-requires-clause-second : goal.is_same-requires-clause-second
is_same-requires-clause-second c = c.in-Some.ensures.live (length c.args.table.now.trees) c.requires.given
