use Rattle.std.proofs.Common.{length}
use Rattle.eo_declare.proofs.constants.+bound_type.Given as goal

abbrev pub decreases-bound_type : goal.decreases-bound_type
decreases-bound_type l = length l.params.now
