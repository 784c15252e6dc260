use Rattle.std.proofs.Common.{◌+◌, ◌*◌, ◌≤◌}
use Rattle.eo_sexp.specs.Sizes.{size, size_of_all}
use Rattle.test_sexp.proofs.tests.answers.+write.Given as goal

abbrev pub decreases-write_sexp : goal.decreases-write_sexp
decreases-write_sexp l = 2 * size l.s.now

abbrev pub decreases-write_sexps : goal.decreases-write_sexps
decreases-write_sexps l = 2 * size_of_all l.children.now + 1

abbrev pub invariant-write_sexps-loop-child : goal.invariant-write_sexps-loop-child
invariant-write_sexps-loop-child l = size_of_all l.child-iterator ≤ size_of_all l.children
