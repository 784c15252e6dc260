use Rattle.std.proofs.Common.{◌≡◌, get_or, rules, arith}
use Rattle.std.proofs.lemmas.List.Elements.{All-nil, All-more}
use Rattle.eo_sexp.proofs.plain.run_in.Goals as goal

pub loop-run-init : goal.loop-run-init
loop-run-init c = (omega arith, All-nil (λ x. get_or c.args.table.now x 0 ≡ 49))

pub loop-run-preserved : goal.loop-run-preserved
loop-run-preserved c = (omega (arith, c.loop-run-test.true), All-more (λ x. get_or c.args.table.now x 0 ≡ 49) c.args.bytes.now c.loop-run.run 0 c.loop-run-test.true c.loop-run.invariant.1 (search rules))
