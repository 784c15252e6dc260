use Rattle.std.proofs.Common.{◌≡◌, ℕ, zero, suc, ◌<◌, List, get_or, arith}
use Rattle.std.proofs.lemmas.List.Elements.{All-nil, All-more}
use Rattle.eo_sexp.proofs.plain.blank_run.Goals as goal

-- where the first byte is a space, and another stops the run
some-run : (bytes : List ℕ) (run : ℕ) → get_or bytes 0 0 ≡ 32 → (get_or bytes run 0 ≡ 32 → ⊥) → 0 < run
some-run bytes zero space other = absurd (other space)
some-run bytes (suc n) space other = omega arith

pub loop-run-init : goal.loop-run-init
loop-run-init c = (omega arith, All-nil (λ x. x ≡ 32))

pub loop-run-preserved : goal.loop-run-preserved
loop-run-preserved c = (omega (arith, c.loop-run-test.true), All-more (λ x. x ≡ 32) c.args.bytes.now c.loop-run.run 0 c.loop-run-test.true c.loop-run.invariant.1 c.if-bytes-run-eq32.true)

pub returns-else-bytes-run-eq32-clause-blank : goal.returns-else-bytes-run-eq32-clause-blank
returns-else-bytes-run-eq32-clause-blank c = c.loop-run.invariant.1

pub returns-else-bytes-run-eq32-clause-first : goal.returns-else-bytes-run-eq32-clause-first
returns-else-bytes-run-eq32-clause-first c = λ space some. some-run c.args.bytes.now c.loop-run.run space c.if-bytes-run-eq32.false

pub returns-after-loop-run-clause-blank : goal.returns-after-loop-run-clause-blank
returns-after-loop-run-clause-blank c = c.loop-run.invariant.1

pub returns-after-loop-run-clause-first : goal.returns-after-loop-run-clause-first
returns-after-loop-run-clause-first c = λ space some. omega (arith, some, c.loop-run-test.false)
