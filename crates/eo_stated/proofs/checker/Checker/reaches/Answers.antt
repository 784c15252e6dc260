use Rattle.std.proofs.Common.{◌≡◌, sym, ap, ◌∙◌, arith}
use Rattle.std.specs.Prelude.{nat_eq}
use Rattle.eo_cert.specs.Stated.{Context, reaches}
use Rattle.eo_stated.specs.Checking.{context_of, read_contexts}
use Rattle.eo_stated.proofs.Nested.{contexts_first, or_false}
use Rattle.eo_stated.proofs.checker.Checker.reaches.Goals as goal

pub returns : goal.returns
returns c =
    let held = c.args.self.now in
    let ts = held.table.trees in
    let cs = held.contexts.items in
    let other = c.args.other in
    let outermost : c.loop-at.at ≡ 0 = omega (arith, c.loop-at-test.false) in
    sym (c.loop-at.invariant.same
    ∙ (ap (λ k. reaches k (context_of (read_contexts ts cs) k) other) outermost
    ∙ (ap (λ (x : Context). reaches 0 x other) (contexts_first ts cs) ∙ or_false (nat_eq other 0))))
