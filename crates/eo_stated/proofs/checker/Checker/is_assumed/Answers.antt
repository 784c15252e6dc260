use Rattle.std.proofs.Common.{◌≡◌, sym, ap, ◌∙◌, arith}
use Rattle.std.specs.List.{list_any}
use Rattle.eo_term.specs.Growth.{tree_in}
use Rattle.eo_term.specs.Tree.{tree_eq}
use Rattle.eo_cert.specs.Stated.{Context}
use Rattle.eo_stated.specs.Checking.{context_of, read_contexts}
use Rattle.eo_stated.proofs.Nested.{contexts_first}
use Rattle.eo_stated.proofs.checker.Checker.is_assumed.Goals as goal

pub returns : goal.returns
returns c =
    let held = c.args.self.now in
    let ts = held.table.trees in
    let cs = held.contexts.items in
    let t = tree_in held.table c.args.id in
    let outermost : c.loop-at.at ≡ 0 = omega (arith, c.loop-at-test.false) in
    sym (c.loop-at.invariant.same
    ∙ (ap (λ k. list_any (tree_eq t) (context_of (read_contexts ts cs) k).assumed) outermost
    ∙ ap (λ (x : Context). list_any (tree_eq t) x.assumed) (contexts_first ts cs)))
