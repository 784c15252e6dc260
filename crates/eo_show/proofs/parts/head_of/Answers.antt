use Rattle.std.proofs.Common.{◌+◌, ◌-◌, sym, ◌∙◌, arith}
use Rattle.eo_term.specs.Terms.{tree_at}
use Rattle.eo_show.proofs.Found.{inner_head}
use Rattle.eo_show.proofs.parts.head_of.Goals as goal

pub loop-preserved : goal.loop-preserved
loop-preserved c =
    let ts = c.args.table.now.trees in
    let p = c.in-Some.pair in
    record {
      live = omega (arith, c.in-Some.ensures.1, c.loop.invariant.live);
      tree = sym (inner_head (c.args.count - c.loop.counter) (c.args.count - (c.loop.counter + 1)) (tree_at ts c.loop.head) (tree_at ts p.fun) (tree_at ts p.arg) (omega (arith, c.loop-test.true)) c.in-Some.ensures.0) ∙ c.loop.invariant.tree;
    }
