use Rattle.std.proofs.Common.{◌+◌, ◌-◌, arith}
use Rattle.eo_term.specs.Terms.{tree_at}
use Rattle.eo_show.specs.Plan.{last_arguments}
use Rattle.eo_show.proofs.Found.{pushed, all_found, next_argument, no_argument}
use Rattle.eo_show.proofs.parts.arguments.Goals as goal

pub returns-in_default : goal.returns-in_default
returns-in_default c =
    let ts = c.args.table.now.trees in
    let left = c.args.count - c.loop.counter in
    all_found c.args.table.now (last_arguments c.args.count (tree_at ts c.args.id)) c.loop.found.items (last_arguments left (tree_at ts c.loop.front)) c.loop.invariant.found (no_argument left (tree_at ts c.loop.front) c.in_default.ensures)

pub loop-preserved : goal.loop-preserved
loop-preserved c =
    let ts = c.args.table.now.trees in
    let p = c.in-Some.pair in
    let left = c.args.count - c.loop.counter in
    let later = c.args.count - (c.loop.counter + 1) in
    record {
      live = omega (arith, c.in-Some.ensures.1, c.loop.invariant.live);
      found = pushed c.args.table.now (last_arguments c.args.count (tree_at ts c.args.id)) c.loop.found.items c.member_of.result c.push.new.self.items (tree_at ts p.arg) (last_arguments left (tree_at ts c.loop.front)) (last_arguments later (tree_at ts p.fun)) c.loop.invariant.found (next_argument left later (tree_at ts c.loop.front) (tree_at ts p.fun) (tree_at ts p.arg) (omega (arith, c.loop-test.true)) c.in-Some.ensures.0) c.member_of.ensures c.in_ok-push.ensures.items;
    }
