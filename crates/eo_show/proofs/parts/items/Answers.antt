use Rattle.std.proofs.Common.{◌+◌, ◌-◌, arith}
use Rattle.eo_term.specs.Terms.{tree_at}
use Rattle.eo_show.specs.Plan.{first_items}
use Rattle.eo_show.proofs.Found.{pushed, all_found, next_item, no_item}
use Rattle.eo_show.proofs.parts.items.Goals as goal

pub returns-in_default : goal.returns-in_default
returns-in_default c =
    let ts = c.args.table.now.trees in
    let left = c.args.count - c.loop.counter in
    all_found c.args.table.now (first_items c.args.count (tree_at ts c.args.list)) c.loop.found.items (first_items left (tree_at ts c.loop.rest)) c.loop.invariant.found (no_item left (tree_at ts c.loop.rest) c.in_default.ensures)

pub loop-preserved : goal.loop-preserved
loop-preserved c =
    let ts = c.args.table.now.trees in
    let p = c.in-Some.link in
    let left = c.args.count - c.loop.counter in
    let later = c.args.count - (c.loop.counter + 1) in
    record {
      live = omega (arith, c.in-Some.ensures.2, c.loop.invariant.live);
      found = pushed c.args.table.now (first_items c.args.count (tree_at ts c.args.list)) c.loop.found.items c.member_of.result c.push.new.self.items (tree_at ts p.item) (first_items left (tree_at ts c.loop.rest)) (first_items later (tree_at ts p.rest)) c.loop.invariant.found (next_item left later p.constant (tree_at ts c.loop.rest) (tree_at ts p.item) (tree_at ts p.rest) (omega (arith, c.loop-test.true)) c.in-Some.ensures.0) c.member_of.ensures c.in_ok-push.ensures.items;
    }
