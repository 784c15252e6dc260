use Rattle.std.proofs.Common.{◌-◌, ap, sym, ◌∙◌}
use Rattle.eo_base.proofs.Answering.{fails}
use Rattle.eo_term.proofs.Growing.{grows_on}
use Rattle.eo_term.specs.Growth.{trees_in}
use Rattle.eo_names.specs.Grouped.{if_low}
use Rattle.eo_names.specs.Turns.{after}
use Rattle.eo_names.specs.Scopes.{bound_in}
use Rattle.eo_names.specs.Worlds.{World, world, turns_in, turned_in}
use Rattle.eo_names.proofs.folding.take_turns.Goals as goal

pub returns-in_err-turn-in-Joined-clause-gives : goal.returns-in_err-turn-in-Joined-clause-gives
returns-in_err-turn-in-Joined-clause-gives c =
    let t = c.loop-turn.table in
    let w = world t c.args.sig.now c.args.scope.now in
    let step = c.loop-turn.invariant.is ∙ ap (λ u. if_low (after (turns_in w c.loop-turn.left) t.trees u)) c.in-Joined.is ∙ ap (λ is. turned_in w c.loop-turn.left c.in-Joined.by (trees_in t is)) (sym c.as_slice.ensures) in
    fails _ _ _ _ _ _ _ c.from_residual.ensures.1 (λ f e. step ∙ e) c.in_err-turn-in-Joined.ensures.gives

pub loop-turn-preserved : goal.loop-turn-preserved
loop-turn-preserved c =
    let t = c.loop-turn.table in
    let n = c.next_turn.new.table in
    let w = world t c.args.sig.now c.args.scope.now in
    let stays = c.names_law.ensures.stays c.args.sig.now (bound_in c.args.scope.now) t n c.loop-turn.invariant.ready c.next_turn.ensures.grows in
    let g = c.in_ok-turn-in-Joined.ensures.gives in
    let u = c.in_ok-turn-in-Joined.turn in
    let step = c.loop-turn.invariant.is ∙ ap (λ v. if_low (after (turns_in w c.loop-turn.left) t.trees v)) c.in-Joined.is ∙ ap (λ is. turned_in w c.loop-turn.left c.in-Joined.by (trees_in t is)) (sym c.as_slice.ensures) in
    record {
      is = step ∙ g.is ∙ ap (λ (v : World). if_low (after (turns_in v (c.loop-turn.left - 1)) n.trees u)) (sym stays.world) ∙ ap (λ m. if_low (after (turns_in (world n c.args.sig.now c.args.scope.now) m) n.trees u)) (sym c.saturating_sub-left.ensures);
      live = g.live;
      ready = stays.ready;
      grows = grows_on c.args.table.now t n c.loop-turn.invariant.grows c.next_turn.ensures.grows;
    }
