use Rattle.std.proofs.Common.{arith, refl, ◌∙◌}
use Rattle.eo_pattern.proofs.Steps.{leads_refl, leads_at, leads_step, leads_none, leads_end, trees_from, trees_past, keeps_trans}
use Rattle.eo_pattern.proofs.matching.match_all.Goals as goal

pub returns-then-not-match_pattern-clause-no : goal.returns-then-not-match_pattern-clause-no
returns-then-not-match_pattern-clause-no c = λ _ ρ m.
    let ts = c.args.table.now.trees in
    let p = trees_from ts c.args.patterns.now c.loop-i.i c.index-patterns-i.result (omega arith) c.index-patterns-i.is in
    let u = trees_from ts c.args.terms.now c.loop-i.i c.index-terms-i.result (omega (arith, c.requires.paired.count)) c.index-terms-i.is in
    leads_none _ _ _ _ _ _ _ _ (leads_at _ _ _ _ _ _ _ _ p u c.loop-i.invariant.leads) (c.match_pattern.ensures.no c.if-not-match_pattern.true) ρ m

pub loop-i-preserved : goal.loop-i-preserved
loop-i-preserved c =
    let ts = c.args.table.now.trees in
    let p = trees_from ts c.args.patterns.now c.loop-i.i c.index-patterns-i.result (omega arith) c.index-patterns-i.is in
    let u = trees_from ts c.args.terms.now c.loop-i.i c.index-terms-i.result (omega (arith, c.requires.paired.count)) c.index-terms-i.is in
    record {
      leads = leads_step _ _ _ _ _ _ _ _ (leads_at _ _ _ _ _ _ _ _ p u c.loop-i.invariant.leads) _ (c.match_pattern.ensures.yes c.if-not-match_pattern.false);
      kept = keeps_trans _ _ _ _ c.loop-i.invariant.kept c.match_pattern.ensures.stays.slots;
      room = c.match_pattern.ensures.stays.tasks ∙ c.loop-i.invariant.room;
    }

pub returns-clause-yes : goal.returns-clause-yes
returns-clause-yes c = λ _.
    let ts = c.args.table.now.trees in
    leads_end _ _ _ _ (leads_at _ _ _ _ _ _ _ _ (trees_past ts c.args.patterns.now c.loop-i.i (omega arith)) (trees_past ts c.args.terms.now c.loop-i.i (omega (arith, c.requires.paired.count))) c.loop-i.invariant.leads)

pub loop-i-init : goal.loop-i-init
loop-i-init c = record {
  leads = leads_refl _ _ _;
  kept = record { room = refl; height = refl; below = c.requires.below };
  room = refl;
}
