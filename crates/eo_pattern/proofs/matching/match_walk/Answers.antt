use Rattle.std.proofs.Common.{refl, ◌∙◌, arith}
use Rattle.eo_term.specs.Terms.{tree_at}
use Rattle.eo_pattern.proofs.Steps.{keeps_trans}
use Rattle.eo_pattern.proofs.Doing.{height_some, begin_left, end_left, left_still, less_left, nothing_left, next_live, next_closes, next_room}
use Rattle.eo_pattern.proofs.matching.match_walk.Goals as goal

pub begin-requires : goal.begin-requires
begin-requires c = let some = height_some (tree_at c.args.table.now.trees c.args.pattern) in omega (arith, some, c.requires.tasks)

pub returns-in_default-clause-yes : goal.returns-in_default-clause-yes
returns-in_default-clause-yes c = λ _. end_left _ _ _ _ _ _ c.in_default.ensures.none c.loop-task.invariant.left

pub returns-then-not-match_next-clause-no : goal.returns-then-not-match_next-clause-no
returns-then-not-match_next-clause-no c = λ _ ρ m. nothing_left _ _ _ _ _ c.loop-task.tasks c.pop.new.self _ c.in-Some.ensures.some c.loop-task.invariant.left (c.match_next.ensures.no c.if-not-match_next.true) ρ m

pub loop-task-smaller : goal.loop-task-smaller
loop-task-smaller c = less_left 0 _ _ _ c.loop-task.tasks c.pop.new.self _ _ c.in-Some.ensures.some (c.match_next.ensures.yes c.if-not-match_next.false)

pub loop-task-preserved : goal.loop-task-preserved
loop-task-preserved c = record {
  left = left_still 0 _ _ _ _ _ _ _ _ _ _ c.in-Some.ensures.some c.pop.ensures.room c.match_next.ensures.stays.slots.room c.loop-task.invariant.left (c.match_next.ensures.yes c.if-not-match_next.false);
  matched = c.match_next.ensures.matched c.if-not-match_next.false;
  kept = keeps_trans _ _ _ _ c.loop-task.invariant.kept c.match_next.ensures.stays.slots;
  room = c.match_next.ensures.stays.tasks ∙ c.pop.ensures.room ∙ c.loop-task.invariant.room;
}

pub loop-task-init : goal.loop-task-init
loop-task-init c = record {
  left = begin_left _ _ _ _ _ c.requires.given.pair c.begin.ensures.tasks (omega (arith, c.requires.tasks, c.begin.ensures.room));
  matched = c.requires.matched;
  kept = record { room = refl; height = refl; below = c.requires.given.below };
  room = c.begin.ensures.room;
}

pub match_next-requires-clause-room : goal.match_next-requires-clause-room
match_next-requires-clause-room c = let l = next_room _ _ _ _ _ c.loop-task.tasks _ _ c.in-Some.ensures.some c.loop-task.invariant.left in omega (arith, l, c.pop.ensures.room)

pub match_next-requires-clause-first : goal.match_next-requires-clause-first
match_next-requires-clause-first c = record {
  live = next_live _ _ _ _ _ c.loop-task.tasks _ _ c.in-Some.ensures.some c.loop-task.invariant.left;
  closes = next_closes _ _ _ _ _ c.loop-task.tasks _ _ c.in-Some.ensures.some c.loop-task.invariant.left;
}
