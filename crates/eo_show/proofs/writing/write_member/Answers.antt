use Rattle.std.proofs.Common.{◌≡◌, ◌<◌, ◌++◌, ◌∷◌, [], length, map, sym, ap, ◌∙◌, subst, arith, rules, append-nil}
use Rattle.std.specs.List.{All}
use Rattle.std.proofs.lemmas.List.{length-map}
use Rattle.eo_sig.specs.Reading.{signature}
use Rattle.eo_term.specs.Tree.{height}
use Rattle.eo_show.specs.Forms.{form}
use Rattle.eo_show.specs.Plan.{member_tree, member_trees}
use Rattle.eo_show.specs.Unwritten.{AreLow, begun, by_number, left, unwritten}
use Rattle.eo_show.proofs.MembersAt.{get-some, known-at, same-count, at}
use Rattle.eo_show.proofs.WrittenParts.{Starts, starts, last-placed, step-shorter, named-at}
use Rattle.eo_show.proofs.writing.write_member.Goals as goal

pub loop-list-init : goal.loop-list-init
loop-list-init c =
    let t = c.args.table.now in
    let S = signature t.trees c.args.sig.now in
    let ms = c.args.members.now.found.keys in
    let all = member_trees t ms in
    let fs = c.args.members.now.forms.items in
    let i = c.args.place in
    let some = get-some fs i (omega (arith, same-count S t ms fs c.requires.kept.forms, c.requires.within)) in
    let known = known-at S t ms fs i some.0 c.requires.kept.forms c.requires.kept.ordered some.1 in
    let first = c.in_ok-begin.ensures.begun ∙ ap (λ os. os ++ begun S (form S (at all i)) (record { place = i; next = 0 })) c.new-lists.ensures.items in
    let start : Starts S all c.args.numbers.now i c.args.out.now.items c.begin.new.out.items c.begin.new.lists.items = starts S all c.args.numbers.now i c.args.out.now.items c.begin.new.out.items c.begin.new.lists.items (omega (arith, c.requires.within, length-map ms (member_tree t))) known.next.value c.in_ok-begin.ensures.bytes first in
    record { placed = start.placed; low = start.low; same = start.same }

pub write_next-requires-clause-within : goal.write_next-requires-clause-within
write_next-requires-clause-within c =
    let t = c.args.table.now in
    let S = signature t.trees c.args.sig.now in
    let ms = c.args.members.now.found.keys in
    let all = member_trees t ms in
    let placed = last-placed S all c.args.numbers.now c.pop.new.self.items c.in-Some.list (subst (λ os. All (λ o. o.place < length all) os) c.in-Some.ensures.items c.loop-list.invariant.placed) in
    omega (arith, placed, length-map ms (member_tree t))

pub loop-list-smaller : goal.loop-list-smaller
loop-list-smaller c =
    let t = c.args.table.now in
    let S = signature t.trees c.args.sig.now in
    let ms = c.args.members.now.found.keys in
    let all = member_trees t ms in
    let d = height (at all c.args.place) in
    subst (λ os. length (unwritten S (by_number all c.args.numbers.now) d (map (left S all) c.write_next.new.lists.items)) < length (unwritten S (by_number all c.args.numbers.now) d (map (left S all) os))) (sym c.in-Some.ensures.items)
    (step-shorter S all c.args.numbers.now c.loop-list.out.items c.write_next.new.out.items (c.pop.new.self.items ++ c.in-Some.list ∷ []) c.write_next.new.lists.items d c.in_ok-write_next.ensures
    (subst (λ os. AreLow d (map (left S all) os)) c.in-Some.ensures.items c.loop-list.invariant.low))

pub returns : goal.returns
returns c = λ named names.
    let t = c.args.table.now in
    let S = signature t.trees c.args.sig.now in
    let ms = c.args.members.now.found.keys in
    let all = member_trees t ms in
    let u = at all c.args.place in
    let empty : c.loop-list.lists.items ≡ [] = search rules in
    sym (append-nil c.loop-list.out.items) ∙ sym (ap (λ os. c.loop-list.out.items ++ unwritten S named (height u) (map (left S all) os)) empty) ∙ c.loop-list.invariant.same named (named-at all c.args.numbers.now named names)
