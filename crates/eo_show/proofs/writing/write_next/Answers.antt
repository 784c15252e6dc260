use Rattle.std.proofs.Common.{◌≡◌, ◌++◌, ◌∷◌, Some, slice_index_or, take, refl, sym, ap, ◌∙◌, subst, arith}
use Rattle.std.specs.List.{Contains, slice_get, position}
use Rattle.std.specs.Option.{IsSome}
use Rattle.std.proofs.lemmas.Option.{same_Some}
use Rattle.eo_sig.specs.Reading.{signature}
use Rattle.eo_term.specs.Tree.{tree_eq}
use Rattle.eo_show.specs.Plan.{IsLive, member_tree, member_trees}
use Rattle.eo_show.specs.Unwritten.{left, part_front, part_begun}
use Rattle.eo_show.proofs.MembersAt.{all-at, both_ok, get-some, known-at, same-count, parts-before, no-parts-left, parts-left, found-at, at}
use Rattle.eo_show.proofs.WrittenParts.{step-closed, step-part, passed}
use Rattle.eo_show.proofs.writing.write_next.Goals as goal

pub next_part-requires : goal.next_part-requires
next_part-requires c =
    let t = c.args.table.now in
    let S = signature t.trees c.args.sig.now in
    omega (arith, same-count S t c.args.members.now.found.keys c.args.members.now.forms.items c.requires.kept.forms, c.requires.within)

pub returns-in_default : goal.returns-in_default
returns-in_default c =
    let t = c.args.table.now in
    let S = signature t.trees c.args.sig.now in
    let ms = c.args.members.now.found.keys in
    let fs = c.args.members.now.forms.items in
    let at_list = c.args.list.place in
    let form = get-some fs at_list (omega (arith, same-count S t ms fs c.requires.kept.forms, c.requires.within)) in
    let known = known-at S t ms fs at_list form.0 c.requires.kept.forms c.requires.kept.ordered form.1 in
    step-closed S (member_trees t ms) c.args.numbers.now c.args.out.now.items c.push.new.self.items c.args.lists.now.items c.args.list
    (no-parts-left S t (take at_list (member_trees t ms)) (at (member_trees t ms) at_list) form.0 c.args.list.next known (sym (c.next_part.ensures.part form.0 form.1) ∙ c.in_default.is)) c.in_ok-push.ensures.items

pub place-requires-clause-member : goal.place-requires-clause-member
place-requires-clause-member c =
    let t = c.args.table.now in
    let S = signature t.trees c.args.sig.now in
    let ms = c.args.members.now.found.keys in
    let fs = c.args.members.now.forms.items in
    let at_list = c.args.list.place in
    let form = get-some fs at_list (omega (arith, same-count S t ms fs c.requires.kept.forms, c.requires.within)) in
    let known = known-at S t ms fs at_list form.0 c.requires.kept.forms c.requires.kept.ordered form.1 in
    let part : slice_get form.0.parts.items c.args.list.next ≡ Some c.in-Some.part = sym (c.next_part.ensures.part form.0 form.1) ∙ c.in-Some.is in
    all-at (IsLive t) form.0.parts.items c.args.list.next c.in-Some.part known.kept.parts.live part

pub unwrap-place-requires : goal.unwrap-place-requires
unwrap-place-requires c =
    let t = c.args.table.now in
    let S = signature t.trees c.args.sig.now in
    let ms = c.args.members.now.found.keys in
    let fs = c.args.members.now.forms.items in
    let at_list = c.args.list.place in
    let form = get-some fs at_list (omega (arith, same-count S t ms fs c.requires.kept.forms, c.requires.within)) in
    let known = known-at S t ms fs at_list form.0 c.requires.kept.forms c.requires.kept.ordered form.1 in
    let part : slice_get form.0.parts.items c.args.list.next ≡ Some c.in-Some.part = sym (c.next_part.ensures.part form.0 form.1) ∙ c.in-Some.is in
    let all = member_trees t ms in
    let before = all-at (λ p. Contains (take at_list all) (member_tree t p)) form.0.parts.items c.args.list.next c.in-Some.part (parts-before S t (take at_list all) (at all at_list) form.0 known) part in
    let found = found-at all at_list (member_tree t c.in-Some.part) c.place.result c.place.ensures.place before in
    subst IsSome (sym found.1) refl

pub returns : goal.returns
returns c =
    let t = c.args.table.now in
    let S = signature t.trees c.args.sig.now in
    let ms = c.args.members.now.found.keys in
    let fs = c.args.members.now.forms.items in
    let at_list = c.args.list.place in
    let form = get-some fs at_list (omega (arith, same-count S t ms fs c.requires.kept.forms, c.requires.within)) in
    let known = known-at S t ms fs at_list form.0 c.requires.kept.forms c.requires.kept.ordered form.1 in
    let part : slice_get form.0.parts.items c.args.list.next ≡ Some c.in-Some.part = sym (c.next_part.ensures.part form.0 form.1) ∙ c.in-Some.is in
    let all = member_trees t ms in
    let before = all-at (λ p. Contains (take at_list all) (member_tree t p)) form.0.parts.items c.args.list.next c.in-Some.part (parts-before S t (take at_list all) (at all at_list) form.0 known) part in
    let found = found-at all at_list (member_tree t c.in-Some.part) c.place.result c.place.ensures.place before in
    let i = c.unwrap-place.result in
    let same : found.0 ≡ i = same_Some found.0 i (sym found.1 ∙ c.unwrap-place.ensures) in
    let is : at all i ≡ member_tree t c.in-Some.part = ap (at all) (sym same) ∙ found.4 in
    let first : position (tree_eq (at all i)) all ≡ Some i = ap (λ u. position (tree_eq u) all) is ∙ sym c.place.ensures.place ∙ c.unwrap-place.ensures in
    let n = slice_index_or c.args.numbers.now i 0 in
    let lefts : left S all c.args.list ≡ at all i ∷ left S all (passed c.args.list) =
    parts-left S t (take at_list all) (at all at_list) form.0 c.args.list.next c.in-Some.part known part ∙ ap (λ u. u ∷ left S all (passed c.args.list)) (sym is) in
    both_ok c.write_part.result
    (λ bytes lists. step-part S all c.args.numbers.now c.args.out.now.items c.write_part.new.out.items c.args.lists.now.items c.write_part.new.lists.items c.args.list i n (omega (arith, same, found.3)) first refl lefts
    (bytes ∙ ap (λ xs. xs ++ part_front S n (at all i)) c.in_ok-push-2.ensures.items) (lists ∙ ap (λ os. os ++ part_begun S n (at all i) (record { place = i; next = 0 })) c.in_ok-pass.ensures))
    c.write_part.ensures.bytes c.write_part.ensures.begun
