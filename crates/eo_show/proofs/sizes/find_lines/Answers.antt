use Rattle.std.proofs.Common.{◌≡◌, ◌+◌, ◌<◌, ◌++◌, ◌∷◌, [], length, map, take, slice_index_or, sym, ap, ap₂, ◌∙◌, arith, true}
use Rattle.std.proofs.lemmas.List.{get_or-map, length-append, length-map, map_more, take_at}
use Rattle.eo_term.specs.Tree.{Con}
use Rattle.eo_sig.specs.Reading.{signature}
use Rattle.eo_show.specs.Members.{is_defined}
use Rattle.eo_show.specs.Plan.{member_tree, member_trees}
use Rattle.eo_show.specs.Sizes as sizes
use Rattle.eo_show.specs.Sizes.{some_places}
use Rattle.eo_show.proofs.Order.{members-end}
use Rattle.eo_show.proofs.MembersAt.{get-some, known-at, same-count, at}
use Rattle.eo_show.proofs.FormLists.{wanted-is, part-size-is, lines-end}
use Rattle.eo_show.proofs.sizes.find_lines.Goals as goal

pub is_wanted-wanted-requires-clause-form : goal.is_wanted-wanted-requires-clause-form
is_wanted-wanted-requires-clause-form c =
    let t = c.args.table.now in
    let S = signature t.trees c.args.sig.now in
    let count = same-count S t c.args.members.now.found.keys c.args.members.now.forms.items c.requires.kept.forms in
    omega (arith, count, c.len.ensures, c.saturating_sub-others.ensures, c.loop-place-test.true)

pub loop-place-preserved : goal.loop-place-preserved
loop-place-preserved c =
    let t = c.args.table.now in
    let S = signature t.trees c.args.sig.now in
    let ms = c.args.members.now.found.keys in
    let all = member_trees t ms in
    let i = c.loop-place.place in
    let within : i < length ms = omega (arith, c.len.ensures, c.saturating_sub-others.ensures, c.loop-place-test.true) in
    let lt : i < length all = omega (arith, within, length-map ms (member_tree t)) in
    let some = get-some c.args.members.now.forms.items i (omega (arith, same-count S t ms c.args.members.now.forms.items c.requires.kept.forms, within)) in
    let known = known-at S t ms c.args.members.now.forms.items i some.0 c.requires.kept.forms c.requires.kept.ordered some.1 in
    let found = ap (λ ns. slice_index_or ns i 0) c.requires.places ∙ get_or-map (some_places S all) all i (Con 0) 0 lt in
    let wanted = c.is_wanted-wanted.ensures some.0 some.1 ∙ wanted-is S all t (at all i) some.0 (slice_index_or c.args.places.now i 0) c.in_ok-size.size known.kept found c.in_ok-size.ensures in
    record {
      sizes = c.in_ok-push.ensures.items ∙ ap₂ (λ zs z. zs ++ z ∷ []) c.loop-place.invariant.sizes (c.as_part.ensures ∙ part-size-is S all (at all i) c.is_wanted-wanted.result c.in_ok-size.size wanted c.in_ok-size.ensures) ∙ sym (map_more (sizes.part_size S all) all i (Con 0) lt);
      wants = c.in_ok-push-2.ensures.items ∙ ap₂ (λ bs b. bs ++ b ∷ []) c.loop-place.invariant.wants wanted ∙ sym (map_more (is_defined S all) all i (Con 0) lt);
    }

pub returns : goal.returns
returns c = λ u e.
    let t = c.args.table.now in
    let S = signature t.trees c.args.sig.now in
    let ms = c.args.members.now.found.keys in
    let all = member_trees t ms in
    let end = members-end S u in
    let whole : all ≡ end.0 ++ u ∷ [] = e ∙ end.1 in
    let count : length all ≡ length end.0 + 1 = ap length whole ∙ length-append end.0 (u ∷ []) in
    let last : length end.0 ≡ c.loop-place.place = omega (arith, count, length-map ms (member_tree t), c.len.ensures, c.saturating_sub-others.ensures, c.loop-place-test.false, c.loop-place.auto.place-end) in
    let front : take c.loop-place.place all ≡ end.0 = ap (take c.loop-place.place) whole ∙ take_at end.0 (u ∷ []) c.loop-place.place last in
    c.in_ok-push-3.ensures.items ∙ ap (λ bs. bs ++ true ∷ []) (c.loop-place.invariant.wants ∙ ap (map (is_defined S all)) front) ∙ lines-end S all end.0 u c.requires.kept.ordered whole
