use Rattle.std.proofs.Common.{◌≡◌, false, All, length, map, take, sym, ap, ap₂, ◌∙◌, subst, arith}
use Rattle.std.specs.List.{Contains, fold}
use Rattle.std.proofs.lemmas.Result.{IfOk-weaker}
use Rattle.eo_sig.specs.Reading.{signature}
use Rattle.eo_show.specs.Forms.{form, atom}
use Rattle.eo_show.specs.Members.{has_no_spelling}
use Rattle.eo_show.specs.Plan.{IsLive, member_tree, member_trees}
use Rattle.eo_show.specs.Sizes as sizes
use Rattle.eo_show.specs.Sizes.{own, head, list_size, with_part}
use Rattle.eo_show.proofs.MembersAt.{known-at, same-count, parts-before, live-at, tree-at, at}
use Rattle.eo_show.proofs.FormLists.{leaf-is, own-atom, own-list}
use Rattle.eo_show.proofs.sizes.size_of.Goals as goal

pub form-form-requires : goal.form-form-requires
form-form-requires c =
    let t = c.args.table.now in
    let S = signature t.trees c.args.sig.now in
    let count = same-count S t c.args.members.now.found.keys c.args.members.now.forms.items c.requires.kept.forms in
    omega (arith, count, c.requires.within)

pub leaf_size-requires-clause-live : goal.leaf_size-requires-clause-live
leaf_size-requires-clause-live c =
    let t = c.args.table.now in
    let S = signature t.trees c.args.sig.now in
    live-at S t c.args.members.now.found.keys c.args.place c.at.result c.requires.kept.live c.at.ensures

pub leaf_size-requires-clause-spelled : goal.leaf_size-requires-clause-spelled
leaf_size-requires-clause-spelled c =
    let t = c.args.table.now in
    let S = signature t.trees c.args.sig.now in
    let ms = c.args.members.now.found.keys in
    let known = known-at S t ms c.args.members.now.forms.items c.args.place c.form-form.result.now c.requires.kept.forms c.requires.kept.ordered c.form-form.ensures in
    subst (λ u. has_no_spelling S u ≡ false) (sym (tree-at S t ms c.args.place c.at.result c.at.ensures)) known.spelled

pub returns-in-Leaf : goal.returns-in-Leaf
returns-in-Leaf c =
    let t = c.args.table.now in
    let S = signature t.trees c.args.sig.now in
    let ms = c.args.members.now.found.keys in
    let all = member_trees t ms in
    let u = at all c.args.place in
    let known = known-at S t ms c.args.members.now.forms.items c.args.place c.form-form.result.now c.requires.kept.forms c.requires.kept.ordered c.form-form.ensures in
    let leaf = leaf-is (form S u) (sym known.kept.shape ∙ c.in-Leaf.is) in
    let same = tree-at S t ms c.args.place c.at.result c.at.ensures in
    IfOk-weaker c.leaf_size.result (λ s. s ≡ sizes.size_of (atom leaf.0 leaf.1)) (λ s. s ≡ sizes.size_of (own S all u)) (λ s e. e ∙ ap sizes.size_of (sym (own-atom S all u known.next.value leaf.0 leaf.1 leaf.2)))
    (c.leaf_size.ensures leaf.0 leaf.1 (ap (form S) same ∙ leaf.2))

pub with_parts-requires : goal.with_parts-requires
with_parts-requires c =
    let t = c.args.table.now in
    let S = signature t.trees c.args.sig.now in
    let ms = c.args.members.now.found.keys in
    let all = member_trees t ms in
    let known = known-at S t ms c.args.members.now.forms.items c.args.place c.form-form.result.now c.requires.kept.forms c.requires.kept.ordered c.form-form.ensures in
    record {
      live = c.requires.kept.live;
      parts = subst (All (IsLive t)) (sym c.as_slice.ensures.value) known.kept.parts.live;
      before = subst (λ ps. All (λ p. Contains (take (length c.args.sizes.now) all) (member_tree t p)) ps) (sym c.as_slice.ensures.value)
          (subst (λ n. All (λ p. Contains (take n all) (member_tree t p)) c.form-form.result.now.parts.items) (sym c.requires.count) (parts-before S t (take c.args.place all) (at all c.args.place) c.form-form.result.now known));
    }

pub returns : goal.returns
returns c =
    let t = c.args.table.now in
    let S = signature t.trees c.args.sig.now in
    let ms = c.args.members.now.found.keys in
    let all = member_trees t ms in
    let u = at all c.args.place in
    let f = c.form-form.result.now in
    let known = known-at S t ms c.args.members.now.forms.items c.args.place f c.requires.kept.forms c.requires.kept.ordered c.form-form.ensures in
    let kept = c.requires.sizes ∙ ap (λ n. map (sizes.part_size S all) (take n all)) (sym c.requires.count) in
    c.with_parts.ensures S kept
    ∙ ap₂ (λ z ps. fold with_part z (map (sizes.part_size S all) (member_trees t ps))) (c.list_size-list.ensures ∙ ap list_size (c.in_ok-head.ensures t.trees)) c.as_slice.ensures.value
    ∙ own-list S all t u f known.next.value known.kept c.in_default.not-Leaf
