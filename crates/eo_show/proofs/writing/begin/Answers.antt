use Rattle.std.proofs.Common.{◌≡◌, ◌++◌, false, sym, ap, ap₂, ◌∙◌, subst, arith, append_assoc, append-nil}
use Rattle.std.specs.Prelude.{codes}
use Rattle.std.proofs.lemmas.Result.{on_ok_weaker}
use Rattle.eo_sig.specs.Reading.{signature}
use Rattle.eo_show.specs.Forms.{form}
use Rattle.eo_show.specs.Members.{has_no_spelling}
use Rattle.eo_show.specs.Plan.{member_trees, shape_of}
use Rattle.eo_show.specs.Sizes.{head}
use Rattle.eo_show.specs.Unwritten.{front, begun}
use Rattle.eo_show.proofs.MembersAt.{known-at, same-count, live-at, tree-at, at}
use Rattle.eo_show.proofs.FormLists.{leaf-is}
use Rattle.eo_show.proofs.WrittenParts.{front-list, begun-list}
use Rattle.eo_show.proofs.writing.begin.Goals as goal

pub form-requires : goal.form-requires
form-requires c =
    let t = c.args.table.now in
    let S = signature t.trees c.args.sig.now in
    omega (arith, same-count S t c.args.members.now.found.keys c.args.members.now.forms.items c.requires.kept.forms, c.requires.within)

pub write_leaf-requires-clause-live : goal.write_leaf-requires-clause-live
write_leaf-requires-clause-live c =
    let t = c.args.table.now in
    let S = signature t.trees c.args.sig.now in
    live-at S t c.args.members.now.found.keys c.args.place c.at.result c.requires.kept.live c.at.ensures

pub write_leaf-requires-clause-spelled : goal.write_leaf-requires-clause-spelled
write_leaf-requires-clause-spelled c =
    let t = c.args.table.now in
    let S = signature t.trees c.args.sig.now in
    let ms = c.args.members.now.found.keys in
    let known = known-at S t ms c.args.members.now.forms.items c.args.place c.form.result.now c.requires.kept.forms c.requires.kept.ordered c.form.ensures in
    subst (λ u. has_no_spelling S u ≡ false) (sym (tree-at S t ms c.args.place c.at.result c.at.ensures)) known.spelled

pub returns-in-Leaf-clause-bytes : goal.returns-in-Leaf-clause-bytes
returns-in-Leaf-clause-bytes c =
    let t = c.args.table.now in
    let S = signature t.trees c.args.sig.now in
    let ms = c.args.members.now.found.keys in
    let u = at (member_trees t ms) c.args.place in
    let known = known-at S t ms c.args.members.now.forms.items c.args.place c.form.result.now c.requires.kept.forms c.requires.kept.ordered c.form.ensures in
    let leaf = leaf-is (form S u) (sym known.kept.shape ∙ c.in-Leaf.is) in
    on_ok_weaker c.write_leaf.result (λ e. e ∙ ap (λ F. c.args.out.now.items ++ front S F) (sym leaf.2))
    (c.write_leaf.ensures leaf.0 leaf.1 (ap (form S) (tree-at S t ms c.args.place c.at.result c.at.ensures) ∙ leaf.2))

pub returns-in-Leaf-clause-begun : goal.returns-in-Leaf-clause-begun
returns-in-Leaf-clause-begun c =
    let t = c.args.table.now in
    let S = signature t.trees c.args.sig.now in
    let ms = c.args.members.now.found.keys in
    let u = at (member_trees t ms) c.args.place in
    let known = known-at S t ms c.args.members.now.forms.items c.args.place c.form.result.now c.requires.kept.forms c.requires.kept.ordered c.form.ensures in
    let leaf = leaf-is (form S u) (sym known.kept.shape ∙ c.in-Leaf.is) in
    on_ok_weaker c.write_leaf.result (λ e. sym (append-nil c.args.lists.now.items) ∙ ap (λ F. c.args.lists.now.items ++ begun S F (record { place = c.args.place; next = 0 })) (sym leaf.2))
    (c.write_leaf.ensures leaf.0 leaf.1 (ap (form S) (tree-at S t ms c.args.place c.at.result c.at.ensures) ∙ leaf.2))

pub returns : goal.returns
returns c =
    let t = c.args.table.now in
    let S = signature t.trees c.args.sig.now in
    let ms = c.args.members.now.found.keys in
    let u = at (member_trees t ms) c.args.place in
    let known = known-at S t ms c.args.members.now.forms.items c.args.place c.form.result.now c.requires.kept.forms c.requires.kept.ordered c.form.ensures in
    let shape = known.kept.shape in
    record {
      bytes =
          c.in_ok-print_head.ensures t.trees ∙ ap₂ (λ xs s. xs ++ head S s) c.in_ok-push.ensures.items shape
          ∙ append_assoc c.args.out.now.items (codes "(") (head S (shape_of (form S u)))
          ∙ ap (λ xs. c.args.out.now.items ++ xs) (sym (front-list S (form S u) (λ e. c.in_default.not-Leaf (shape ∙ e))));
      begun = c.in_ok-push-2.ensures.items ∙ ap (λ xs. c.args.lists.now.items ++ xs) (sym (begun-list S (form S u) (record { place = c.args.place; next = 0 }) (λ e. c.in_default.not-Leaf (shape ∙ e))));
    }
