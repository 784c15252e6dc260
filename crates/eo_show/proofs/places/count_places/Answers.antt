use Rattle.std.proofs.Common.{slice_index_or, rules, ◌++◌, List, map, take, sym, ap, ◌∙◌, arith}
use Rattle.std.proofs.lemmas.List.{take_all, length-map}
use Rattle.eo_show.specs.declared.Member.{Member}
use Rattle.eo_show.specs.declared.parts.Form.{Form}
use Rattle.eo_show.specs.Places.{counted, parts_kept}
use Rattle.eo_show.specs.Plan.{member_tree, member_trees}
use Rattle.eo_show.proofs.Counting.{more-parts, none-counted, all-counted}
use Rattle.eo_show.proofs.places.count_places.Goals as goal

pub loop-form-init : goal.loop-form-init
loop-form-init c =
    let us = member_trees c.args.table.now c.args.members.now.found.keys in
    c.in_ok-places.ensures.items_if_clones_equal (search rules) ∙ none-counted us c.len.result (c.len.ensures ∙ sym (length-map c.args.members.now.found.keys (member_tree c.args.table.now)))

pub loop-form-preserved : goal.loop-form-preserved
loop-form-preserved c =
    let t = c.args.table.now in
    let us = member_trees t c.args.members.now.found.keys in
    let i = c.loop-form.form-index in
    let fs = c.args.members.now.forms.items in
    c.count_parts.ensures (parts_kept t (take i fs)) c.loop-form.invariant
    ∙ ap (λ (ms : List Member). map (counted (parts_kept t (take i fs) ++ member_trees t ms)) us) c.as_slice.ensures.value
    ∙ ap (λ (f : Form). map (counted (parts_kept t (take i fs) ++ member_trees t f.parts.items)) us) c.form-item.is
    ∙ ap (λ (gs : List Form). map (counted (parts_kept t (take i fs) ++ member_trees t (slice_index_or gs i c.form-item.result).parts.items)) us) c.deref-form-items.ensures.value
    ∙ ap (λ vs. map (counted vs) us) (more-parts t fs i c.form-item.result (omega (arith, c.loop-form-test.true)))

pub returns : goal.returns
returns c =
    let t = c.args.table.now in
    let us = member_trees t c.args.members.now.found.keys in
    let fs = c.args.members.now.forms.items in
    λ S h.
    c.loop-form.invariant
    ∙ ap (λ fs. map (counted (parts_kept t fs)) us) (take_all c.loop-form.form-index fs (omega (arith, c.loop-form-test.false)))
    ∙ all-counted S t c.args.members.now.found.keys fs h
