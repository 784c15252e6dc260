use Rattle.std.proofs.Common.{[], sym, subst, rules}
use Rattle.eo_term.specs.Terms.{tree_at}
use Rattle.eo_sig.specs.Reading.{signature}
use Rattle.eo_show.specs.Walking.{Begins, IsWalking}
use Rattle.eo_show.proofs.Looks.{first-unprintable, first-walking, last-members}
use Rattle.eo_show.proofs.members.Members.find.Goals as goal

pub returns-in-Err-clause-refused : goal.returns-in-Err-clause-refused
returns-in-Err-clause-refused c =
    let t = c.args.table.now in
    let S = signature t.trees c.args.sig.now in
    let u = tree_at t.trees c.args.id in
    λ e. first-unprintable S t u c.requires.value c.member_of.result c.member_of.ensures.live c.member_of.ensures.tree (c.in-Err.ensures.refused e)

pub loop-frame-init : goal.loop-frame-init
loop-frame-init c =
    let t = c.args.table.now in
    let S = signature t.trees c.args.sig.now in
    let u = tree_at t.trees c.args.id in
    let v = c.member_of.result in
    let new = c.begin.new.frames.items in
    let started : Begins S t v [] new = subst (λ old. Begins S t v old new) c.new-frames.ensures.items c.in_default.ensures.begun in
    subst (λ ks. IsWalking S t u ks c.new-2.result.items new) (sym c.new.ensures.empty) (subst (λ fs. IsWalking S t u [] fs new) (sym c.new-2.ensures.items) (first-walking S t u c.requires.value v c.member_of.ensures.live c.member_of.ensures.tree new started))

pub returns-clause-printable : goal.returns-clause-printable
returns-clause-printable c =
    let t = c.args.table.now in
    let S = signature t.trees c.args.sig.now in
    let u = tree_at t.trees c.args.id in
    (last-members S t u c.loop-frame.members.found.keys c.loop-frame.members.forms.items c.loop-frame.frames.items c.loop-frame.invariant (search rules)).1
