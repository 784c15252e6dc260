use Rattle.std.proofs.Common.{sym, subst}
use Rattle.std.proofs.lemmas.Result.{on_ok_weaker}
use Rattle.eo_term.specs.Terms.{tree_at}
use Rattle.eo_sig.specs.Reading.{signature}
use Rattle.eo_show.specs.Walking.{Begins}
use Rattle.eo_show.proofs.Looks.{own_new, part-live, part-within, done-walking, done-less, pass-walking, pass-less, start-walking, start-less, start-unprintable}
use Rattle.eo_show.proofs.members.Members.turn.Goals as goal

pub keep-requires-clause-new : goal.keep-requires-clause-new
keep-requires-clause-new c =
    let t = c.args.table.now in
    let S = signature t.trees c.args.sig.now in
    let u = tree_at t.trees c.args.id in
    (own_new S t u c.args.self.now.found.keys c.args.self.now.forms.items c.args.frames.now.items c.args.frame c.requires.walking).1

pub returns-in_default-clause-walking : goal.returns-in_default-clause-walking
returns-in_default-clause-walking c =
    let t = c.args.table.now in
    let S = signature t.trees c.args.sig.now in
    let u = tree_at t.trees c.args.id in
    done-walking S t u c.args.self.now.found.keys c.args.self.now.forms.items c.args.frames.now.items c.args.frame c.requires.walking (sym c.in_default.ensures) c.keep.new.self.found.keys c.keep.new.self.forms.items c.in_ok-keep.ensures.keys c.in_ok-keep.ensures.forms

pub returns-in_default-clause-shorter : goal.returns-in_default-clause-shorter
returns-in_default-clause-shorter c =
    let t = c.args.table.now in
    let S = signature t.trees c.args.sig.now in
    let u = tree_at t.trees c.args.id in
    done-less S t u c.args.self.now.found.keys c.args.self.now.forms.items c.args.frames.now.items c.args.frame c.requires.walking (sym c.in_default.ensures) c.keep.new.self.found.keys c.keep.new.self.forms.items c.in_ok-keep.ensures.keys c.in_ok-keep.ensures.forms

pub has-known-requires-clause-member : goal.has-known-requires-clause-member
has-known-requires-clause-member c =
    let t = c.args.table.now in
    let S = signature t.trees c.args.sig.now in
    let u = tree_at t.trees c.args.id in
    part-live S t u c.args.self.now.found.keys c.args.self.now.forms.items c.args.frames.now.items c.args.frame c.requires.walking c.in-Some.part (sym c.in-Some.ensures)

pub pass-requires : goal.pass-requires
pass-requires c =
    let t = c.args.table.now in
    let S = signature t.trees c.args.sig.now in
    let u = tree_at t.trees c.args.id in
    part-within S t u c.args.self.now.found.keys c.args.self.now.forms.items c.args.frames.now.items c.args.frame c.requires.walking c.in-Some.part (sym c.in-Some.ensures)

pub begin-requires-clause-live : goal.begin-requires-clause-live
begin-requires-clause-live c =
    let t = c.args.table.now in
    let S = signature t.trees c.args.sig.now in
    let u = tree_at t.trees c.args.id in
    part-live S t u c.args.self.now.found.keys c.args.self.now.forms.items c.args.frames.now.items c.args.frame c.requires.walking c.in-Some.part (sym c.in-Some.ensures)

pub returns-then-known-clause-walking : goal.returns-then-known-clause-walking
returns-then-known-clause-walking c =
    let t = c.args.table.now in
    let S = signature t.trees c.args.sig.now in
    let u = tree_at t.trees c.args.id in
    pass-walking S t u c.args.self.now.found.keys c.args.self.now.forms.items c.args.frames.now.items c.args.frame c.requires.walking c.in-Some.part (sym c.in-Some.ensures) (sym c.if-known.ensures) c.pass.new.frames.items c.in_ok-pass.ensures

pub returns-then-known-clause-shorter : goal.returns-then-known-clause-shorter
returns-then-known-clause-shorter c =
    let t = c.args.table.now in
    let S = signature t.trees c.args.sig.now in
    let u = tree_at t.trees c.args.id in
    pass-less S t u c.args.self.now.found.keys c.args.self.now.forms.items c.args.frames.now.items c.args.frame c.requires.walking c.in-Some.part (sym c.in-Some.ensures) (sym c.if-known.ensures) c.pass.new.frames.items c.in_ok-pass.ensures

pub returns-clause-walking : goal.returns-clause-walking
returns-clause-walking c =
    let t = c.args.table.now in
    let S = signature t.trees c.args.sig.now in
    let u = tree_at t.trees c.args.id in
    on_ok_weaker c.begin.result (λ b. start-walking S t u c.args.self.now.found.keys c.args.self.now.forms.items c.args.frames.now.items c.args.frame c.requires.walking c.in-Some.part (sym c.in-Some.ensures) (sym c.if-known.ensures) c.begin.new.frames.items (subst (λ old. Begins S t c.in-Some.part old c.begin.new.frames.items) c.in_ok-pass.ensures b)) c.begin.ensures.begun

pub returns-clause-shorter : goal.returns-clause-shorter
returns-clause-shorter c =
    let t = c.args.table.now in
    let S = signature t.trees c.args.sig.now in
    let u = tree_at t.trees c.args.id in
    on_ok_weaker c.begin.result (λ b. start-less S t u c.args.self.now.found.keys c.args.self.now.forms.items c.args.frames.now.items c.args.frame c.requires.walking c.in-Some.part (sym c.in-Some.ensures) (sym c.if-known.ensures) c.begin.new.frames.items (subst (λ old. Begins S t c.in-Some.part old c.begin.new.frames.items) c.in_ok-pass.ensures b)) c.begin.ensures.begun

pub returns-clause-refused : goal.returns-clause-refused
returns-clause-refused c =
    let t = c.args.table.now in
    let S = signature t.trees c.args.sig.now in
    let u = tree_at t.trees c.args.id in
    λ e. start-unprintable S t u c.args.self.now.found.keys c.args.self.now.forms.items c.args.frames.now.items c.args.frame c.requires.walking c.in-Some.part (sym c.in-Some.ensures) (sym c.if-known.ensures) (c.begin.ensures.refused e)
