use Rattle.std.proofs.Common.{◌≡◌, ◌∙◌, false, length, sym, ap, subst, refl, arith}
use Rattle.std.specs.List.{list_any}
use Rattle.std.specs.Prelude.{is_some}
use Rattle.eo_base.proofs.Tests.{none_is}
use Rattle.indexmap.proofs.CallerLemmas.{insert_entry-new}
use Rattle.indexmap.specs.IndexMap.{get}
use Rattle.eo_base.specs.Limits.{calls_limit}
use Rattle.eo_sig.specs.Reading.{signature}
use Rattle.eo_stack.specs.Evaluation.{call_eq}
use Rattle.eo_stack.specs.Reading.{begun, read_call}
use Rattle.eo_eval.specs.Ready.{Calling, called_at, told_call, waiting_in}
use Rattle.eo_stack.specs.contracts.calls.CallKeyPartialEq.TheImpl as key_eq
use Rattle.eo_stack.specs.declared.stack.CallMemo.TheVariants as known
use Rattle.eo_eval.proofs.Beginning.{found_called, below_test, above_test, full_told, began_called, began_calling, began_told}
use Rattle.eo_eval.proofs.Keys.{begun_found}
use Rattle.eo_eval.proofs.Running.{begun_count}
use Rattle.eo_eval.proofs.machine.Machine.begin_call.Goals as goal

pub returns-in-Some-clause-calling : goal.returns-in-Some-clause-calling
returns-in-Some-clause-calling c =
    let t = c.args.table.now in
    let e = c.args.self.now in
    subst (Calling c.args.sig.now t c.args.types.now e) (sym (found_called t.trees c.args.key e.calls.entries c.in-Some.place c.in-Some.ensures.index)) c.requires.calling

pub returns-in-Some-clause-told : goal.returns-in-Some-clause-told
returns-in-Some-clause-told c =
    let t = c.args.table.now in
    let e = c.args.self.now in
    ap (λ y. told_call c.args.sig.now t e y c.args.left) (found_called t.trees c.args.key e.calls.entries c.in-Some.place c.in-Some.ensures.index)

pub returns-then-place-ge-CALLS-clause-full : goal.returns-then-place-ge-CALLS-clause-full
returns-then-place-ge-CALLS-clause-full c =
    let t = c.args.table.now in
    let e = c.args.self.now in
    let S = signature t.trees c.args.sig.now in
    let b = begun t.trees e.calls.entries in
    let fresh : list_any (call_eq (read_call t.trees c.args.key)) b ≡ false = sym (begun_found t.trees c.laws.ensures.same c.args.key c.requires.key e.calls.entries c.requires.calling.held.keys_live) ∙ (sym c.get_index_of.ensures.found ∙ ap is_some c.in_default.is) in
    let count : length b ≡ c.len-place.result = begun_count t.trees e.calls.entries ∙ sym c.len-place.ensures.len in
    full_told S calls_limit (read_call t.trees c.args.key) b (waiting_in t e) c.args.left c.requires.left fresh (above_test (length b) calls_limit (omega (arith, count, c.if-place-ge-CALLS.true)))

pub returns-clause-calling : goal.returns-clause-calling
returns-clause-calling c =
    let k = c.args.sig.now in
    let t = c.args.table.now in
    let typed = c.args.types.now in
    let e = c.args.self.now in
    let key = c.args.key in
    let later = record e { calls = c.insert.new.self } in
    let b = begun t.trees e.calls.entries in
    let absent = sym c.get_index_of.ensures.found ∙ ap is_some c.in_default.is in
    let fresh : list_any (call_eq (read_call t.trees key)) b ≡ false = sym (begun_found t.trees c.laws.ensures.same key c.requires.key e.calls.entries c.requires.calling.held.keys_live) ∙ absent in
    let count : length b ≡ c.len-place.result = begun_count t.trees e.calls.entries ∙ sym c.len-place.ensures.len in
    let room = below_test (length b) calls_limit (omega (arith, count, c.if-place-ge-CALLS.false)) in
    let added = c.in_ok-insert.ensures.entries ∙ insert_entry-new key_eq.ghosts.eq e.calls key known.Open (none_is (get key_eq.ghosts.eq e.calls key) absent) in
    subst (Calling k t typed later) (sym (ap (called_at t later) c.len-place.ensures.len ∙ began_called k t typed e later key c.requires.key c.requires.calling refl refl refl added refl refl fresh room))
    (began_calling k t typed e later key c.requires.key c.requires.calling refl refl refl added refl refl fresh room)

pub returns-clause-told : goal.returns-clause-told
returns-clause-told c =
    let k = c.args.sig.now in
    let t = c.args.table.now in
    let typed = c.args.types.now in
    let e = c.args.self.now in
    let key = c.args.key in
    let later = record e { calls = c.insert.new.self } in
    let b = begun t.trees e.calls.entries in
    let absent = sym c.get_index_of.ensures.found ∙ ap is_some c.in_default.is in
    let fresh : list_any (call_eq (read_call t.trees key)) b ≡ false = sym (begun_found t.trees c.laws.ensures.same key c.requires.key e.calls.entries c.requires.calling.held.keys_live) ∙ absent in
    let count : length b ≡ c.len-place.result = begun_count t.trees e.calls.entries ∙ sym c.len-place.ensures.len in
    let room = below_test (length b) calls_limit (omega (arith, count, c.if-place-ge-CALLS.false)) in
    let added = c.in_ok-insert.ensures.entries ∙ insert_entry-new key_eq.ghosts.eq e.calls key known.Open (none_is (get key_eq.ghosts.eq e.calls key) absent) in
    ap (λ y. told_call k t later y c.args.left) (ap (called_at t later) c.len-place.ensures.len ∙ began_called k t typed e later key c.requires.key c.requires.calling refl refl refl added refl refl fresh room)
    ∙ began_told k t typed e later key c.requires.key c.requires.calling refl refl refl added refl refl fresh room c.args.left c.requires.left
