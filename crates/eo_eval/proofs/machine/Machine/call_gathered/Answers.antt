use Rattle.std.proofs.Common.{◌≡◌, ◌<◌, ◌∙◌, All, length, take, drop, map, List, ℕ, sym, ap, subst, refl}
use Rattle.std.specs.Prelude.{IfOk}
use Rattle.eo_term.specs.Terms.{tree_at}
use Rattle.eo_term.specs.Tree.{Tree}
use Rattle.eo_stack.specs.Evaluation.{Call, Ended}
use Rattle.eo_eval.specs.Ready.{Calling, Goes, told_call, outcome_of_parts}
use Rattle.eo_eval.proofs.Gathered.{call_ready, call_told}
use Rattle.eo_eval.proofs.Gathering.{values_from}
use Rattle.eo_stack.proofs.Unchanged.{grows_same}
use Rattle.eo_eval.proofs.machine.Machine.call_gathered.Goals as goal

pub call-requires-clause-calling : goal.call-requires-clause-calling
call-requires-clause-calling c =
    let k = c.args.sig.now in
    let t = c.args.table.now in
    let typed = c.args.types.now in
    let e = c.args.self.now in
    let later = record e { stack = c.cut.new.self } in
    let h = c.requires.gathering in
    let fs = c.cut.ensures.frames ∙ c.in_ok-wait.ensures.frames in
    let values = c.cut.ensures.values ∙ ap (take c.args.base) c.wait.ensures.values in
    let all : c.in_ok-args.args ≡ drop c.args.base e.stack.values.items =
    c.in_ok-args.ensures ∙ values_from c.args.base e.stack.values.items c.as_slice.result.now (c.as_slice.ensures.value ∙ c.wait.ensures.values) in
    let call : List ℕ → Call = λ xs. record { program = c.args.program; arguments = map (tree_at t.trees) xs } in
    subst (λ xs. Calling k t typed later (call xs)) (sym all) (call_ready k t typed e c.args.id c.args.base c.args.deepest h c.requires.all c.args.program c.requires.program later fs values refl refl refl refl)

pub returns-clause-goes : goal.returns-clause-goes
returns-clause-goes c =
    let k = c.args.sig.now in
    let t = c.args.table.now in
    let typed = c.args.types.now in
    let e = c.args.self.now in
    let later = record e { stack = c.cut.new.self } in
    let h = c.requires.gathering in
    let fs = c.cut.ensures.frames ∙ c.in_ok-wait.ensures.frames in
    let values = c.cut.ensures.values ∙ ap (take c.args.base) c.wait.ensures.values in
    let all : c.in_ok-args.args ≡ drop c.args.base e.stack.values.items =
    c.in_ok-args.ensures ∙ values_from c.args.base e.stack.values.items c.as_slice.result.now (c.as_slice.ensures.value ∙ c.wait.ensures.values) in
    let call : List ℕ → Call = λ xs. record { program = c.args.program; arguments = map (tree_at t.trees) xs } in
    let before : Ended Tree = outcome_of_parts k t e c.args.id c.args.base c.args.left in
    let same : told_call k t later (call c.in_ok-args.args) c.args.left ≡ before =
    ap (λ xs. told_call k t later (call xs) c.args.left) all ∙ call_told k t typed e c.args.id c.args.base c.args.deepest h c.requires.all c.args.program c.requires.program later fs values refl refl c.args.left in
    subst (λ o. IfOk c.call.result (Goes k c.call.new.table typed c.call.new.self o)) same c.call.ensures.goes

pub returns-in_err-wait-clause-grows : goal.returns-in_err-wait-clause-grows
returns-in_err-wait-clause-grows c = grows_same c.requires.gathering.held.fit

pub returns-in_err-args-clause-grows : goal.returns-in_err-args-clause-grows
returns-in_err-args-clause-grows c = grows_same c.requires.gathering.held.fit

pub call-requires-clause-key : goal.call-requires-clause-key
call-requires-clause-key c =
    let vs = c.args.self.now.stack.values.items in
    subst (All (λ i. i < length c.args.table.now.trees)) (sym (c.in_ok-args.ensures ∙ values_from c.args.base vs c.as_slice.result.now (c.as_slice.ensures.value ∙ c.wait.ensures.values))) c.requires.gathering.values_live
