use Rattle.std.proofs.Common.{◌≡◌, ◌<◌, ◌∙◌, All, Some, length, map, sym, ap, subst, slice_get}
use Rattle.std.specs.Prelude.{IfOk}
use Rattle.std.specs.Option.{option_map}
use Rattle.eo_term.specs.Growth.{trees_in}
use Rattle.eo_term.specs.Terms.{tree_at}
use Rattle.eo_sig.specs.Reading.{signature}
use Rattle.eo_stack.specs.Bodies.{Finds, chosen_case}
use Rattle.eo_stack.specs.Evaluation.{Call}
use Rattle.eo_stack.specs.Reading.{begun, call_at}
use Rattle.eo_stack.specs.declared.calls.CallKey.{CallKey}
use Rattle.eo_stack.specs.declared.stack.CallMemo as code_memo
use Rattle.eo_eval.proofs.Beginning.{all_at}
use Rattle.eo_eval.proofs.Called.{call_read}
use Rattle.eo_eval.proofs.machine.Machine.find.Goals as goal

pub find_body-requires-clause-args : goal.find_body-requires-clause-args
find_body-requires-clause-args c =
    let ts = c.args.table.now.trees in
    let es = c.args.self.now.calls.entries in
    let key = c.unwrap.result.0.now in
    let known = c.unwrap.result.1.now in
    let at : slice_get es c.args.place ≡ Some (key, known) = sym c.get_index.ensures.entry ∙ ap (option_map (λ p. (p.0.now, p.1.now))) c.unwrap.ensures in
    let P : CallKey × code_memo.CallMemo → Type 0 = λ e. All (λ i. i < length ts) e.0.args in
    subst (All (λ i. i < length ts)) (sym c.as_slice.ensures) (all_at P es c.args.place (key, known) c.requires.keys at)

pub returns-clause-found : goal.returns-clause-found
returns-clause-found c =
    let t = c.args.table.now in
    let es = c.args.self.now.calls.entries in
    let key = c.unwrap.result.0.now in
    let known = c.unwrap.result.1.now in
    let at : slice_get es c.args.place ≡ Some (key, known) = sym c.get_index.ensures.entry ∙ ap (option_map (λ p. (p.0.now, p.1.now))) c.unwrap.ensures in
    let args : trees_in t c.as_slice.result.now ≡ map (tree_at t.trees) key.args = ap (trees_in t) c.as_slice.ensures in
    let call : Call = record { program = key.program; arguments = trees_in t c.as_slice.result.now } in
    let same : call ≡ call_at (begun t.trees es) c.args.place = (λ i. record { program = key.program; arguments = args i }) ∙ sym (call_read t.trees es c.args.place (key, known) at) in
    subst (λ x. IfOk c.find_body.result (λ o. Finds t c.find_body.new.subst o (chosen_case (signature t.trees c.args.sig.now) x))) same c.find_body.ensures.found
