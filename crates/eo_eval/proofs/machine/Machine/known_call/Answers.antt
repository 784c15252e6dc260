use Rattle.std.proofs.Common.{◌≡◌, ◌∙◌, Some, sym, ap, subst, slice_get}
use Rattle.std.specs.Option.{option_map}
use Rattle.eo_stack.specs.Machine.{calls}
use Rattle.eo_stack.specs.Reading.{IsKnown, begun, call_at, read_call}
use Rattle.eo_stack.specs.declared.calls.CallKey.{CallKey}
use Rattle.eo_stack.specs.declared.stack.CallMemo as code_memo
use Rattle.eo_eval.proofs.Beginning.{all_at}
use Rattle.eo_eval.proofs.Called.{call_read}
use Rattle.eo_eval.proofs.machine.Machine.known_call.Goals as goal

pub returns : goal.returns
returns c = λ S most ts h.
    let es = c.args.self.now.calls.entries in
    let b = begun ts es in
    let key = c.unwrap.result.0.now in
    let known = c.unwrap.result.1.now in
    let at : slice_get es c.args.place ≡ Some (key, known) = sym c.get_index.ensures.entry ∙ ap (option_map (λ p. (p.0.now, p.1.now))) c.unwrap.ensures in
    let P : CallKey × code_memo.CallMemo → Type 0 = λ e. IsKnown ts b (calls S most (read_call ts e.0)) e.1 in
    c.use_memo.ensures ts b (calls S most (call_at b c.args.place)) (subst (λ x. IsKnown ts b (calls S most x) known) (sym (call_read ts es c.args.place (key, known) at)) (all_at P es c.args.place (key, known) h.calls at))
