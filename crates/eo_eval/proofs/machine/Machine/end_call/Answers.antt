use Rattle.std.proofs.Common.{◌≡◌, ◌∙◌, ap, suc, take, add-one}
use Rattle.eo_stack.specs.Reading.{deeper, memo_of, depth_of}
use Rattle.eo_stack.specs.Scopes.{outer}
use Rattle.eo_eval.proofs.Called.{ended_call_told, ended_call_ready}
use Rattle.eo_eval.proofs.machine.Machine.end_call.Goals as goal

pub returns : goal.returns
returns c =
    let deep : c.in-Some.deepest ≡ suc (depth_of c.args.now.now) = c.in-Some.ensures.1 ∙ (add-one c.deepest.result ∙ ap suc c.deepest.ensures) in
    record {
      told = ended_call_told c.args.sig.now c.args.table.now c.args.types.now c.args.self.now c.close.new.self c.args.place c.args.body c.args.base c.args.here c.args.kept c.args.now.now c.deeper.result c.memo.result c.requires.given.result
          (c.close.ensures.frames ∙ c.finish_call.ensures.work.frames) (c.close.ensures.values ∙ c.finish_call.ensures.work.values) (c.close.ensures.scope ∙ ap (λ s. outer s c.args.base c.args.here) c.finish_call.ensures.work.scope) (c.close.ensures.calls ∙ c.finish_call.ensures.calls) c.in-Some.deepest c.deeper.ensures;
      ready = ended_call_ready c.args.sig.now c.args.table.now c.args.types.now c.args.self.now c.close.new.self c.args.place c.args.body c.args.base c.args.here c.args.kept c.args.now.now c.deeper.result c.memo.result c.requires.given.result
          (c.close.ensures.frames ∙ c.finish_call.ensures.work.frames) (c.close.ensures.values ∙ c.finish_call.ensures.work.values) (c.close.ensures.scope ∙ ap (λ s. outer s c.args.base c.args.here) c.finish_call.ensures.work.scope) (c.close.ensures.calls ∙ c.finish_call.ensures.calls)
          (c.close.ensures.terms ∙ c.finish_call.ensures.terms) (c.close.ensures.locals ∙ ap (take c.args.kept) c.finish_call.ensures.locals) (c.deeper.ensures ∙ ap (deeper c.args.now.now) deep) (c.memo.ensures ∙ ap (memo_of c.args.now.now) deep) c.requires.given.ready;
    }
