use Rattle.std.proofs.Common.{◌∙◌, ap}
use Rattle.eo_eval.specs.Ready.{outcome_from}
use Rattle.eo_eval.proofs.Pushed.{told_deep, told_calls, told_range, told_tall}
use Rattle.eo_eval.proofs.machine.Machine.outcome_at_end.Goals as goal

pub returns-in-Deep-clause-told : goal.returns-in-Deep-clause-told
returns-in-Deep-clause-told c = λ k t. ap (λ now. (outcome_from k t c.args.self.now now).0) c.in-Deep.is ∙ told_deep k t c.args.self.now

pub returns-in-Calls-clause-told : goal.returns-in-Calls-clause-told
returns-in-Calls-clause-told c = λ k t. ap (λ now. (outcome_from k t c.args.self.now now).0) c.in-Calls.is ∙ told_calls k t c.args.self.now

pub returns-in-Range-clause-told : goal.returns-in-Range-clause-told
returns-in-Range-clause-told c = λ k t. ap (λ now. (outcome_from k t c.args.self.now now).0) c.in-Range.is ∙ told_range k t c.args.self.now

pub returns-in-Tall-clause-told : goal.returns-in-Tall-clause-told
returns-in-Tall-clause-told c = λ k t. ap (λ now. (outcome_from k t c.args.self.now now).0) c.in-Tall.is ∙ told_tall k t c.args.self.now
