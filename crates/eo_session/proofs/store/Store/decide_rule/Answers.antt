use Rattle.eo_session.proofs.Decided.{decides-same}
use Rattle.std.proofs.Common.{sym, ◌∙◌}
use Rattle.eo_shape.specs.Reading.{read_rule}
use Rattle.eo_session.specs.Numbered.{origin_of}
use Rattle.eo_session.specs.Store.{state_of}
use Rattle.eo_session.proofs.Concluding.{rule-closed, rule-open}
use Rattle.eo_session.proofs.store.Store.decide_rule.Goals as goal

pub returns-then-not-may_declare-clause-decides : goal.returns-then-not-may_declare-clause-decides
returns-then-not-may_declare-clause-decides c =
    (rule-closed (state_of c.args.self.now) (origin_of c.args.from) (read_rule c.args.shape.now) (sym c.may_declare.ensures ∙ c.if-not-may_declare.true), λ q. absurd cc)

pub returns-clause-decides : goal.returns-clause-decides
returns-clause-decides c =
    decides-same c.decide_added_rule.new.self c.decide_added_rule.result _ _
    (rule-open (state_of c.args.self.now) (origin_of c.args.from) (read_rule c.args.shape.now) (sym c.may_declare.ensures ∙ c.if-not-may_declare.false)) c.decide_added_rule.ensures.decides
