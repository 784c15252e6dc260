use Rattle.eo_session.proofs.Decided.{decides-same}
use Rattle.std.proofs.Common.{sym, ◌∙◌}
use Rattle.eo_shape.specs.Reading.{read_program}
use Rattle.eo_session.specs.Numbered.{origin_of}
use Rattle.eo_session.specs.Store.{state_of}
use Rattle.eo_session.proofs.Adding.{program-closed, program-open}
use Rattle.eo_session.proofs.store.Store.decide_program.Goals as goal

pub returns-then-not-may_declare-clause-decides : goal.returns-then-not-may_declare-clause-decides
returns-then-not-may_declare-clause-decides c =
    (program-closed (state_of c.args.self.now) (origin_of c.args.from) (read_program c.args.shape.now) (sym c.may_declare.ensures ∙ c.if-not-may_declare.true), λ q. absurd cc)

pub returns-clause-decides : goal.returns-clause-decides
returns-clause-decides c =
    decides-same c.decide_added_program.new.self c.decide_added_program.result _ _
    (program-open (state_of c.args.self.now) (origin_of c.args.from) (read_program c.args.shape.now) (sym c.may_declare.ensures ∙ c.if-not-may_declare.false)) c.decide_added_program.ensures.decides
