use Rattle.std.proofs.Common.{sym, subst}
use Rattle.eo_base.specs.Checks.{Checked}
use Rattle.eo_sig.specs.Reading.{signature}
use Rattle.eo_term.specs.Tree.{Tree}
use Rattle.eo_rule.specs.Answers.{GivesTerm}
use Rattle.eo_rule.specs.Reading.{conclusion_in, read_use, ConcludesIn}
use Rattle.eo_rule.proofs.Chains.{conclusion-of, answers_only}
use Rattle.eo_rule.proofs.using.conclude_or_leave.Goals as goal

pub returns-clause-gives : goal.returns-clause-gives
returns-clause-gives c =
    let t = c.args.table.now in
    subst (λ (o : Checked Tree). GivesTerm c.conclude_by.new.table c.conclude_by.result o)
    (sym (conclusion-of (signature t.trees c.args.sig.now) c.args.rule (read_use t.trees c.args.given.now) _ (c.rule_of-rule.ensures.value t.trees)))
    c.conclude_by.ensures.gives

pub returns-clause-instance : goal.returns-clause-instance
returns-clause-instance c =
    let t = c.args.table.now in
    let S = signature t.trees c.args.sig.now in
    let u = read_use t.trees c.args.given.now in
    answers_only c.conclude_by.new.table c.conclude_by.result (conclusion_in c.args.sig.now t c.args.rule c.args.given.now) (ConcludesIn c.args.sig.now t c.args.rule c.args.given.now)
    (λ x e. c.conclusion_law.ensures.sound S c.args.rule u x c.requires.serves.usable c.requires.values e)
    (λ x k. c.conclusion_law.ensures.complete S c.args.rule u x c.requires.serves.usable c.requires.values k)
    c.conclude_by.ensures.value
    (returns-clause-gives c)

pub conclude_by-requires-clause-rule : goal.conclude_by-requires-clause-rule
conclude_by-requires-clause-rule c = c.rule_of-rule.ensures.below _ c.requires.serves.fit.below
