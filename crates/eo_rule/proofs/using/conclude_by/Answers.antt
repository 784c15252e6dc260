use Rattle.std.proofs.Common.{sym, subst}
use Rattle.eo_base.specs.Checks.{Checked}
use Rattle.eo_sig.specs.Reading.{read_rule, signature}
use Rattle.eo_term.specs.Tree.{Tree}
use Rattle.eo_stack.proofs.Unchanged.{extends_same}
use Rattle.eo_rule.specs.Answers.{GivesTerm}
use Rattle.eo_rule.specs.Reading.{read_use}
use Rattle.eo_rule.specs.Uses.{check_kind, rule_conclusion}
use Rattle.eo_rule.proofs.Steps.{term_fails}
use Rattle.eo_rule.proofs.Chains.{rule-kind, rule-rest}
use Rattle.eo_rule.proofs.using.conclude_by.Goals as goal

pub returns-in_err-check_kind-clause-gives : goal.returns-in_err-check_kind-clause-gives
returns-in_err-check_kind-clause-gives c =
    let t = c.args.table.now in
    let S = signature t.trees c.args.sig.now in
    let r = read_rule t.trees c.args.rule.now in
    let u = read_use t.trees c.args.given.now in
    term_fails t _ (rule_conclusion S r u) c.in_err-check_kind.field-0.0 (check_kind r.assumed u.assumed) c.from_residual.ensures.1 (rule-kind S r u) (c.in_err-check_kind.ensures t.trees)

pub returns-clause-gives : goal.returns-clause-gives
returns-clause-gives c =
    let t = c.args.table.now in
    let S = signature t.trees c.args.sig.now in
    let r = read_rule t.trees c.args.rule.now in
    let u = read_use t.trees c.args.given.now in
    subst (λ (o : Checked Tree). GivesTerm c.conclude_checked.new.table c.conclude_checked.result o)
    (sym (rule-rest S r u (c.in_ok-check_kind.ensures t.trees).is))
    c.conclude_checked.ensures.gives

pub returns-in_err-check_kind-clause-extends : goal.returns-in_err-check_kind-clause-extends
returns-in_err-check_kind-clause-extends c = extends_same c.requires.serves.fit
