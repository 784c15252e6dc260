use Rattle.std.proofs.Common.{sym, ap, ◌∙◌, subst}
use Rattle.eo_base.specs.Checks.{Checked}
use Rattle.eo_sig.specs.Reading.{read_rule, signature}
use Rattle.eo_sig.specs.Usable.{IsUsable}
use Rattle.eo_term.specs.Tree.{Tree, is_tall}
use Rattle.eo_pattern.specs.Matching.{put}
use Rattle.eo_pattern.specs.Slots.{held}
use Rattle.eo_stack.specs.Evaluation.{eval0}
use Rattle.eo_type.proofs.Keeping.{fits_same}
use Rattle.eo_eval.specs.Faults.{value_or_fault}
use Rattle.eo_type.proofs.Fitting.{grows_under_on}
use Rattle.eo_rule.specs.Answers.{of_term, GivesTerm}
use Rattle.eo_rule.specs.Instance.{guarded_conclusion}
use Rattle.eo_rule.specs.Uses.{conclude_value}
use Rattle.eo_rule.proofs.Steps.{term_fails, itself}
use Rattle.eo_rule.proofs.Chains.{conclude-low, conclude-refused}
use Rattle.eo_rule.proofs.concluding.conclude_value.Goals as goal

pub returns-in_err-id-clause-gives : goal.returns-in_err-id-clause-gives
returns-in_err-id-clause-gives c =
    let ts = c.args.table.now.trees in
    let S = signature ts c.args.sig.now in
    let u = put (held ts c.args.subst.now) (guarded_conclusion (read_rule ts c.args.rule.now)) in
    let x = c.in_err-id.field-0.0 in
    term_fails c.put_conclusion.new.table _ (conclude_value S u) (of_term x) (conclude_value S u) c.from_residual.ensures.1 (itself _) (conclude-refused S u x c.in_err-id.ensures.gives)

pub returns-clause-gives : goal.returns-clause-gives
returns-clause-gives c =
    let t = c.args.table.now in
    let S = signature t.trees c.args.sig.now in
    let u = put (held t.trees c.args.subst.now) (guarded_conclusion (read_rule t.trees c.args.rule.now)) in
    let mid = c.put_conclusion.new.table in
    let e = c.in_ok-id.ensures in
    let tree = e.gives.tree in
    let same = (c.laws.ensures t mid c.requires.serves.fit.below e.grows).stays.signature in
    let low = ap is_tall (sym tree) ∙ c.laws-3.ensures.low c.in_ok-id.id e.gives.live in
    subst (λ (o : Checked Tree). GivesTerm c.value_of.new.table c.value_of.result o)
    ((λ k. value_or_fault (eval0 (same k) (tree k))) ∙ sym (conclude-low S u low))
    c.value_of.ensures.gives

pub value_of-requires : goal.value_of-requires
value_of-requires c =
    let k = c.args.sig.now in
    let t = c.args.table.now in
    let mid = c.put_conclusion.new.table in
    let e = c.in_ok-id.ensures in
    let h = c.requires.serves in
    record {
      live = e.gives.live;
      serves = record {
        usable = subst IsUsable (sym (c.laws.ensures t mid h.fit.below e.grows).stays.signature) h.usable;
        fit = c.laws-2.ensures.grown k t mid e.grows.now h.fit;
      };
    }

pub returns-in_err-id-clause-extends : goal.returns-in_err-id-clause-extends
returns-in_err-id-clause-extends c =
    record {
      fits = fits_same (c.laws-2.ensures.grown c.args.sig.now c.args.table.now c.put_conclusion.new.table c.in_err-id.ensures.grows.now c.requires.serves.fit);
      grows = c.laws.ensures c.args.table.now c.put_conclusion.new.table c.requires.serves.fit.below c.in_err-id.ensures.grows;
    }

pub returns-clause-extends : goal.returns-clause-extends
returns-clause-extends c =
    let t = c.args.table.now in
    let mid = c.put_conclusion.new.table in
    record {
      fits = c.value_of.ensures.extends.fits;
      grows = grows_under_on c.args.sig.now t mid c.value_of.new.table (c.laws.ensures t mid c.requires.serves.fit.below c.in_ok-id.ensures.grows) c.value_of.ensures.extends.grows;
    }
