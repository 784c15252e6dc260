use Rattle.std.proofs.Common.{map, sym, ◌∙◌}
use Rattle.std.specs.Prelude.{Ok}
use Rattle.eo_base.proofs.Answering.{fails}
use Rattle.eo_shape.specs.Reading.{read_rule}
use Rattle.eo_sig.specs.Reading.{read_parameter, read_premises}
use Rattle.eo_declare.specs.RuleParts.{premise_shape_in, read_parts}
use Rattle.eo_declare.proofs.CheckedLemmas.{then-ok, then-err}
use Rattle.eo_declare.proofs.RuleLemmas.{rule_with_shape}
use Rattle.eo_declare.proofs.rules.rule_of_parts.Goals as goal

pub returns-in_err-premises-clause-gives : goal.returns-in_err-premises-clause-gives
returns-in_err-premises-clause-gives c =
    let t = c.args.table.now in
    let put = rule_with_shape (map (read_parameter t.trees) c.args.params) (read_rule c.args.shape.now) (read_parts t.trees c.args.parts) in
    fails _ _ _ _ _ _ _ c.from_residual.ensures.1 (λ f e. then-err put (premise_shape_in t c.args.sig.now c.args.parts.premises) f e) c.in_err-premises.ensures

pub returns-clause-gives : goal.returns-clause-gives
returns-clause-gives c =
    let t = c.args.table.now in
    let s = read_rule c.args.shape.now in
    let r = read_parts t.trees c.args.parts in
    let params = map (read_parameter t.trees) c.args.params in
    let shape = read_premises t.trees c.in_ok-premises.premises in
    record {
      live = record {
        params = c.requires.params;
        assumed = c.requires.parts.assumed;
        premises = c.in_ok-premises.ensures.live;
        args = c.requires.parts.args;
        requirements = c.requires.parts.requirements;
        conclusion = c.requires.parts.conclusion;
      };
      is = then-ok (rule_with_shape params s r) (premise_shape_in t c.args.sig.now c.args.parts.premises) shape c.in_ok-premises.ensures.is
          ∙ (λ i. Ok (record { name = sym c.in_ok-new.ensures i; parameters = params; assumed = r.assumed; premises = shape; arguments = r.arguments; requirements = r.requirements; conclusion = r.conclusion; sorry = s.sorry }));
    }
