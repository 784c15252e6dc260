use Rattle.std.proofs.Common.{length, ap, subst, ◌∙◌}
use Rattle.std.specs.Prelude.{Ok}
use Rattle.eo_base.proofs.Answering.{fails}
use Rattle.eo_sig.specs.Reading.{signature}
use Rattle.eo_sig.specs.Signature.{Joined}
use Rattle.eo_term.specs.Growth.{tree_in}
use Rattle.eo_declare.specs.Declarations.{joiner}
use Rattle.eo_declare.specs.RuleParts.{premise_shape_in, MeantBelow}
use Rattle.eo_declare.proofs.CheckedLemmas.{then-ok, then-err}
use Rattle.eo_declare.proofs.rules.premise_shape.Goals as goal

pub returns-in_err-with-in-Joined : goal.returns-in_err-with-in-Joined
returns-in_err-with-in-Joined c =
    let t = c.args.table.now in
    fails _ _ _ _ _ _ _ c.from_residual.ensures.1
    (λ f e. ap (premise_shape_in t c.args.sig.now) c.in-Joined.is ∙ then-err (λ k. Ok (Joined (tree_in t c.in-Joined.pattern) k)) (joiner (signature t.trees c.args.sig.now) (tree_in t c.in-Joined.joiner)) f e)
    c.in_err-with-in-Joined.ensures

pub returns-in_ok-with-in-Joined : goal.returns-in_ok-with-in-Joined
returns-in_ok-with-in-Joined c =
    let t = c.args.table.now in
    record {
      live = (subst (MeantBelow (length t.trees)) c.in-Joined.is c.requires).0;
      is = ap (premise_shape_in t c.args.sig.now) c.in-Joined.is
          ∙ then-ok (λ k. Ok (Joined (tree_in t c.in-Joined.pattern) k)) (joiner (signature t.trees c.args.sig.now) (tree_in t c.in-Joined.joiner)) c.in_ok-with-in-Joined.with c.in_ok-with-in-Joined.ensures.is;
    }
