use Rattle.std.proofs.Common.{arith}
use Rattle.eo_session.proofs.Used.{keeps_self}
use Rattle.eo_session.proofs.store.Store.step_note.Goals as goal

pub returns-in_err-premises-clause-keeps : goal.returns-in_err-premises-clause-keeps
returns-in_err-premises-clause-keeps c = keeps_self c.args.self.now c.requires.whole

pub returns-clause-reads : goal.returns-clause-reads
returns-clause-reads c =
    let told = c.in_ok-args.ensures in
    (λ i. record {
      rule = c.rule_named-rule.ensures i;
      premises = c.in_ok-premises.ensures i;
      arguments = told.gives.read i;
      fact = told.keeps.grows.now.tree c.args.fact c.requires.live i;
    })

pub returns-clause-below : goal.returns-clause-below
returns-clause-below c =
    let told = c.in_ok-args.ensures in
    record { args = told.gives.live; fact = omega (arith, c.requires.live, told.keeps.grows.now.more_trees) }
