use Rattle.std.proofs.Common.{ap, ◌∙◌, sym, subst}
use Rattle.eo_term.proofs.Growing.{grows_on}
use Rattle.eo_type.specs.Outcomes.{Gives}
use Rattle.eo_type.specs.Types.{settle}
use Rattle.eo_type.proofs.SettleSteps.{settled_settle}
use Rattle.eo_type.proofs.application.settle_under.Goals as goal

pub returns : goal.returns
returns c =
    let made = c.in_ok-made.ensures.made in
    record {
      gives = subst (Gives c.settle_term.new.table c.settle_term.result) (ap settle made.tree ∙ sym (settled_settle _ made.low)) c.settle_term.ensures.gives;
      grows = grows_on c.args.table.now c.substitute.new.table c.settle_term.new.table c.in_ok-made.ensures.grows c.settle_term.ensures.grows;
    }
