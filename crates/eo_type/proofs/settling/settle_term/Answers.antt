use Rattle.std.proofs.Common.{sym, ◌∙◌}
use Rattle.eo_term.proofs.Growing.{grows_refl}
use Rattle.eo_term.specs.Terms.{tree_at}
use Rattle.eo_type.proofs.SettleSteps.{settle_plain}
use Rattle.eo_type.proofs.settling.settle_term.Goals as goal

pub returns-then-is_plain : goal.returns-then-is_plain
returns-then-is_plain c =
    record {
      gives = record { live = c.requires; typed = settle_plain (tree_at c.args.table.now.trees c.args.id) (sym c.is_plain.ensures ∙ c.if-is_plain.true) };
      grows = grows_refl c.args.table.now;
    }
