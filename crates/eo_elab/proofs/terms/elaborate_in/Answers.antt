use Rattle.std.proofs.Common.{length, sym, subst}
use Rattle.eo_sig.specs.Reading.{Kept}
use Rattle.eo_names.specs.Gives.{GivesTree}
use Rattle.eo_names.specs.Ready.{IsReady, Keeps}
use Rattle.eo_elab.specs.Worlds.{meaning_in, world_in}
use Rattle.eo_elab.proofs.terms.elaborate_in.Goals as goal

pub elaborate_view-requires : goal.elaborate_view-requires
elaborate_view-requires c = record { ready = subst (λ (k : Kept). IsReady (length c.args.table.now.trees) k c.args.locals.now) (sym c.of-view.ensures) c.requires.ready }

pub returns-clause-gives : goal.returns-clause-gives
returns-clause-gives c =
    subst (λ (k : Kept). GivesTree c.elaborate_view.new.table c.elaborate_view.result (meaning_in (world_in c.args.table.now k c.args.locals.now c.args.file_kind) c.args.s.now)) c.of-view.ensures c.elaborate_view.ensures.gives

pub returns-clause-keeps : goal.returns-clause-keeps
returns-clause-keeps c = subst (λ (k : Kept). Keeps k c.args.locals.now c.args.table.now.trees c.elaborate_view.new.table.trees) c.of-view.ensures c.elaborate_view.ensures.keeps
