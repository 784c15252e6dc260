use Rattle.std.proofs.Common.{◌≡◌, sym, subst, ◌∙◌}
use Rattle.eo_names.specs.Gives.{GivesTree}
use Rattle.eo_elab.specs.Gives.{atom_told}
use Rattle.eo_elab.specs.Worlds.{meaning_in, world_in}
use Rattle.eo_elab.proofs.WalkSteps.{meaning_of_atom}
use Rattle.eo_elab.proofs.terms.elaborate_view.Goals as goal

pub returns-in-None-clause-gives : goal.returns-in-None-clause-gives
returns-in-None-clause-gives c =
    let w = world_in c.args.table.now c.args.sig.now c.args.locals.now c.args.file_kind in
    let step : meaning_in w c.args.s.now ≡ atom_told w c.kind.result c.text.result.now =
    meaning_of_atom w c.args.s.now c.in-None.ensures ∙ (λ i. atom_told w (sym c.kind.ensures i) (sym c.text.ensures i)) in
    subst (GivesTree c.elaborate_atom.new.table c.elaborate_atom.result) (sym step) c.elaborate_atom.ensures.gives
