use Rattle.std.proofs.Common.{length, subst}
use Rattle.eo_names.specs.Folding.{applied}
use Rattle.eo_term.specs.Builds.{Builds}
use Rattle.eo_names.proofs.JoinLemmas.{map_grown}
use Rattle.eo_names.proofs.fold.apply_constant.Goals as goal

pub returns-clause-gives : goal.returns-clause-gives
returns-clause-gives c =
    let ts = c.args.table.now.trees in
    let us = map_grown (length ts) ts c.constant.new.self.trees c.constant.ensures.grows.now.tree c.args.args.now c.requires.args in
    subst (Builds c.apply_to_all.new.table c.apply_to_all.result) (λ k. applied (c.in_ok-f.ensures.makes.tree k) (us k)) c.apply_to_all.ensures.gives
