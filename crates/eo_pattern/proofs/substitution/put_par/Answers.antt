use Rattle.std.proofs.Common.{sym, ap, ◌∙◌}
use Rattle.std.specs.Option.{option_map}
use Rattle.eo_term.specs.Terms.{tree_at}
use Rattle.eo_pattern.specs.Matching.{value_or_par, put}
use Rattle.eo_pattern.specs.Slots.{held}
use Rattle.eo_pattern.proofs.substitution.put_par.Goals as goal

pub returns-in-Some-clause-tree : goal.returns-in-Some-clause-tree
returns-in-Some-clause-tree c =
    let ts = c.args.table.now.trees in
    sym (ap (put (held ts c.args.subst.now)) c.requires.tree ∙ ap (value_or_par c.args.i) (ap (option_map (tree_at ts)) (sym c.get.ensures.value ∙ c.in-Some.is)))
