use Rattle.std.proofs.Common.{sym, ap, ◌∙◌}
use Rattle.eo_term.specs.Terms.{tree_at}
use Rattle.eo_names.specs.Folding.{last_onto}
use Rattle.eo_names.proofs.fold.last_of_list.Goals as goal

pub returns-then-is_list-clause-gives : goal.returns-then-is_list-clause-gives
returns-then-is_list-clause-gives c =
    let ts = c.args.table.now.trees in
    record {
      live = c.requires.a;
      tree = sym (ap (λ b. last_onto b (tree_at ts c.args.f) (tree_at ts c.args.a) (tree_at ts c.args.nil)) (sym c.is_list.ensures ∙ c.if-is_list.true));
    }
