use Rattle.std.proofs.Common.{map, subst, arith}
use Rattle.eo_term.specs.Terms.{AreLow, tree_at}
use Rattle.eo_term.specs.Keys.{entries_of}
use Rattle.eo_term.specs.Held.{IsEntry}
use Rattle.eo_term.proofs.Heights.{arity_height}
use Rattle.eo_term.proofs.Parts.{low_trees}
use Rattle.eo_term.proofs.table.Table.info.Goals as goal

pub returns : goal.returns
returns c =
    let at = c.self.invariant.1.entries c.place.result (c.info.ensures.0, c.info.result) c.info.ensures.1 in
    let e =
    subst (λ i. IsEntry c.args.self.now.trees c.args.self.now.texts i c.info.ensures.0 c.info.result) c.place.ensures
    (subst (λ v. IsEntry v.trees v.texts c.place.result c.info.ensures.0 c.info.result) c.self.view_is at) in
    record {
      tells = e.tells;
      small = e.low;
      few = let h = arity_height (tree_at c.args.self.now.trees c.args.id) in omega (arith, h, e.tells.arity, e.tells.height, e.low);
      low = subst (λ v. AreLow v.trees) c.self.view_is (low_trees (entries_of c.self.inside.nodes) (map (λ w. w.items) c.self.inside.texts.keys) c.self.invariant.1);
    }
