use Rattle.std.proofs.Common.{◌≡◌, subst, take}
use Rattle.std.specs.Prelude.{map}
use Rattle.eo_term.specs.Keys.{entries_of}
use Rattle.eo_term.specs.Tree.{Con}
use Rattle.eo_term.specs.Ranges.{AreInRange}
use Rattle.eo_term.specs.Terms.{AreApart, AreLow, HaveOlderParts, first_trees}
use Rattle.eo_term.proofs.Parts.{low_trees, older_trees, range_trees}
use Rattle.eo_term.proofs.Apart.{one_place}
use Rattle.eo_term.proofs.Equality.{same_number}
use Rattle.eo_term.proofs.table.Table.laws.Goals as goal

pub returns : goal.returns
returns c =
    let apart = subst (λ v. AreApart v.trees) c.self.view_is c.self.invariant.1.apart in
    let same = one_place c.args.self.now.trees (Con 0) apart in
    record {
      apart = apart;
      same = same;
      equals = same_number c.args.self.now.trees same;
      older = subst (λ v. HaveOlderParts v.trees) c.self.view_is (older_trees (entries_of c.self.inside.nodes) (map (λ w. w.items) c.self.inside.texts.keys) c.self.invariant.1);
      low = subst (λ v. AreLow v.trees) c.self.view_is (low_trees (entries_of c.self.inside.nodes) (map (λ w. w.items) c.self.inside.texts.keys) c.self.invariant.1);
      in_range = subst (λ v. AreInRange v.trees) c.self.view_is (range_trees (entries_of c.self.inside.nodes) (map (λ w. w.items) c.self.inside.texts.keys) c.self.invariant.1);
      first = subst (λ v. take 4 v.trees ≡ first_trees) c.self.view_is c.self.invariant.1.first;
    }
