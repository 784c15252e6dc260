-- A use of a rule over a table that has grown.
use Rattle.std.proofs.Common.{◌≡◌, ℕ, length, Option, Some, None, refl, ap, arith}
use Rattle.std.specs.Prelude.{option_map}
use Rattle.eo_base.proofs.Elements.{ids_more, map_same}
use Rattle.eo_term.specs.Terms.{Terms, Since, tree_at}
use Rattle.eo_sig.specs.Reading.{SomeBelow}
use Rattle.eo_rule.specs.declared.RuleUse.{RuleUse}
use Rattle.eo_rule.specs.Reading.{UseBelow, UseStays}

some_grown : (old new : Terms) → Since old new → (o : Option ℕ) → SomeBelow (length old.trees) o → (option_map (tree_at new.trees) o ≡ option_map (tree_at old.trees) o) × SomeBelow (length new.trees) o
some_grown old new g None h = (refl, tt)
some_grown old new g (Some i) h = (ap Some (g.tree i h), omega (arith, h, g.more_trees))

-- it is what it was, and its terms are there
pub use_grown : (u : RuleUse) (old new : Terms) → UseBelow (length old.trees) u → Since old new → UseStays u old.trees new.trees
use_grown u old new h g =
    let a = some_grown old new g u.«assumption» h.assumed in
    let s = some_grown old new g u.stated h.stated in
    let p = map_same (length old.trees) (tree_at old.trees) (tree_at new.trees) g.tree u.premises h.premises in
    let x = map_same (length old.trees) (tree_at old.trees) (tree_at new.trees) g.tree u.args h.arguments in
    let a0 = a.0 in
    let s0 = s.0 in
    record {
      given = λ k. record { assumed = a0 k; premises = p k; arguments = x k; stated = s0 k };
      below = record {
        assumed = a.1;
        premises = ids_more (length old.trees) (length new.trees) g.more_trees u.premises h.premises;
        arguments = ids_more (length old.trees) (length new.trees) g.more_trees u.args h.arguments;
        stated = s.1;
      };
    }
