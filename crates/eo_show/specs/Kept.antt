-- The members of a value, as the passes that come after the first two read them.
use Rattle.std.specs.Prelude.{ℕ, List, [], slice_index_or, All}
use Rattle.eo_sig.specs.Signature.{Signature}
use Rattle.eo_term.specs.Terms.{Terms}
use Rattle.eo_term.specs.Tree.{Tree, Con}
use Rattle.eo_show.specs.declared.members.Members.{Members}
use Rattle.eo_show.specs.Plan.{IsLive, member_trees}
use Rattle.eo_show.specs.Walking.{HaveForms}
use Rattle.eo_show.specs.Written.{Ordered}

abbrev pub trees_of : Terms → Members → List Tree
trees_of t ms = member_trees t ms.found.keys

-- the member at a place
abbrev pub tree_of : Terms → Members → ℕ → Tree
tree_of t ms i = slice_index_or (trees_of t ms) i (Con 0)

-- they are there, each with its form, and each after its parts
pub record AreKept (S : Signature) (t : Terms) (ms : Members) : Type 0 where
  pub live : All (IsLive t) ms.found.keys
  pub forms : HaveForms S t ms.found.keys ms.forms.items
  pub ordered : Ordered S [] (member_trees t ms.found.keys)
