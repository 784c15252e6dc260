-- Counting at how many places members are parts.
use Rattle.std.specs.Prelude.{ℕ, zero, suc, nat_lt, if◌then◌else◌, List, [], ◌∷◌, flat_map}
use Rattle.eo_lists.specs.Lists.{times}
use Rattle.eo_term.specs.Tree.{Tree, tree_eq}
use Rattle.eo_term.specs.Terms.{Terms}
use Rattle.eo_show.specs.declared.parts.Form.{Form}
use Rattle.eo_show.specs.Plan.{up_to, member_trees}

-- how often a tree is among some parts, up to two
abbrev pub counted : List Tree → Tree → ℕ
counted parts u = up_to 2 (times tree_eq u parts)

abbrev pub one_more : ℕ → ℕ
one_more n = if nat_lt n 2 then suc n else n

-- one more at a place
abbrev pub counted_at : ℕ → List ℕ → List ℕ
counted_at place [] = []
counted_at zero (n ∷ ns) = one_more n ∷ ns
counted_at (suc place) (n ∷ ns) = n ∷ counted_at place ns

-- the parts of some forms
abbrev pub parts_kept : Terms → List Form → List Tree
parts_kept t forms = flat_map (λ f. member_trees t f.parts.items) forms
