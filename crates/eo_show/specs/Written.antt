-- What holds of the members and of the lines of each value that is shown.
use Rattle.std.specs.Prelude.{◌≡◌, ℕ, ◌≤◌, true, false, bytes_eq, List, [], ◌∷◌, ◌++◌, All, Contains}
use Rattle.eo_sig.specs.Signature.{Signature, Macro, is_free}
use Rattle.eo_term.specs.Ranges.{IsInRange}
use Rattle.eo_term.specs.Tree.{Tree, height, is_value}
use Rattle.eo_show.specs.Members.{parts_of, members}
use Rattle.eo_show.specs.Lines.{Line}

module _ (S : Signature) where
  -- what may come after some members: a value that is none of them, whose parts are among them
  pub record IsNext (ms : List Tree) (m : Tree) : Type 0 where
    pub value : is_value m ≡ true
    pub new : Contains ms m → ⊥
    pub parts_before : All (Contains ms) (parts_of S m)

  -- more members, after those in front
  abbrev pub Ordered : (front back : List Tree) → Type 0
  Ordered front [] = Unit {0}
  Ordered front (m ∷ back) = IsNext front m × Ordered (front ++ m ∷ []) back

  -- The members of a value: each once, after its parts, and the value itself is the last. None is taller than it.
  pub record AreMembers (t : Tree) : Type 0 where
    pub ordered : Ordered [] (members S t)
    pub front : List Tree
    pub last : members S t ≡ front ++ t ∷ []
    pub low : (m : Tree) → Contains (members S t) m → height m ≤ height t
    pub in_range : IsInRange t → All IsInRange (members S t)

-- lines of other names
abbrev pub AreOther : List ℕ → List Line → Type 0
AreOther name [] = Unit {0}
AreOther name (l ∷ ls) = (bytes_eq name l.name ≡ false) × AreOther name ls

-- each line has a name that is free, and no two have the same
abbrev pub HaveNewNames : Signature → List Macro → List Line → Type 0
HaveNewNames S macros [] = Unit {0}
HaveNewNames S macros (l ∷ ls) = (is_free S macros l.name ≡ true) × AreOther l.name ls × HaveNewNames S macros ls
