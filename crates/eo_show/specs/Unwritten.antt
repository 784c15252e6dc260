-- What is left to write of a member, while lists are begun.
use Rattle.std.specs.Prelude.{◌≡◌, ℕ, zero, suc, ◌<◌, List, [], ◌∷◌, ◌++◌, map, drop, length, slice_index_or, position, Option, Some, None, option_and_then, codes, All}
use Rattle.eo_sexp.specs.Sexp.{Sexp, sexps_of}
use Rattle.eo_sexp.specs.Printing.{printed_atom, printed_others}
use Rattle.eo_sig.specs.Signature.{Signature}
use Rattle.eo_term.specs.Tree.{Tree, Con, tree_eq}
use Rattle.eo_show.specs.declared.writing.Open.{Open}
use Rattle.eo_show.specs.Forms.{Form, Leaf, Folded, Plainly, Function, Variable, form}
use Rattle.eo_show.specs.Lines.{line_name, name_or, written}
use Rattle.eo_show.specs.Members.{parts_of}
use Rattle.eo_show.specs.Plan.{shape_of}
use Rattle.eo_show.specs.Sizes.{head}
use Rattle.eo_show.specs.Walking.{IsLower}

-- ---- names

abbrev pub numbered_name : ℕ → Option (List ℕ)
numbered_name zero = None
numbered_name (suc k) = Some (line_name (suc k))

-- each tree has the name of the number at its first place
abbrev pub AreNamedAt : List Tree → List ℕ → (Tree → Option (List ℕ)) → Type 0
AreNamedAt all numbers named = (u : Tree) (i : ℕ) → position (tree_eq u) all ≡ Some i → named u ≡ numbered_name (slice_index_or numbers i 0)

abbrev pub by_number : List Tree → List ℕ → Tree → Option (List ℕ)
by_number all numbers u = option_and_then (λ i. numbered_name (slice_index_or numbers i 0)) (position (tree_eq u) all)

-- ---- a member that is begun

module _ (S : Signature) where
  -- the whole of an atom, or what comes before the parts of a list
  abbrev pub front : Form → List ℕ
  front (Leaf k text) = printed_atom k text
  front (Folded c args) = codes "(" ++ head S (shape_of (Folded c args))
  front (Plainly h args) = codes "(" ++ head S (shape_of (Plainly h args))
  front (Function a b) = codes "(" ++ head S (shape_of (Function a b))
  front (Variable s t) = codes "(" ++ head S (shape_of (Variable s t))

  -- the list that it begins; none for an atom
  abbrev pub begun : {A : Type 0} → Form → A → List A
  begun (Leaf k text) x = []
  begun (Folded c args) x = x ∷ []
  begun (Plainly h args) x = x ∷ []
  begun (Function a b) x = x ∷ []
  begun (Variable s t) x = x ∷ []

  -- A part by the number of its line, 0 if it has none: what is written at once, and the list that it begins.
  abbrev pub part_front : ℕ → Tree → List ℕ
  part_front zero u = front (form S u)
  part_front (suc k) u = line_name (suc k)

  abbrev pub part_begun : {A : Type 0} → ℕ → Tree → A → List A
  part_begun zero u x = begun (form S u) x
  part_begun (suc k) u x = []

  -- ---- what is left

  module _ (named : Tree → Option (List ℕ)) where
    abbrev pub written_part : ℕ → Tree → Sexp
    written_part deeper p = name_or (named p) (written S deeper named p)

    -- the other parts of a list, and its end
    abbrev pub others : ℕ → List Tree → List ℕ
    others deeper us = printed_others (sexps_of (map (written_part deeper) us)) ++ codes ")"

    -- What is left of lists in one another, the innermost last. The number bounds how deep their parts lie.
    abbrev pub unwritten : ℕ → List (List Tree) → List ℕ
    unwritten deeper [] = []
    unwritten zero (us ∷ lists) = []
    unwritten (suc deeper) (us ∷ lists) = unwritten deeper lists ++ others deeper us

-- at most so many lists, and the parts of each are lower than it allows
abbrev pub AreLow : ℕ → List (List Tree) → Type 0
AreLow deeper [] = Unit {0}
AreLow zero (us ∷ lists) = ⊥
AreLow (suc deeper) (us ∷ lists) = All (IsLower (suc deeper)) us × AreLow deeper lists

-- ---- as it is kept

module _ (S : Signature) (all : List Tree) where
  -- the parts of a list that are not written yet
  abbrev pub left : Open → List Tree
  left o = drop o.next (parts_of S (slice_index_or all o.place (Con 0)))

  -- A step of writing: what is written and what is left stay the same together, and more of it is written.
  pub record IsStep (numbers : List ℕ) (old_out new_out : List ℕ) (old new : List Open) : Type 0 where
    pub within : All (λ o. o.place < length all) old → All (λ o. o.place < length all) new
    pub low : (deeper : ℕ) → AreLow deeper (map left old) → AreLow deeper (map left new)
    pub longer : length old_out < length new_out
    pub same : (named : Tree → Option (List ℕ)) (deeper : ℕ) → AreNamedAt all numbers named → AreLow deeper (map left old) →
        new_out ++ unwritten S named deeper (map left new) ≡ old_out ++ unwritten S named deeper (map left old)
