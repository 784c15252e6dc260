-- What a buffer of a command that is begun represents.
use Rattle.std.specs.Prelude.{◌≡◌, ℕ, ◌+◌, ◌^◌, ◌<◌, ◌≤◌, List, [], ◌∷◌, length, take, drop}
use Rattle.eo_sexp.specs.Sexp.{Sexp}
use Rattle.eo_sexp.specs.declared.lent.Node.{Node}
use Rattle.eo_sexp.specs.declared.buffer.Open.{Open}
use Rattle.eo_sexp.specs.Nodes.{trees, AreLinked}
use Rattle.eo_sexp.specs.Built.{OpenList, Built}

-- the open lists, the innermost first
abbrev pub open_lists : List ℕ → List Node → List Open → List OpenList
open_lists bytes ns [] = []
open_lists bytes ns (o ∷ os) = record { at = o.at; children = trees bytes (drop (o.node + 1) ns) } ∷ open_lists bytes (take o.node ns) os

-- what is outside of them
abbrev pub outside : List ℕ → List Node → List Open → List Sexp
outside bytes ns [] = trees bytes ns
outside bytes ns (o ∷ os) = outside bytes (take o.node ns) os

abbrev pub built : List ℕ → List Node → List Open → Built
built bytes ns os = record { bytes = bytes; open_lists = open_lists bytes ns os; done = outside bytes ns os }

-- the node of an open list, and its children after it
pub record IsOpen (bytes : List ℕ) (ns : List Node) (o : Open) : Type 0 where
  pub within : o.node < length ns
  pub linked : AreLinked bytes (drop (o.node + 1) ns)
  pub many : o.children ≡ length (trees bytes (drop (o.node + 1) ns))

-- these are open, the innermost first
abbrev pub AreOpen : List ℕ → List Node → List Open → Type 0
AreOpen bytes ns [] = AreLinked bytes ns
AreOpen bytes ns (o ∷ os) = IsOpen bytes ns o × AreOpen bytes (take o.node ns) os

-- the innermost list has a child more
abbrev pub counted : List Open → List Open
counted [] = []
counted (o ∷ os) = record o { children = o.children + 1 } ∷ os

-- There is room for the one node of a command that is an atom. Each node begins at a byte of its own, the last one maybe at the next byte.
-- A place among them is a number of 32 bits.
pub record IsBuffer (bytes : List ℕ) (ns : List Node) (capacity : ℕ) (os : List Open) : Type 0 where
  pub open_lists : AreOpen bytes ns os
  pub room : 0 < capacity
  pub few : length ns ≤ length bytes + 1
  pub short : length ns < 2 ^ 32
