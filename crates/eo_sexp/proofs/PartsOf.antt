-- The parts of a command in its bytes.
use Rattle.std.proofs.Common.{◌≡◌, refl, ℕ, zero, suc, List, [], ◌∷◌, take, drop}
use Rattle.eo_sexp.specs.Sexp.{Sexp, sexps_of}
use Rattle.eo_sexp.specs.declared.lent.Node.{Node}
use Rattle.eo_sexp.specs.declared.lent.Node.TheVariants as node
use Rattle.eo_sexp.specs.declared.buffer.Open.{Open}
use Rattle.eo_sexp.specs.Counts.{count_of}
use Rattle.eo_sexp.specs.Buffers.{AreOpen, open_lists, outside}
use Rattle.eo_sexp.specs.Nodes.{trees, first_of, AreLinked}
use Rattle.eo_sexp.specs.Parts.{IsPart, AreParts}

AllParts : List ℕ → List Sexp → Type 0
AllParts bytes [] = Unit {0}
AllParts bytes (s ∷ ss) = IsPart bytes s × AllParts bytes ss

first-parts : (bytes : List ℕ) (n : ℕ) (ss : List Sexp) → AllParts bytes ss → AreParts bytes (sexps_of (take n ss))
unfolding AllParts
first-parts bytes zero ss h = tt
first-parts bytes (suc n) [] h = tt
first-parts bytes (suc n) (s ∷ ss) h = (h.0, first-parts bytes n ss h.1)

later-parts : (bytes : List ℕ) (n : ℕ) (ss : List Sexp) → AllParts bytes ss → AllParts bytes (drop n ss)
unfolding AllParts
later-parts bytes zero ss h = h
later-parts bytes (suc n) [] h = tt
later-parts bytes (suc n) (s ∷ ss) h = later-parts bytes n ss h.1

all-parts : (bytes : List ℕ) (ns : List Node) → AreLinked bytes ns → AllParts bytes (trees bytes ns)
unfolding AllParts
all-parts bytes [] h = tt
all-parts bytes (node.Atom k delimited from to ∷ ns) h = ((delimited, h.0.1, h.0.0, refl), all-parts bytes ns h.1)
all-parts bytes (node.List children inside from to ∷ ns) h =
    let later = all-parts bytes ns h.1 in
    (first-parts bytes (count_of children) (trees bytes ns) later, later-parts bytes (count_of children) (trees bytes ns) later)

first-part : (bytes : List ℕ) (ss : List Sexp) → AllParts bytes ss → IsPart bytes (first_of ss)
unfolding AllParts
first-part bytes [] h = tt
first-part bytes (s ∷ ss) h = h.0

tree-part : (bytes : List ℕ) (ns : List Node) → AreLinked bytes ns → IsPart bytes (first_of (trees bytes ns))
tree-part bytes ns h = first-part bytes (trees bytes ns) (all-parts bytes ns h)

-- the same of a buffer with no open list
pub built-part : (bytes : List ℕ) (ns : List Node) (os : List Open) → AreOpen bytes ns os → open_lists bytes ns os ≡ [] → IsPart bytes (first_of (outside bytes ns os))
built-part bytes ns [] h e = tree-part bytes ns h
built-part bytes ns (o ∷ os) h e = cc
