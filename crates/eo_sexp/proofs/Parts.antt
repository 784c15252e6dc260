-- The parts of the s-expressions that nodes represent.
use Rattle.std.proofs.Common.{◌≡◌, refl, ℕ, zero, suc, ◌<◌, List, [], ◌∷◌, drop, length, ap, arith}
use Rattle.eo_sexp.specs.Sexp.{Sexp, children_of}
use Rattle.eo_sexp.specs.Sexp.{sexps_of}
use Rattle.eo_sexp.specs.declared.lent.Node.{Node}
use Rattle.eo_sexp.specs.Nodes.{trees, AreLinked}

pub children_of_sexps : (ss : List Sexp) → children_of (sexps_of ss) ≡ ss
children_of_sexps [] = refl
children_of_sexps (s ∷ ss) = ap (λ others. s ∷ others) (children_of_sexps ss)

-- what is after some nodes is linked too
pub linked_behind : (bytes : List ℕ) (ns : List Node) (k : ℕ) → AreLinked bytes ns → AreLinked bytes (drop k ns)
linked_behind bytes ns zero h = h
linked_behind bytes [] (suc k) h = h
linked_behind bytes (n ∷ ns) (suc k) h = linked_behind bytes ns k h.1

-- where there is an s-expression, there is a node
pub some_node : (bytes : List ℕ) (ns : List Node) → 0 < length (trees bytes ns) → 0 < length ns
some_node bytes [] h = absurd (omega (arith, h))
some_node bytes (n ∷ ns) h = omega arith
