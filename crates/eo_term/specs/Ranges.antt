-- Trees whose numbers, bit strings and characters are within their ranges.
use Rattle.std.specs.Prelude.{ℕ, ◌<◌, ◌≤◌, ◌^◌, FitsSigned, List, length}
use Rattle.std.specs.Int.{w128}
use Rattle.eo_base.specs.Characters.{AreCharacters}
use Rattle.eo_base.specs.Limits.{bits_limit}
use Rattle.eo_term.specs.declared.node.Node.{Node}
use Rattle.eo_term.specs.declared.node.Node.TheVariants as node
use Rattle.eo_term.specs.Terms.{tree_at}
use Rattle.eo_term.specs.Tree.{Tree, Trees, Con, Num, Bits, Str, Par, Var, App, Arr, Qar, Op, NoTree, More}

-- A number is from -2^127 to 2^127 - 1, a bit string fits its width of at most 128 bits, and the characters of a text are at most 0x2ffff.
abbrev mutual
  pub IsInRange : Tree → Type 0
  IsInRange (Con k) = Unit {0}
  IsInRange (Num z) = FitsSigned w128 z
  IsInRange (Bits w v) = (w ≤ bits_limit) × (v < 2 ^ w)
  IsInRange (Str s) = AreCharacters s
  IsInRange (Par i) = Unit {0}
  IsInRange (Var s t) = AreCharacters s × IsInRange t
  IsInRange (App f x) = IsInRange f × IsInRange x
  IsInRange (Arr a b) = IsInRange a × IsInRange b
  IsInRange (Qar i t b) = IsInRange t × IsInRange b
  IsInRange (Op c ts) = AllInRange ts

  pub AllInRange : Trees → Type 0
  AllInRange NoTree = Unit {0}
  AllInRange (More t ts) = IsInRange t × AllInRange ts

-- each of the trees is
abbrev pub AreInRange : List Tree → Type 0
AreInRange ts = (i : ℕ) → i < length ts → IsInRange (tree_at ts i)

-- the number at the root is
abbrev pub HasRange : Node → Type 0
HasRange (node.Con k) = Unit {0}
HasRange (node.Num z) = FitsSigned w128 z
HasRange (node.Bits w v) = Unit {0}
HasRange (node.Str s) = Unit {0}
HasRange (node.Par i) = Unit {0}
HasRange (node.Var s t) = Unit {0}
HasRange (node.App f x) = Unit {0}
HasRange (node.Arr a b) = Unit {0}
HasRange (node.Qar i t b) = Unit {0}
HasRange (node.Op c n) = Unit {0}
