-- How many nodes a tree has.
use Rattle.std.specs.Prelude.{ℕ, ◌+◌}
use Rattle.eo_term.specs.Tree.{Tree, Con, Num, Bits, Str, Par, Var, App, Arr, Qar, Op, Trees, NoTree, More}

abbrev mutual
  pub size : Tree → ℕ
  size (Con k) = 1
  size (Num z) = 1
  size (Bits w v) = 1
  size (Str s) = 1
  size (Par i) = 1
  size (Var s t) = 1 + size t
  size (App f x) = 1 + (size f + size x)
  size (Arr a b) = 1 + (size a + size b)
  size (Qar i t b) = 1 + (size t + size b)
  size (Op c ts) = 1 + size_all ts

  -- one more for each place, and for the end
  pub size_all : Trees → ℕ
  size_all NoTree = 1
  size_all (More t ts) = 1 + (size t + size_all ts)
