-- How large an s-expression is: how many lists and atoms it has.
use Rattle.std.specs.Prelude.{ℕ, ◌+◌, List}
use Rattle.eo_sexp.specs.Sexp.{Sexp, Atom, Listed, Sexps, NoSexp, Next, sexps_of}

abbrev mutual
  pub size : Sexp → ℕ
  size (Atom k text span) = 1
  size (Listed ss span) = 1 + size_in ss

  pub size_in : Sexps → ℕ
  size_in NoSexp = 0
  size_in (Next s ss) = size s + size_in ss

abbrev pub size_of_all : List Sexp → ℕ
size_of_all ss = size_in (sexps_of ss)
