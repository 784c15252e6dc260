-- The sizes of lists of s-expressions.
use Rattle.std.proofs.Common.{◌≡◌, ℕ, zero, suc, ◌+◌, ◌<◌, List, [], ◌∷◌, ◌++◌, take, drop, Some, refl, ap, ◌∙◌, arith}
use Rattle.eo_sexp.specs.Sexp.{Sexp, Atom, Listed, Sexps, NoSexp, Next, children_of, sexps_of}
use Rattle.eo_sexp.specs.Sizes.{size, size_in, size_of_all}
use Rattle.eo_sexp.specs.Pairs.{list_of}

pub sexps_of-children : (ss : Sexps) → sexps_of (children_of ss) ≡ ss
sexps_of-children NoSexp = refl
sexps_of-children (Next s ss) = ap (Next s) (sexps_of-children ss)

-- the parts of a list are smaller than the list
pub size_inside : (s : Sexp) (ss : List Sexp) → Some ss ≡ list_of s → size_of_all ss < size s
size_inside (Atom k text span) ss e = cc
size_inside (Listed inside span) ss e =
    let same : ss ≡ children_of inside = cc in
    let all : size_of_all ss ≡ size_in inside = ap size_of_all same ∙ ap size_in (sexps_of-children inside) in
    omega (arith, all)

pub size-append : (ss ts : List Sexp) → size_of_all (ss ++ ts) ≡ size_of_all ss + size_of_all ts
size-append [] ts = omega arith
size-append (s ∷ ss) ts = omega (arith, size-append ss ts)

pub size-split : (n : ℕ) (ss : List Sexp) → size_of_all (take n ss) + size_of_all (drop n ss) ≡ size_of_all ss
size-split zero ss = omega arith
size-split (suc n) [] = omega arith
size-split (suc n) (s ∷ ss) = omega (arith, size-split n ss)
