-- What is inside of an s-expression is smaller, and what parts there are.
use Rattle.std.proofs.Common.{◌≡◌, ℕ, ◌<◌, List, [], ◌∷◌, Some, None, refl, sym, ap, ◌∙◌, arith}
use Rattle.std.proofs.lemmas.Option.{same_Some}
use Rattle.eo_sexp.proofs.Sizes.{sexps_of-children}
use Rattle.eo_sexp.specs.Pairs.{list_of, first_one, only_two}
use Rattle.eo_sexp.specs.Sexp.{Sexp, Atom, Listed, NoSexp, Next, sexps_of, sexp_span, children_of}
use Rattle.eo_sexp.specs.Sizes.{size}
use Rattle.eo_elab.specs.Forms.{binding_of}

-- what follows the name of a pair is smaller than the pair
pub size_beside : (s t : Sexp) (name : List ℕ) → Some (name, t) ≡ binding_of s → size t < size s
size_beside (Atom k text span) t name e = cc
size_beside (Listed NoSexp span) t name e = cc
size_beside (Listed (Next (Listed cs at) ss) span) t name e = cc
size_beside (Listed (Next (Atom k n at) NoSexp) span) t name e = cc
size_beside (Listed (Next (Atom k n at) (Next u NoSexp)) span) t name e = let s : size t ≡ size u = ap (λ (p : List ℕ × Sexp). size p.1) (same_Some (name, t) (n, u) e) in omega (arith, s)
size_beside (Listed (Next (Atom k n at) (Next u (Next v ss))) span) t name e = cc

-- ---- what is given

pub is_list : (s : Sexp) (ss : List Sexp) → Some ss ≡ list_of s → s ≡ Listed (sexps_of ss) (sexp_span s)
is_list (Atom k text span) ss e = cc
is_list (Listed inside span) ss e = sym (ap (λ xs. Listed (sexps_of xs) span) (same_Some ss (children_of inside) e) ∙ ap (λ xs. Listed xs span) (sexps_of-children inside))

pub none_given : (xs : List Sexp) → None ≡ first_one xs → xs ≡ []
none_given [] e = refl
none_given (x ∷ xs) e = cc

pub one_given : (xs : List Sexp) (a : Sexp) (rest : List Sexp) → Some (a, rest) ≡ first_one xs → xs ≡ a ∷ rest
one_given [] a rest e = cc
one_given (x ∷ xs) a rest e = sym (ap (λ (p : Sexp × List Sexp). p.0 ∷ p.1) (same_Some (a, rest) (x, xs) e))

pub two_given : (xs : List Sexp) (a b : Sexp) → Some (a, b) ≡ only_two xs → xs ≡ a ∷ b ∷ []
two_given [] a b e = cc
two_given (x ∷ []) a b e = cc
two_given (x ∷ y ∷ []) a b e = sym (ap (λ (p : Sexp × Sexp). p.0 ∷ p.1 ∷ []) (same_Some (a, b) (x, y) e))
two_given (x ∷ y ∷ z ∷ xs) a b e = cc
