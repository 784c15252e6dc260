-- Numbers above all parameters of trees, of patterns and of what a rule solves.
use Rattle.std.specs.Prelude.{◌≡◌, ℕ, suc, max, ◌<◌, true, ◌&&◌, List, [], ◌∷◌}
use Rattle.std.proofs.Common.{arith}
use Rattle.std.proofs.lemmas.Bool.Decides.{Decides-eqb}
use Rattle.eo_base.proofs.Tests.{both, clash, from_either}
use Rattle.eo_term.specs.Tree.{Tree, Con, Num, Bits, Str, Par, Var, App, Arr, Qar, Op, Trees, NoTree, More, occurs, occurs_in_all, occurs_in, occurs_openly}
use Rattle.eo_sig.specs.Signature.{Parameter, known}

abbrev mutual
  pub above : Tree → ℕ
  above (Con k) = 0
  above (Num z) = 0
  above (Bits w v) = 0
  above (Str s) = 0
  above (Par i) = suc i
  above (Var s t) = above t
  above (App f x) = max (above f) (above x)
  above (Arr a b) = max (above a) (above b)
  above (Qar i t b) = max (above t) (above b)
  above (Op c ts) = above_all ts

  pub above_all : Trees → ℕ
  above_all NoTree = 0
  above_all (More t ts) = max (above t) (above_all ts)

mutual
  occurs_below : (i : ℕ) (t : Tree) → occurs i t ≡ true → i < above t
  occurs_below i (Con k) o = clash o
  occurs_below i (Num z) o = clash o
  occurs_below i (Bits w v) o = clash o
  occurs_below i (Str s) o = clash o
  occurs_below i (Par j) o = let e = (Decides-eqb i j).0 o in omega (arith, e)
  occurs_below i (Var s t) o = occurs_below i t o
  occurs_below i (App f x) o = from_either (occurs i f) (occurs i x) (λ p. let l = occurs_below i f p in omega (arith, l)) (λ p. let l = occurs_below i x p in omega (arith, l)) o
  occurs_below i (Arr f x) o = from_either (occurs i f) (occurs i x) (λ p. let l = occurs_below i f p in omega (arith, l)) (λ p. let l = occurs_below i x p in omega (arith, l)) o
  occurs_below i (Qar j f x) o = from_either (occurs i f) (occurs i x) (λ p. let l = occurs_below i f p in omega (arith, l)) (λ p. let l = occurs_below i x p in omega (arith, l)) o
  occurs_below i (Op c ts) o = occurs_all_below i ts o

  occurs_all_below : (i : ℕ) (ts : Trees) → occurs_in_all i ts ≡ true → i < above_all ts
  occurs_all_below i NoTree o = clash o
  occurs_all_below i (More t ts) o = from_either (occurs i t) (occurs_in_all i ts) (λ p. let l = occurs_below i t p in omega (arith, l)) (λ p. let l = occurs_all_below i ts p in omega (arith, l)) o

openly_below : (i : ℕ) (t : Tree) → occurs_openly i t ≡ true → i < above t
openly_below i (Con k) o = clash o
openly_below i (Num z) o = clash o
openly_below i (Bits w v) o = clash o
openly_below i (Str s) o = clash o
openly_below i (Par j) o = let e = (Decides-eqb i j).0 o in omega (arith, e)
openly_below i (Var s t) o = openly_below i t o
openly_below i (App f x) o = from_either (occurs_openly i f) (occurs_openly i x) (λ p. let l = openly_below i f p in omega (arith, l)) (λ p. let l = openly_below i x p in omega (arith, l)) o
openly_below i (Arr f x) o = from_either (occurs_openly i f) (occurs_openly i x) (λ p. let l = openly_below i f p in omega (arith, l)) (λ p. let l = openly_below i x p in omega (arith, l)) o
openly_below i (Qar j f x) o = from_either (occurs_openly i f) (occurs_openly i x) (λ p. let l = openly_below i f p in omega (arith, l)) (λ p. let l = openly_below i x p in omega (arith, l)) o
openly_below i (Op c ts) o = clash o

abbrev pub above_in : List Tree → ℕ
above_in [] = 0
above_in (t ∷ ts) = max (above t) (above_in ts)

pub occurs_in_below : (i : ℕ) (ts : List Tree) → occurs_in i ts ≡ true → i < above_in ts
occurs_in_below i [] o = clash o
occurs_in_below i (t ∷ ts) o = from_either (occurs i t) (occurs_in i ts) (λ p. let l = occurs_below i t p in omega (arith, l)) (λ p. let l = occurs_in_below i ts p in omega (arith, l)) o

abbrev pub above_known : List Tree → List Parameter → ℕ
above_known patterns [] = above_in patterns
above_known patterns (p ∷ ps) = max (above p.type) (above_known patterns ps)

pub known_below : (patterns : List Tree) (i : ℕ) (ps : List Parameter) (j : ℕ) → known patterns i ps j ≡ true → j < above_known patterns ps
known_below patterns i [] j h = occurs_in_below j patterns h
known_below patterns i (p ∷ ps) j h =
    from_either (known patterns (suc i) ps j) (known patterns (suc i) ps i && occurs_openly j p.type)
    (λ q. let l = known_below patterns (suc i) ps j q in omega (arith, l)) (λ q. let l = openly_below j p.type (both q).1 in omega (arith, l)) h
