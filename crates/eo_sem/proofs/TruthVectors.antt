-- The truth of some formulas: `=` and `ite` are connectives between formulas alone.
use Rattle.std.specs.Prelude.{◌≡◌, ◌<◌, refl, ℕ, zero, suc, length, slice_index_or, true, false, [], ◌∷◌, ◌++◌, codes}
use Rattle.std.proofs.Common.{ap, sym, arith}
use Rattle.eo_sem.specs.Suite.{suite_signature}
use Rattle.eo_sem.specs.Building.{constant, int}
use Rattle.eo_sem.specs.Connectives.{neg, conj, impl, xor, equal, ite}
use Rattle.eo_sem.specs.Truth.{holds, AreTrue, HaveNoModel}
use Rattle.eo_sig.specs.Signature.{Signature, Plain}
use Rattle.eo_term.specs.Tree.{Tree, Con, bool_tree, truth}

-- with two formulas and two numbers
abbrev S : Signature
S = suite_signature ++ (constant (codes "p") [] bool_tree Plain ∷ constant (codes "q") [] bool_tree Plain ∷ constant (codes "m") [] int Plain ∷ constant (codes "n") [] int Plain ∷ [])

abbrev p : Tree
p = Con 23

abbrev q : Tree
q = Con 24

abbrev m : Tree
m = Con 25

abbrev n : Tree
n = Con 26

atom : holds S (p ∷ []) p ≡ true
atom = refl

other_atom : holds S (p ∷ []) q ≡ false
other_atom = refl

constants_first : holds S (truth false ∷ []) (truth false) ≡ false
constants_first = refl

negated : holds S (p ∷ neg p ∷ []) (neg p) ≡ false
negated = refl

implied : holds S [] (impl p q) ≡ true
implied = refl

exclusive : holds S (p ∷ []) (xor p q) ≡ true
exclusive = refl

-- formulas that are equally true are equal
formulas_equal : holds S [] (equal p q) ≡ true
formulas_equal = refl

-- of numbers, it is as the valuation says
numbers_equal : holds S [] (equal m n) ≡ false
numbers_equal = refl

numbers_equal_by_it : holds S (equal m n ∷ []) (equal m n) ≡ true
numbers_equal_by_it = refl

chosen : holds S (q ∷ []) (ite p (truth false) q) ≡ true
chosen = refl

numbers_chosen : holds S (equal (ite p m n) m ∷ []) (conj (equal (ite p m n) m) (neg p)) ≡ true
numbers_chosen = refl

-- a formula that is no use of a connective has a model
p_true : AreTrue S (p ∷ []) (p ∷ [])
p_true t c = by c.0 c.1 c.2
  where
    by : (k : ℕ) → k < length (p ∷ []) → slice_index_or (p ∷ []) k t ≡ t → holds S (p ∷ []) t ≡ true
    by zero lt e = ap (holds S (p ∷ [])) (sym e)
    by (suc k) lt e = absurd (omega (arith, lt))

p_has_model : HaveNoModel S (p ∷ []) → ⊥
p_has_model none = none (p ∷ []) p_true
