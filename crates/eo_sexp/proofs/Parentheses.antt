-- The first byte of a wrapping, and its class.
use Rattle.std.proofs.Common.{◌≡◌, refl, ℕ, zero, suc, Bool, true, false, List, [], ◌∷◌, take, sym, ap, subst, inl, inr}
use Rattle.std.specs.Prelude.{codes, if◌then◌else◌, ◌||◌, ◌&&◌, ◌⊎◌, ◌==◌}
use Rattle.std.proofs.lemmas.Bool.{eqb-true, false_from_ne_true}
use Rattle.std.proofs.lemmas.Slice.Eq.{bytes_eq-Decides}
use Rattle.eo_base.specs.Limits.{Limits}
use Rattle.eo_sexp.specs.Sexp.{Sexp}
use Rattle.eo_sexp.specs.Lexicon.{Class, Space, Comment, Open, Close, Quote, Bar, Word, Other, class, is_one_of, is_space, is_word, Input}
use Rattle.eo_sexp.specs.Commands.{Reading, Whole, Refused, Cut, front}
use Rattle.eo_sexp.specs.Texts.{begins_one_of, is_unsat, begins_pair}

-- ---- parentheses

one_of : (y x : ℕ) → is_one_of (y ∷ []) x ≡ true → y ≡ x
one_of y x h = eqb-true y x (go (y == x) h)
  where
    go : (b : Bool) → (b || false) ≡ true → b ≡ true
    go true e = refl
    go false e = e

of_two : (y z x : ℕ) → is_one_of (y ∷ z ∷ []) x ≡ true → (y ≡ x) ⊎ (z ≡ x)
of_two y z x h = go (y == x) refl h
  where
    go : (b : Bool) → (y == x) ≡ b → (b || is_one_of (z ∷ []) x) ≡ true → (y ≡ x) ⊎ (z ≡ x)
    go true e h = inl (eqb-true y x e)
    go false e h = inr (one_of z x h)

open-40 : class 40 ≡ Open
unfolding class is_space
open-40 = refl

close-41 : class 41 ≡ Close
unfolding class is_space
close-41 = refl

pub open-class : (x : ℕ) → is_one_of (codes "(") x ≡ true → class x ≡ Open
open-class x h = subst (λ y. class y ≡ Open) (one_of 40 x h) open-40

pub close-class : (x : ℕ) → is_one_of (codes ")") x ≡ true → class x ≡ Close
close-class x h = subst (λ y. class y ≡ Close) (one_of 41 x h) close-41

pub paren-class : (x : ℕ) → is_one_of (codes "()") x ≡ true → (class x ≡ Open) ⊎ (class x ≡ Close)
paren-class x h = elim (of_two 40 41 x h) [ inl e ↦ inl (subst (λ y. class y ≡ Open) e open-40) | inr e ↦ inr (subst (λ y. class y ≡ Close) e close-41) ]

-- the tests of `class`, in order
chosen : (a b c d e f g : Bool) → Class
unfolding class
chosen a b c d e f g = if a then Space else if b then Comment else if c then Open else if d then Close else if e then Quote else if f then Bar else if g then Word else Other

chosen-open : (a b c d e f g : Bool) → chosen a b c d e f g ≡ Open → c ≡ true
unfolding chosen
chosen-open true b c d e f g h = cc
chosen-open false true c d e f g h = cc
chosen-open false false true d e f g h = refl
chosen-open false false false true e f g h = cc
chosen-open false false false false true f g h = cc
chosen-open false false false false false true g h = cc
chosen-open false false false false false false true h = cc
chosen-open false false false false false false false h = cc

chosen-close : (a b c d e f g : Bool) → chosen a b c d e f g ≡ Close → d ≡ true
unfolding chosen
chosen-close true b c d e f g h = cc
chosen-close false true c d e f g h = cc
chosen-close false false true d e f g h = cc
chosen-close false false false true e f g h = refl
chosen-close false false false false true f g h = cc
chosen-close false false false false false true g h = cc
chosen-close false false false false false false true h = cc
chosen-close false false false false false false false h = cc

pub open-byte : (x : ℕ) → class x ≡ Open → is_one_of (codes "(") x ≡ true
unfolding class chosen
open-byte x h = chosen-open (is_space x) (is_one_of (codes ";") x) (is_one_of (codes "(") x) (is_one_of (codes ")") x) (is_one_of (codes "\"") x) (is_one_of (codes "|") x) (is_word x) h

pub close-byte : (x : ℕ) → class x ≡ Close → is_one_of (codes ")") x ≡ true
unfolding class chosen
close-byte x h = chosen-close (is_space x) (is_one_of (codes ";") x) (is_one_of (codes "(") x) (is_one_of (codes ")") x) (is_one_of (codes "\"") x) (is_one_of (codes "|") x) (is_word x) h

pub paren-byte : (x : ℕ) → (class x ≡ Open) ⊎ (class x ≡ Close) → is_one_of (codes "()") x ≡ true
paren-byte x (inl o) = ap (is_one_of (codes "()")) (sym (one_of 40 x (open-byte x o)))
paren-byte x (inr o) = ap (is_one_of (codes "()")) (sym (one_of 41 x (close-byte x o)))

pub no-close : (x : ℕ) → (class x ≡ Close → ⊥) → is_one_of (codes ")") x ≡ false
no-close x f = false_from_ne_true _ (λ e. f (close-class x e))

pub no-paren : (x : ℕ) → (class x ≡ Open → ⊥) → (class x ≡ Close → ⊥) → is_one_of (codes "()") x ≡ false
no-paren x f g = false_from_ne_true _ (λ e. elim (paren-class x e) [ inl o ↦ f o | inr c ↦ g c ])

-- ---- the word `unsat`

unsat-word : class 117 ≡ Word
unfolding class is_space is_word
unsat-word = refl

first-of_unsat : (n x : ℕ) (xs : List ℕ) → take n (x ∷ xs) ≡ codes "unsat" → x ≡ 117
first-of_unsat zero x xs e = cc
first-of_unsat (suc n) x xs e = cc

pub unsat-class : (x : ℕ) (xs : List ℕ) (r : Reading Sexp) → is_unsat (x ∷ xs) r ≡ true → class x ≡ Word
unfolding is_unsat
unsat-class x xs (Whole s rest) e = subst (λ y. class y ≡ Word) (sym (first-of_unsat rest.at x xs ((bytes_eq-Decides (take rest.at (x ∷ xs)) (codes "unsat")).0 e))) unsat-word
unsat-class x xs (Refused name at) e = cc
unsat-class x xs (Cut i) e = cc

pub no-unsat : (x : ℕ) (xs : List ℕ) (r : Reading Sexp) → (class x ≡ Word → ⊥) → is_unsat (x ∷ xs) r ≡ false
no-unsat x xs r f = false_from_ne_true _ (λ e. f (unsat-class x xs r e))

none-of_unsat : (n : ℕ) → take n [] ≡ codes "unsat" → ⊥
none-of_unsat zero e = cc
none-of_unsat (suc n) e = cc

pub unsat-none : (r : Reading Sexp) → is_unsat [] r ≡ false
unfolding is_unsat
unsat-none (Whole s rest) = false_from_ne_true _ (λ e. none-of_unsat rest.at ((bytes_eq-Decides (take rest.at []) (codes "unsat")).0 e))
unsat-none (Refused name at) = refl
unsat-none (Cut i) = refl

-- ---- the outer pair

front-open : (bytes : List ℕ) → begins_one_of (codes "(") bytes ≡ true → front bytes ≡ Open
unfolding begins_one_of front
front-open [] e = cc
front-open (x ∷ xs) e = open-class x e

module _ (limits : Limits) where
  pub pair-front : (t : Input) → begins_pair limits t ≡ true → front t.bytes ≡ Open
  unfolding begins_pair
  pair-front t e = front-open t.bytes (left _ _ e)
    where
      left : (a b : Bool) → (a && b) ≡ true → a ≡ true
      left true b e = refl
      left false b e = e

  pub no-pair : (t : Input) → (front t.bytes ≡ Open → ⊥) → begins_pair limits t ≡ false
  no-pair t f = false_from_ne_true _ (λ e. f (pair-front t e))
