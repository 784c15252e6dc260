-- A token at its first byte.
use Rattle.std.proofs.Common.{◌≡◌, refl, ℕ, suc, ◌+◌, ◌≤◌, Bool, true, false, List, [], ◌∷◌, ◌++◌, length, sym, ap, ◌∙◌, subst, arith}
use Rattle.std.specs.Prelude.{codes, if◌then◌else◌}
use Rattle.eo_base.specs.Limits.{Limits}
use Rattle.eo_sexp.specs.declared.token.Token.TheVariants as token
use Rattle.eo_sexp.specs.Lexicon.{Class, Space, Comment, Open, Close, Quote, Bar, Word, Other, class, Input, is_space, is_word, is_one_of}
use Rattle.eo_sexp.specs.declared.classes.Class.{Class as ByteClass}
use Rattle.eo_sexp.specs.declared.classes.Class.TheVariants as byte
use Rattle.eo_sexp.specs.declared.reader.Position.TheVariants as position
use Rattle.eo_sexp.specs.Commands.{atom, sexp}
use Rattle.eo_sexp.specs.Token.{class_of, IsToken, token_size}
use Rattle.eo_sexp.specs.Built.{parts_in}
use Rattle.eo_sexp.specs.Reader.{HasBytes, Progress, IsAtom, token_reading, position_reading, IsPosition, BeginsToken, Begins}
use Rattle.eo_sexp.proofs.Bounds.{class-word}
use Rattle.eo_sexp.proofs.TokenTurns.{is_one_of-one}
use Rattle.eo_sexp.proofs.TokenEnds.{word-begins, string-begins, quoted-begins}

-- the test of a class was met
class-quote : (x : ℕ) → class x ≡ Quote → 34 ≡ x
unfolding class
class-quote x e = go_space (is_space x) (is_one_of (codes ";") x) (is_one_of (codes "(") x) (is_one_of (codes ")") x) (is_one_of (codes "\"") x) refl (is_one_of (codes "|") x) (is_word x) e
  where
    go_space : (s c o d q : Bool) → is_one_of (codes "\"") x ≡ q → (b w : Bool) →
        (if s then Space else if c then Comment else if o then Open else if d then Close else if q then Quote else if b then Bar else if w then Word else Other) ≡ Quote → 34 ≡ x
    go_space false false false false true f b w e = is_one_of-one x 34 f
    go_space false false false false false f true w e = cc
    go_space false false false false false f false true e = cc
    go_space false false false false false f false false e = cc
    go_space true c o d q f b w e = cc
    go_space false true o d q f b w e = cc
    go_space false false true d q f b w e = cc
    go_space false false false true q f b w e = cc

pub quote-is : (x : ℕ) → class x ≡ Quote → x ≡ 34
quote-is x e = sym (class-quote x e)

class-bar : (x : ℕ) → class x ≡ Bar → 124 ≡ x
unfolding class
class-bar x e = go (is_space x) (is_one_of (codes ";") x) (is_one_of (codes "(") x) (is_one_of (codes ")") x) (is_one_of (codes "\"") x) (is_one_of (codes "|") x) refl (is_word x) e
  where
    go : (s c o d q b : Bool) → is_one_of (codes "|") x ≡ b → (w : Bool) →
        (if s then Space else if c then Comment else if o then Open else if d then Close else if q then Quote else if b then Bar else if w then Word else Other) ≡ Bar → 124 ≡ x
    go false false false false false true f w e = is_one_of-one x 124 f
    go false false false false false false f true e = cc
    go false false false false false false f false e = cc
    go true c o d q b f w e = cc
    go false true o d q b f w e = cc
    go false false true d q b f w e = cc
    go false false false true q b f w e = cc
    go false false false false true b f w e = cc

pub bar-is : (x : ℕ) → class x ≡ Bar → x ≡ 124
bar-is x e = sym (class-bar x e)

pub word-is : (k : ByteClass) (x : ℕ) → class_of k ≡ class x → IsAtom (class x) → (k ≡ byte.Quote → ⊥) → (k ≡ byte.Bar → ⊥) → class x ≡ Word
word-is k x e a q b = sym e ∙ go k (subst IsAtom (sym e) a) q b
  where
    go : (k : ByteClass) → IsAtom (class_of k) → (k ≡ byte.Quote → ⊥) → (k ≡ byte.Bar → ⊥) → class_of k ≡ Word
    go byte.Space a q b = absurd a
    go byte.Comment a q b = absurd a
    go byte.Open a q b = absurd a
    go byte.Close a q b = absurd a
    go byte.Quote a q b = absurd (q refl)
    go byte.Bar a q b = absurd (b refl)
    go byte.Word a q b = refl
    go byte.Other a q b = absurd a

module _ (limits : Limits) (some : 1 ≤ limits.token) where
  quote-stands : (text : List ℕ) (at : ℕ) → text ≡ [] → IsToken (token.Text false) text × (at + token_size (token.Text false) text ≡ suc at) × (token_size (token.Text false) text ≤ limits.token)
  quote-stands text at e = let n = ap length e in (subst (IsToken (token.Text false)) (sym e) string-begins, omega (arith, n), omega (arith, n, some))

  bar-stands : (text : List ℕ) (at : ℕ) → text ≡ [] → IsToken token.Quoted text × (at + token_size token.Quoted text ≡ suc at) × (token_size token.Quoted text ≤ limits.token)
  bar-stands text at e = let n = ap length e in (subst (IsToken token.Quoted) (sym e) quoted-begins, omega (arith, n), omega (arith, n, some))

  word-stands : (text : List ℕ) (at x : ℕ) → text ≡ x ∷ [] → class x ≡ Word → IsToken token.Word text × (at + token_size token.Word text ≡ suc at) × (token_size token.Word text ≤ limits.token)
  word-stands text at x e w = let n = ap length e in (subst (IsToken token.Word) (sym e) (word-begins x (class-word x w)), omega (arith, n), omega (arith, n, some))

  pub quote_begins : (old new : Progress) (at x : ℕ) → new.frames ≡ old.frames → new.done ≡ old.done → new.position ≡ position.Token (token.Text false) → new.from ≡ at → new.text ≡ [] → class x ≡ Quote → BeginsToken limits old at x new
  unfolding position_reading
  quote_begins old new at x f d p a t e = record {
    frames = f;
    done = d;
    stands = λ n. subst (λ q. IsPosition limits n q new.from new.text (suc at)) (sym p)
        (subst (λ k. IsToken (token.Text false) new.text × (k + token_size (token.Text false) new.text ≡ suc at) × (token_size (token.Text false) new.text ≤ limits.token)) (sym a) (quote-stands new.text at t));
    own = λ n few. subst (λ q. HasBytes limits n q new.from (suc at)) (sym p) (omega (arith, few, a), omega (arith, a));
    reads = λ fs more.
        ap (λ c. token_reading limits fs (atom limits c (record { at = at; bytes = x ∷ more }))) e
        ∙ ap (λ y. token_reading limits fs (atom limits Quote (record { at = at; bytes = y ∷ more }))) (quote-is x e)
        ∙ ap (λ k. token_reading limits fs (atom limits Quote (record { at = k; bytes = 34 ∷ more }))) (sym a)
        ∙ ap (λ l. token_reading limits fs (atom limits Quote (record { at = new.from; bytes = 34 ∷ (l ++ more) }))) (sym t)
        ∙ ap (λ q. position_reading limits fs q new.from new.text (suc at) more) (sym p);
  }

  pub bar_begins : (old new : Progress) (at x : ℕ) → new.frames ≡ old.frames → new.done ≡ old.done → new.position ≡ position.Token token.Quoted → new.from ≡ at → new.text ≡ [] → class x ≡ Bar → BeginsToken limits old at x new
  unfolding position_reading
  bar_begins old new at x f d p a t e = record {
    frames = f;
    done = d;
    stands = λ n. subst (λ q. IsPosition limits n q new.from new.text (suc at)) (sym p)
        (subst (λ k. IsToken token.Quoted new.text × (k + token_size token.Quoted new.text ≡ suc at) × (token_size token.Quoted new.text ≤ limits.token)) (sym a) (bar-stands new.text at t));
    own = λ n few. subst (λ q. HasBytes limits n q new.from (suc at)) (sym p) (omega (arith, few, a), omega (arith, a));
    reads = λ fs more.
        ap (λ c. token_reading limits fs (atom limits c (record { at = at; bytes = x ∷ more }))) e
        ∙ ap (λ y. token_reading limits fs (atom limits Bar (record { at = at; bytes = y ∷ more }))) (bar-is x e)
        ∙ ap (λ k. token_reading limits fs (atom limits Bar (record { at = k; bytes = 124 ∷ more }))) (sym a)
        ∙ ap (λ l. token_reading limits fs (atom limits Bar (record { at = new.from; bytes = 124 ∷ (l ++ more) }))) (sym t)
        ∙ ap (λ q. position_reading limits fs q new.from new.text (suc at) more) (sym p);
  }

  pub word_begins : (old new : Progress) (at x : ℕ) → new.frames ≡ old.frames → new.done ≡ old.done → new.position ≡ position.Token token.Word → new.from ≡ at → new.text ≡ x ∷ [] → class x ≡ Word → BeginsToken limits old at x new
  unfolding position_reading
  word_begins old new at x f d p a t e = record {
    frames = f;
    done = d;
    stands = λ n. subst (λ q. IsPosition limits n q new.from new.text (suc at)) (sym p)
        (subst (λ k. IsToken token.Word new.text × (k + token_size token.Word new.text ≡ suc at) × (token_size token.Word new.text ≤ limits.token)) (sym a) (word-stands new.text at x t e));
    own = λ n few. subst (λ q. HasBytes limits n q new.from (suc at)) (sym p) (omega (arith, few, a), omega (arith, a));
    reads = λ fs more.
        ap (λ c. token_reading limits fs (atom limits c (record { at = at; bytes = x ∷ more }))) e
        ∙ ap (λ k. token_reading limits fs (atom limits Word (record { at = k; bytes = x ∷ more }))) (sym a)
        ∙ ap (λ l. token_reading limits fs (atom limits Word (record { at = new.from; bytes = l ++ more }))) (sym t)
        ∙ ap (λ q. position_reading limits fs q new.from new.text (suc at) more) (sym p);
  }

  -- a command that is an atom
  pub atom-begins : (old new : Progress) (x : ℕ) → old.frames ≡ [] → old.done ≡ [] → IsAtom (class x) → BeginsToken limits old 0 x new → Begins limits x new
  unfolding token_reading sexp
  atom-begins old new x e d a b =
      let none : new.frames ≡ [] = b.frames ∙ e in (
        record { nested = omega (arith, ap length none); stands = b.stands (length new.frames); none = b.done ∙ d; own = b.own (parts_in new.frames) (omega (arith, ap parts_in none)) },
        λ more.
            go (class x) a (record { at = 0; bytes = x ∷ more })
            ∙ b.reads [] more
            ∙ ap (λ fs. position_reading limits fs new.position new.from new.text 1 more) (sym none),
      )
    where
      go : (c : Class) → IsAtom c → (t : Input) → sexp limits c t ≡ atom limits c t
      go Quote a t = refl
      go Bar a t = refl
      go Word a t = refl
      go c a t = absurd a

-- the classes that are left are those of atoms
pub atom-class : (k : ByteClass) (x : ℕ) → class_of k ≡ class x → (k ≡ byte.Space → ⊥) → (k ≡ byte.Comment → ⊥) → (k ≡ byte.Other → ⊥) → (k ≡ byte.Open → ⊥) → (k ≡ byte.Close → ⊥) → IsAtom (class x)
atom-class k x e s c o n d = subst IsAtom e (go k s c o n d)
  where
    go : (k : ByteClass) → (k ≡ byte.Space → ⊥) → (k ≡ byte.Comment → ⊥) → (k ≡ byte.Other → ⊥) → (k ≡ byte.Open → ⊥) → (k ≡ byte.Close → ⊥) → IsAtom (class_of k)
    go byte.Space s c o n d = absurd (s refl)
    go byte.Comment s c o n d = absurd (c refl)
    go byte.Open s c o n d = absurd (n refl)
    go byte.Close s c o n d = absurd (d refl)
    go byte.Quote s c o n d = tt
    go byte.Bar s c o n d = tt
    go byte.Word s c o n d = tt
    go byte.Other s c o n d = absurd (o refl)
