-- Each table of bytes is held against the definition at each of the 256 bytes, by computing.
use Rattle.std.proofs.Common.{◌≡◌, ◌≢◌, ◌≤◌, ℕ, ◌<◌, Bool, true, false, not, nat_eq, get_or, List, length, refl, sym, ap, ◌∙◌, arith, inl, inr}
use Rattle.std.proofs.lemmas.Bool.{cases_lt, eqb-true}
use Rattle.std.proofs.lemmas.List.{get_or_past}
use Rattle.eo_sexp.specs.Lexicon.{Class, Word, class, is_space, is_text, is_quotable, is_word, is_line_end}
use Rattle.eo_sexp.specs.declared.token.Token.TheVariants as token
use Rattle.eo_sexp.specs.declared.classes.TheConstants.{WORD}
use Rattle.eo_sexp.specs.declared.plain.TheConstants.{TEXT, QUOTED, COMMENT}
use Rattle.eo_sexp.specs.Token.{is_plain}
use Rattle.eo_sexp.proofs.ByteTests.{agree_below, agree_at}

from_table : (table : List ℕ) (plain : ℕ → Bool) → length table ≡ 256 → agree_below (λ k. nat_eq (get_or table k 0) 49) plain 256 ≡ true → (b : ℕ) → get_or table b 0 ≡ 49 → plain b ≡ true
from_table table plain long h b e = elim (cases_lt b 256) [ inl below ↦ sym (agree_at _ _ 256 h b below) ∙ ap (λ n. nat_eq n 49) e | inr beyond ↦ absurd (none beyond) ]
  where
    none : 256 ≤ b → ⊥
    none beyond = let out = get_or_past table b 0 (omega (arith, long)) in cc

off_table : (table : List ℕ) (plain : ℕ → Bool) → agree_below (λ k. nat_eq (get_or table k 0) 49) plain 256 ≡ true → (b : ℕ) → b < 256 → get_or table b 0 ≢ 49 → plain b ≡ false
off_table table plain h b below e = sym (agree_at _ _ 256 h b below) ∙ off (nat_eq (get_or table b 0) 49) (λ f. e (eqb-true (get_or table b 0) 49 f))
  where
    off : (c : Bool) → (c ≡ true → ⊥) → c ≡ false
    off true f = absurd (f refl)
    off false f = refl

pub word-is : (x : ℕ) → x < 256 → nat_eq (get_or WORD x 0) 49 ≡ is_word x
unfolding agree_below is_word
word-is x h = agree_at (λ k. nat_eq (get_or WORD k 0) 49) is_word 256 refl x h

pub word-plain : (x : ℕ) → get_or WORD x 0 ≡ 49 → is_plain token.Word x ≡ true
unfolding agree_below is_plain is_word
word-plain x e = from_table WORD (is_plain token.Word) refl refl x e

pub text-plain : (x : ℕ) → get_or TEXT x 0 ≡ 49 → is_plain (token.Text false) x ≡ true
unfolding agree_below is_plain is_text is_space
text-plain x e = from_table TEXT (is_plain (token.Text false)) refl refl x e

pub quoted-plain : (x : ℕ) → get_or QUOTED x 0 ≡ 49 → is_plain token.Quoted x ≡ true
unfolding agree_below is_plain is_quotable is_text is_space
quoted-plain x e = from_table QUOTED (is_plain token.Quoted) refl refl x e

pub comment-inside : (x : ℕ) → get_or COMMENT x 0 ≡ 49 → is_line_end x ≡ false
unfolding agree_below is_line_end
comment-inside x e = off (is_line_end x) (from_table COMMENT (λ y. not (is_line_end y)) refl refl x e)
  where
    off : (b : Bool) → not b ≡ true → b ≡ false
    off true h = cc
    off false h = refl

is_word_class : Class → Bool
is_word_class Word = true
is_word_class c = false

word-class_table : (x : ℕ) → get_or WORD x 0 ≡ 49 → is_word_class (class x) ≡ true
unfolding agree_below class is_word is_space is_word_class
word-class_table x e = from_table WORD (λ y. is_word_class (class y)) refl refl x e

pub word-class : (x : ℕ) → x < 256 → is_word x ≡ true → class x ≡ Word
unfolding is_word_class
word-class x h e = go (class x) (word-class_table x (eqb-true (get_or WORD x 0) 49 (word-is x h ∙ e)))
  where
    go : (c : Class) → is_word_class c ≡ true → c ≡ Word
    go Word f = refl
    go c f = cc

pub word-stops : (x : ℕ) → x < 256 → get_or WORD x 0 ≢ 49 → is_plain token.Word x ≡ false
unfolding agree_below is_plain is_word
word-stops x h e = off_table WORD (is_plain token.Word) refl x h e

pub text-stops : (x : ℕ) → x < 256 → get_or TEXT x 0 ≢ 49 → is_plain (token.Text false) x ≡ false
unfolding agree_below is_plain is_text is_space
text-stops x h e = off_table TEXT (is_plain (token.Text false)) refl x h e

pub quoted-stops : (x : ℕ) → x < 256 → get_or QUOTED x 0 ≢ 49 → is_plain token.Quoted x ≡ false
unfolding agree_below is_plain is_quotable is_text is_space
quoted-stops x h e = off_table QUOTED (is_plain token.Quoted) refl x h e

pub closed-stops : (x : ℕ) → is_plain (token.Text true) x ≡ false
unfolding is_plain
closed-stops x = refl
