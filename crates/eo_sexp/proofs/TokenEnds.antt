-- A token at its first byte, and where the bytes end.
use Rattle.std.proofs.Common.{◌≡◌, refl, ℕ, suc, ◌+◌, ◌-◌, ◌≤◌, Bool, true, false, List, [], ◌∷◌, ◌++◌, length, take, sym, ap, ◌∙◌, append-nil, arith}
use Rattle.std.specs.Prelude.{cond, take_while, codes, Some, None}
use Rattle.std.specs.List.{prefix_len}
use Rattle.std.proofs.lemmas.List.{drop_all, take_all}
use Rattle.eo_base.specs.declared.FaultName.TheVariants.{TokenLong}
use Rattle.eo_base.specs.Limits.{Limits}
use Rattle.eo_sexp.specs.AtomKind as kind
use Rattle.eo_sexp.specs.declared.token.Token.{Token}
use Rattle.eo_sexp.specs.declared.token.Token.TheVariants as token
use Rattle.eo_sexp.specs.Sexp.{Atom}
use Rattle.eo_sexp.specs.Lexicon.{Word, Input, string, bar_at, is_quotable, is_word, kind_of}
use Rattle.eo_sexp.specs.Commands.{Cut, at_most, span, delimited_atom, delimited, word_before, atom}
use Rattle.eo_sexp.specs.Token.{token_class, opening, IsToken, token_size, token_end}
use Rattle.eo_sexp.proofs.TokenTurns.{at_most-cut, word-of, quoted-of}

pub word-begins : (x : ℕ) → is_word x ≡ true → IsToken token.Word (x ∷ [])
unfolding IsToken
word-begins x e more = ap (λ b. cond b (1 + prefix_len is_word more) 0) e ∙ omega arith

pub string-begins : IsToken (token.Text false) []
unfolding IsToken
string-begins more = refl

pub quoted-begins : IsToken token.Quoted []
unfolding IsToken
quoted-begins more = omega arith

run-all : (p : ℕ → Bool) (text : List ℕ) → ((ys : List ℕ) → prefix_len p (text ++ ys) ≡ length text + prefix_len p ys) → take_while p text ≡ text
run-all p text h =
    let n : prefix_len p text ≡ length text = ap (prefix_len p) (sym (append-nil text)) ∙ h [] ∙ omega arith in
    ap (λ k. take k text) n ∙ take_all (length text) text (omega arith)

module _ (limits : Limits) where
  word-cut : (text : List ℕ) (from : ℕ) → IsToken token.Word text → token_size token.Word text ≤ limits.token →
      atom limits Word (record { at = from; bytes = text }) ≡ Cut (token_end token.Word text from)
  unfolding IsToken atom word_before span
  word-cut text from h fits =
      let t : Input = record { at = from; bytes = text } in
      ap (at_most TokenLong limits.token t) (word-of t text [] (run-all is_word text h) (drop_all (length text) text (omega arith)))
      ∙ at_most-cut TokenLong limits.token t _ (omega arith)
      ∙ ap (λ n. Cut (Some (Atom (kind_of text) text (record { from = from; to = from + n })))) (omega arith)

  string-cut : (closed : Bool) (text : List ℕ) (from : ℕ) → IsToken (token.Text closed) text → token_size (token.Text closed) text ≤ limits.token →
      atom limits (token_class (token.Text closed)) (record { at = from; bytes = opening (token.Text closed) ++ text }) ≡ Cut (token_end (token.Text closed) text from)
  unfolding IsToken atom string delimited delimited_atom span
  string-cut false text from h fits =
      let t : Input = record { at = from; bytes = codes "\"" ++ text } in
      ap (λ b. at_most TokenLong limits.token t (delimited kind.String t b)) (ap (string false 1) (sym (append-nil text)) ∙ h [])
      ∙ at_most-cut TokenLong limits.token t None (omega arith)
  string-cut true text from h fits =
      let t : Input = record { at = from; bytes = codes "\"" ++ text } in
      ap (λ b. at_most TokenLong limits.token t (delimited kind.String t b)) (ap (string false 1) (sym (append-nil text)) ∙ h [])
      ∙ at_most-cut TokenLong limits.token t _ (omega arith)
      ∙ ap (λ n. Cut (Some (Atom kind.String (take n text) (record { from = from; to = from + suc (length text) })))) (omega arith)
      ∙ ap (λ n. Cut (Some (Atom kind.String (take (length text - 1) text) (record { from = from; to = from + n })))) (omega arith)

  quoted-cut : (text : List ℕ) (from : ℕ) → IsToken token.Quoted text → token_size token.Quoted text ≤ limits.token →
      atom limits (token_class token.Quoted) (record { at = from; bytes = opening token.Quoted ++ text }) ≡ Cut None
  unfolding IsToken atom bar_at delimited
  quoted-cut text from h fits =
      let t : Input = record { at = from; bytes = codes "|" ++ text } in
      ap (λ b. at_most TokenLong limits.token t (delimited kind.Symbol t b)) (quoted-of limits text text [] (run-all is_quotable text h) (drop_all (length text) text (omega arith)))
      ∙ at_most-cut TokenLong limits.token t None (omega arith)

  -- a token whose bytes end
  token-cut : (t : Token) (text : List ℕ) (from : ℕ) → IsToken t text → token_size t text ≤ limits.token →
      atom limits (token_class t) (record { at = from; bytes = opening t ++ text }) ≡ Cut (token_end t text from)
  token-cut token.Word text from h fits = word-cut text from h fits
  token-cut (token.Text false) text from h fits = string-cut false text from h fits
  token-cut (token.Text true) text from h fits = string-cut true text from h fits
  token-cut token.Quoted text from h fits = quoted-cut text from h fits

  pub token_cut : (t : Token) (text : List ℕ) (from : ℕ) → IsToken t text → token_size t text ≤ limits.token →
      atom limits (token_class t) (record { at = from; bytes = opening t ++ (text ++ []) }) ≡ Cut (token_end t text from)
  token_cut t text from h fits = ap (λ bs. atom limits (token_class t) (record { at = from; bytes = opening t ++ bs })) (append-nil text) ∙ token-cut t text from h fits
