-- Tokens of more than one byte, a byte at a time.
use Rattle.std.specs.Prelude.{◌≡◌, ℕ, suc, ◌+◌, ◌-◌, Bool, true, false, not, ◌&&◌, nat_lt, List, [], ◌++◌, length, take, codes, Option, Some, None, if◌then◌else◌}
use Rattle.std.specs.List.{prefix_len}
use Rattle.eo_base.specs.declared.FaultName.TheVariants.{BadByte, TokenLong}
use Rattle.eo_base.specs.Limits.{Limits}
use Rattle.eo_sexp.specs.declared.classes.Class.{Class as ByteClass}
use Rattle.eo_sexp.specs.declared.classes.Class.TheVariants as byte
use Rattle.eo_sexp.specs.declared.token.AtomKind.{AtomKind as TokenKind}
use Rattle.eo_sexp.specs.declared.token.AtomKind.TheVariants as code
use Rattle.eo_sexp.specs.declared.token.Token.{Token}
use Rattle.eo_sexp.specs.declared.token.Token.TheVariants as token
use Rattle.eo_sexp.specs.declared.token.TokenTurn.{TokenTurn}
use Rattle.eo_sexp.specs.declared.token.TokenTurn.TheVariants.{Goes, Ends, Closes, Fault}
use Rattle.eo_sexp.specs.Sexp.{Sexp, Atom}
use Rattle.eo_sexp.specs.AtomKind.{AtomKind}
use Rattle.eo_sexp.specs.AtomKind as kind
use Rattle.eo_sexp.specs.Lexicon.{Class, Space, Comment, Open, Close, Quote, Bar, Word, Other, is_one_of, is_text, is_quotable, is_word, string, kind_of}

-- the class of the definitions
abbrev pub class_of : ByteClass → Class
class_of byte.Space = Space
class_of byte.Comment = Comment
class_of byte.Open = Open
class_of byte.Close = Close
class_of byte.Quote = Quote
class_of byte.Bar = Bar
class_of byte.Word = Word
class_of byte.Other = Other

-- the kind of the definitions
abbrev pub kind_meant : TokenKind → AtomKind
kind_meant code.Symbol = kind.Symbol
kind_meant code.Keyword = kind.Keyword
kind_meant code.Literal = kind.Literal
kind_meant code.String = kind.String

-- the class of a token's first byte
abbrev pub token_class : Token → Class
token_class token.Word = Word
token_class (token.Text closed) = Quote
token_class token.Quoted = Bar

-- the delimiter at its front
abbrev pub opening : Token → List ℕ
opening token.Word = []
opening (token.Text closed) = codes "\""
opening token.Quoted = codes "|"

-- The bytes after the delimiter begin the token, which goes on so.
unfoldable pub IsToken : Token → List ℕ → Type 0
IsToken token.Word text = (more : List ℕ) → prefix_len is_word (text ++ more) ≡ length text + prefix_len is_word more
IsToken (token.Text closed) text = (more : List ℕ) → string false 1 (text ++ more) ≡ string closed (suc (length text)) more
IsToken token.Quoted text = (more : List ℕ) → prefix_len is_quotable (text ++ more) ≡ length text + prefix_len is_quotable more

abbrev pub token_size : Token → List ℕ → ℕ
token_size t text = length (opening t) + length text

-- the byte x leaves a token as it is, and is no line feed
unfoldable pub is_plain : Token → ℕ → Bool
is_plain token.Word x = is_word x
is_plain (token.Text true) x = false
is_plain (token.Text false) x = is_text x && not (is_one_of (codes "\"\n") x)
is_plain token.Quoted x = is_quotable x && not (is_one_of (codes "\n") x)

-- the kind of the atom that ends with these bytes
abbrev pub atom_kind : Token → List ℕ → AtomKind
atom_kind token.Word text = kind_of text
atom_kind (token.Text closed) text = kind.String
atom_kind token.Quoted text = kind.Symbol

-- its text: the quote at the end of a string is no part of it
abbrev pub atom_text : Token → List ℕ → List ℕ
atom_text token.Word text = text
atom_text (token.Text closed) text = take (length text - 1) text
atom_text token.Quoted text = text

-- the end of the input ends the token
abbrev pub may_end : Token → Bool
may_end token.Word = true
may_end (token.Text closed) = closed
may_end token.Quoted = false

-- the atom that it is, from byte `from` on, where nothing follows
abbrev pub token_end : Token → List ℕ → (from : ℕ) → Option Sexp
token_end (token.Text false) text from = None
token_end token.Quoted text from = None
token_end t text from = Some (Atom (atom_kind t text) (atom_text t text) (record { from = from; to = from + token_size t text }))

module _ (limits : Limits) (size : ℕ) where
  abbrev pub go_on : Token → TokenTurn
  go_on t = if nat_lt size limits.token then Goes t else Fault TokenLong

  abbrev pub close : TokenTurn
  close = if nat_lt size limits.token then Closes else Fault TokenLong

  -- what the byte x does after so many bytes of a token
  unfoldable pub token_turn : Token → ℕ → TokenTurn
  token_turn token.Word x = if is_word x then go_on token.Word else Ends
  token_turn (token.Text true) x = if is_one_of (codes "\"") x then go_on (token.Text false) else Ends
  token_turn (token.Text false) x = if is_one_of (codes "\"") x then go_on (token.Text true) else if is_text x then go_on (token.Text false) else Fault BadByte
  token_turn token.Quoted x =
      if is_one_of (codes "|") x then close
      else if is_quotable x then go_on token.Quoted else Fault BadByte
