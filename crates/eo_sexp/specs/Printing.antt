-- S-expressions as bytes: one blank between two children, and a symbol in bars unless it is a word.
use Rattle.std.specs.Prelude.{◌≡◌, ℕ, zero, suc, ◌+◌, ◌≤◌, Bool, true, false, ◌&&◌, if◌then◌else◌, List, [], ◌∷◌, ◌++◌, length, flat_map, codes, Option, Some, None, option_map}
use Rattle.std.specs.List.{list_all}
use Rattle.eo_base.specs.Limits.{Limits}
use Rattle.eo_sexp.specs.AtomKind.{AtomKind}
use Rattle.eo_sexp.specs.AtomKind as kind
use Rattle.eo_sexp.specs.Sexp.{Sexp, Atom, Listed, Sexps, NoSexp, Next, Span}
use Rattle.eo_sexp.specs.Texts.{Reads, Then, Ends, Fails}
use Rattle.eo_sexp.specs.Lexicon.{StringByte, Delimiter, Inside, string_byte, is_quotable, is_word, is_one_of, kind_of}

-- ---- the bytes of an s-expression

abbrev pub same_kind : AtomKind → AtomKind → Bool
same_kind kind.Symbol kind.Symbol = true
same_kind kind.Keyword kind.Keyword = true
same_kind kind.Literal kind.Literal = true
same_kind kind.String kind.String = true
same_kind _ _ = false

-- a word of this kind
abbrev pub is_word_of : AtomKind → List ℕ → Bool
is_word_of k [] = false
is_word_of k (x ∷ xs) = list_all is_word (x ∷ xs) && same_kind (kind_of (x ∷ xs)) k

abbrev pub in_bars : List ℕ → List ℕ
in_bars text = codes "|" ++ (text ++ codes "|")

abbrev pub in_quotes : List ℕ → List ℕ
in_quotes text = codes "\"" ++ (text ++ codes "\"")

-- a symbol that is no word is written in bars
unfoldable pub printed_atom : AtomKind → List ℕ → List ℕ
printed_atom kind.Symbol text = if is_word_of kind.Symbol text then text else in_bars text
printed_atom kind.String text = in_quotes text
printed_atom k text = text

abbrev mutual
  pub printed : Sexp → List ℕ
  printed (Atom k text span) = printed_atom k text
  printed (Listed ss span) = codes "(" ++ (printed_children ss ++ codes ")")

  pub printed_children : Sexps → List ℕ
  printed_children NoSexp = []
  printed_children (Next s rest) = printed s ++ printed_others rest

  -- a blank before each
  pub printed_others : Sexps → List ℕ
  printed_others NoSexp = []
  printed_others (Next s rest) = codes " " ++ (printed s ++ printed_others rest)

-- ---- the places of its parts

abbrev pub span_of : ℕ → ℕ → Span
span_of at size = record { from = at; to = at + size }

-- The same s-expression, where its first byte comes after so many of its command.
abbrev mutual
  pub placed : ℕ → Sexp → Sexp
  placed at (Atom k text span) = Atom k text (span_of at (length (printed_atom k text)))
  placed at (Listed ss span) = Listed (placed_children (suc at) ss) (span_of at (length (printed (Listed ss span))))

  pub placed_children : ℕ → Sexps → Sexps
  placed_children at NoSexp = NoSexp
  placed_children at (Next s rest) = Next (placed at s) (placed_others (at + length (printed s)) rest)

  pub placed_others : ℕ → Sexps → Sexps
  placed_others at NoSexp = NoSexp
  placed_others at (Next s rest) = Next (placed (suc at) s) (placed_others (suc at + length (printed s)) rest)

-- ---- what can be printed

-- a byte between the quotes of a string literal; `open_quote`: a quote before it waits for a second one
unfoldable pub body_byte : (open_quote : Bool) → StringByte → (Bool → Bool) → Bool
body_byte false Delimiter later = later true
body_byte false Inside later = later false
body_byte true Delimiter later = later false
body_byte _ _ later = false

-- the bytes between the quotes of a string literal: each quote is doubled
unfoldable pub is_body : (open_quote : Bool) → List ℕ → Bool
is_body true [] = false
is_body false [] = true
is_body o (x ∷ xs) = body_byte o (string_byte x) (λ later. is_body later xs)

-- the text of an atom of a kind
abbrev pub is_text_of : AtomKind → List ℕ → Bool
is_text_of kind.Symbol text = list_all is_quotable text
is_text_of kind.String text = is_body false text
is_text_of k text = is_word_of k text

module _ (limits : Limits) where
  -- it can be printed, and reads back, where so many lists may be open at one place
  abbrev mutual
    pub IsPrintable : (deeper : ℕ) → Sexp → Type 0
    IsPrintable deeper (Atom k text span) = (is_text_of k text ≡ true) × (length (printed_atom k text) ≤ limits.token)
    IsPrintable zero (Listed ss span) = ⊥
    IsPrintable (suc deeper) (Listed ss span) = AllPrintable deeper limits.width ss

    -- at most so many of them
    pub AllPrintable : (deeper more : ℕ) → Sexps → Type 0
    AllPrintable deeper more NoSexp = Unit {0}
    AllPrintable deeper zero (Next s rest) = ⊥
    AllPrintable deeper (suc more) (Next s rest) = IsPrintable deeper s × AllPrintable deeper more rest

-- before this byte a word and a string literal are whole
abbrev pub EndsToken : ℕ → Type 0
EndsToken x = (is_word x ≡ false) × (is_one_of (codes "\"") x ≡ false)

-- some bytes, of which the first is such a one
abbrev pub EndsBefore : List ℕ → Type 0
EndsBefore [] = ⊥
EndsBefore (x ∷ xs) = EndsToken x

-- a line feed after each
abbrev pub printed_lines : List Sexp → List ℕ
printed_lines ss = flat_map (λ s. printed s ++ codes "\n") ss

-- the commands of a file that has no fault
abbrev pub commands_read : Reads → Option (List Sexp)
commands_read (Then first others) = option_map (λ ss. first.sexp ∷ ss) (commands_read others)
commands_read (Ends at) = Some []
commands_read (Fails name at) = None
