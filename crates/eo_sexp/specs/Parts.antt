-- What an s-expression is in the bytes of its command.
use Rattle.std.specs.Prelude.{◌≡◌, ℕ, Bool, List}
use Rattle.eo_sexp.specs.Sexp.{Sexp, Sexps, Atom, Listed, NoSexp, Next}
use Rattle.eo_sexp.specs.Nodes.{token_text, Delimits, HasText}
use Rattle.eo_sexp.specs.Collecting.{Collecting, Holds, bytes_of}

-- An atom's text is the part of the bytes at its span: of a string without its quotes, of a symbol without its bars where it has them, and of any other atom the whole part.
abbrev mutual
  pub IsPart : List ℕ → Sexp → Type 0
  IsPart bytes (Atom k text span) = (delimited : Bool) × Delimits k delimited × HasText bytes delimited span.from span.to × (text ≡ token_text bytes delimited span.from span.to)
  IsPart bytes (Listed children span) = AreParts bytes children

  pub AreParts : List ℕ → Sexps → Type 0
  AreParts bytes NoSexp = Unit {0}
  AreParts bytes (Next s ss) = IsPart bytes s × AreParts bytes ss

-- the same of the command that was returned last
abbrev pub HoldsParts : Collecting → Type 0
HoldsParts now = (s : Sexp) → Holds now s → IsPart (bytes_of now) s
