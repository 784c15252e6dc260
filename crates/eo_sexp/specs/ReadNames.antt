-- Symbols that were read can be printed again.
use Rattle.std.specs.Prelude.{◌≡◌, ℕ, ◌≤◌, true, List, length}
use Rattle.std.specs.List.{list_all}
use Rattle.eo_base.specs.Limits.{Limits}
use Rattle.eo_sexp.specs.AtomKind.{AtomKind}
use Rattle.eo_sexp.specs.AtomKind as kind
use Rattle.eo_sexp.specs.Sexp.{Sexp, Atom, Listed, Sexps, NoSexp, Next}
use Rattle.eo_sexp.specs.Lexicon.{is_quotable}
use Rattle.eo_sexp.specs.Printing.{printed_atom}
use Rattle.eo_sexp.specs.Texts.{Reads, Then, Ends, Fails}

-- it holds of each command of a file
abbrev pub AllCommands : (Sexp → Type 0) → Reads → Type 0
AllCommands P (Then first others) = P first.sexp × AllCommands P others
AllCommands P (Ends at) = Unit {0}
AllCommands P (Fails name at) = Unit {0}

module _ (limits : Limits) where
  -- a symbol of quotable bytes, within a token as it is printed
  abbrev pub SymbolFits : AtomKind → List ℕ → Type 0
  SymbolFits kind.Symbol text = (list_all is_quotable text ≡ true) × (length (printed_atom kind.Symbol text) ≤ limits.token)
  SymbolFits k text = Unit {0}

  -- each symbol of an s-expression
  abbrev mutual
    pub SymbolsFit : Sexp → Type 0
    SymbolsFit (Atom k text span) = SymbolFits k text
    SymbolsFit (Listed ss span) = AllSymbolsFit ss

    pub AllSymbolsFit : Sexps → Type 0
    AllSymbolsFit NoSexp = Unit {0}
    AllSymbolsFit (Next s rest) = SymbolsFit s × AllSymbolsFit rest
