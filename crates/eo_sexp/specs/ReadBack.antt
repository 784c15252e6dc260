-- What is printed reads back as it is, and symbols that were read can be printed again.
use Rattle.std.specs.Prelude.{◌≡◌, ℕ, ◌≤◌, Bool, false, List, [], ◌∷◌, ◌++◌, length, map, Some}
use Rattle.eo_base.specs.Limits.{Limits}
use Rattle.eo_sexp.specs.Sexp.{Sexp}
use Rattle.eo_sexp.specs.Commands.{Whole, command}
use Rattle.eo_sexp.specs.Texts.{reads, reads_file}
use Rattle.eo_sexp.specs.Printing.{printed, placed, IsPrintable, EndsBefore, printed_lines, commands_read}
use Rattle.eo_sexp.specs.ReadNames.{SymbolsFit, AllCommands}

module _ (limits : Limits) where
  -- what can be a command
  abbrev pub IsLine : Sexp → Type 0
  IsLine s = IsPrintable limits limits.nesting s × (length (printed s) ≤ limits.command)

  abbrev pub AreLines : List Sexp → Type 0
  AreLines [] = Unit {0}
  AreLines (s ∷ ss) = IsLine s × AreLines ss

  -- A printed s-expression is that command, with its parts at their places, whatever follows the byte that ends it.
  abbrev pub CommandsReadBack : Type 0
  CommandsReadBack = (s : Sexp) → IsLine s → (tail : List ℕ) → EndsBefore tail →
      command limits (printed s ++ tail) ≡ Whole (placed 0 s) (record { at = length (printed s); bytes = tail })

  -- A file of printed lines has these commands, with their parts at their places, and a good end.
  abbrev pub LinesReadBack : Type 0
  LinesReadBack = (ss : List Sexp) → AreLines ss → commands_read (reads limits false (printed_lines ss)) ≡ Some (map (placed 0) ss)

  -- The symbols of each command of a file can be printed again.
  abbrev pub SymbolsPrintAgain : Type 0
  SymbolsPrintAgain = (proof : Bool) (bytes : List ℕ) → AllCommands (SymbolsFit limits) (reads_file limits proof bytes)
