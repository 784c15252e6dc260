-- What a command of a reference file says, or its first fault (SMT-LIB 2.6, section 4.2 "Commands"). Evaluation, types and a repeated name are checked when it is added.
use Rattle.std.specs.Prelude.{true, List, [], Ok}
use Rattle.eo_base.specs.Checks.{Checked, ◌>>=◌}
use Rattle.eo_sexp.specs.Sexp.{Sexp}
use Rattle.eo_shape.specs.Shapes.{Command, Assert, Exit, Skip, command_of}
use Rattle.eo_sig.specs.Signature.{Signature, Macro}
use Rattle.eo_term.specs.Tree.{Tree}
use Rattle.eo_names.specs.Contexts.{Context, FileKind, InReference, InAssert, Several}
use Rattle.eo_names.specs.Readers.{NamedTerm}
use Rattle.eo_elab.specs.Meaning.{means}
use Rattle.eo_declare.specs.Declarations.{Declaration, reference_declaration}
use Rattle.eo_declare.specs.Declaring.{or_bad}

pub data ReferenceNext : Type 0 where
  Declares : (declaration : Declaration) → ReferenceNext
  -- a formula as it is written, and the names that its terms give themselves
  Asserts : (formula : Tree) (names : List NamedTerm) → ReferenceNext
  Skips : ReferenceNext
  Exits : ReferenceNext

module _ (S : Signature) (macros : List Macro) where
  abbrev pub names_in : FileKind → Context
  names_in file_kind = record { signature = S; macros = macros; file_kind = file_kind; naming = Several }

  abbrev pub asserted : Sexp → Checked ReferenceNext
  asserted s = do
    r ← means (names_in InAssert) [] s []
    Ok (Asserts r.0 r.1)

  abbrev pub declares : Command → Checked ReferenceNext
  declares command = do
    d ← or_bad (reference_declaration (names_in InReference) command)
    Ok (Declares d)

  unfoldable pub by_command : Command → Checked ReferenceNext
  by_command (Assert s) = asserted s
  by_command Exit = Ok Exits
  by_command Skip = Ok Skips
  by_command command = declares command

  unfoldable pub reference_command : Sexp → Checked ReferenceNext
  reference_command s = do
    command ← command_of true s
    by_command command
