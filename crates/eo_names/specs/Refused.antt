-- What fault a refusal is.
use Rattle.std.specs.Prelude.{Option, Some, None}
use Rattle.eo_base.specs.declared.FaultName.{FaultName}
use Rattle.eo_base.specs.declared.FaultName.TheVariants as fault
use Rattle.eo_term.specs.declared.table.TermRefused.{TermRefused}
use Rattle.eo_term.specs.declared.table.TermRefused.TheVariants as term
use Rattle.eo_names.specs.declared.refused.ElabRefused.{ElabRefused}
use Rattle.eo_names.specs.declared.refused.ElabRefused.TheVariants as refused

-- its fault; out of memory has none
abbrev pub told : ElabRefused → Option FaultName
told refused.BadLiteral = Some fault.BadLiteral
told refused.BadCommand = Some fault.BadCommand
told refused.Redeclared = Some fault.Redeclared
told refused.UnknownSymbol = Some fault.UnknownSymbol
told refused.BadArity = Some fault.BadArity
told refused.Tall = Some fault.TermHeight
told refused.Parameters = Some fault.Parameters
told refused.BadPattern = Some fault.BadPattern
told (refused.Memory e) = None

-- the refusal of a term that was not made
abbrev pub of_term : TermRefused → ElabRefused
of_term term.Tall = refused.Tall
of_term (term.Memory e) = refused.Memory e
