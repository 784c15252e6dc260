-- Refusals of lines.
use Rattle.eo_term.specs.declared.table.TermRefused.{TermRefused}
use Rattle.eo_term.specs.declared.table.TermRefused.TheVariants as term
use Rattle.eo_stated.specs.declared.refused.LineRefused.{LineRefused}
use Rattle.eo_stated.specs.declared.refused.LineRefused.TheVariants.{Bad, Memory}

abbrev pub of_term : TermRefused → LineRefused
of_term term.Tall = Bad
of_term (term.Memory e) = Memory e
