-- What is read of a rule, beside what follows it.
use Rattle.std.specs.Prelude.{List}
use Rattle.eo_sexp.specs.Sexp.{Sexp}
use Rattle.eo_shape.specs.declared.PremisesShape as code_premises
use Rattle.eo_shape.specs.Reading.{read_premises}
use Rattle.eo_shape.specs.Shapes.{PremisesShape}

abbrev pub read_premises_and : code_premises.PremisesShape × List Sexp → PremisesShape × List Sexp
read_premises_and p = (read_premises p.0, p.1)
