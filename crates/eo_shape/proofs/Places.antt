-- Parameters and symbols in a list.
use Rattle.std.proofs.Common.{◌≡◌, List}
use Rattle.std.specs.Prelude.{length}
use Rattle.eo_sexp.specs.Sexp.{Sexp}
use Rattle.eo_shape.specs.Parameters.{parameters_in, shaped_parameter, AreParameters}
use Rattle.eo_shape.specs.Sequences.{symbols_in, AreSymbols}
use Rattle.eo_shape.specs.Words.{symbol_of}
use Rattle.eo_shape.proofs.Every.{every-length}

pub parameters-length : (items : List Sexp) → AreParameters items → length items ≡ length (parameters_in items)
parameters-length items shaped = every-length shaped_parameter items (parameters_in items) shaped

pub symbols-length : (items : List Sexp) → AreSymbols items → length items ≡ length (symbols_in items)
symbols-length items shaped = every-length symbol_of items (symbols_in items) shaped
