-- What parts of declarations mean, over a table and a signature: the definitions at the code's own values.
use Rattle.std.specs.Prelude.{ℕ, List}
use Rattle.eo_base.specs.Checks.{Checked}
use Rattle.eo_sexp.specs.Sexp.{Sexp}
use Rattle.eo_sig.specs.Reading.{Kept, signature, macros}
use Rattle.eo_term.specs.Terms.{Terms}
use Rattle.eo_term.specs.Tree.{Tree}
use Rattle.eo_names.specs.Contexts.{Context, InReference, Several}
use Rattle.eo_names.specs.Worlds.{World}
use Rattle.eo_declare.specs.Declarations.{meanings, constant_meant, attribute, declared_case, declared_cases}
use Rattle.eo_shape.specs.declared.AttributeShape.{AttributeShape}
use Rattle.eo_shape.specs.Reading.{read_attribute}
use Rattle.eo_shape.specs.Shapes.{CaseShape}
use Rattle.eo_sig.specs.Signature.{Attribute, Case}

-- in a reference file
abbrev pub reference_context : Terms → Kept → Context
reference_context t k = record { signature = signature t.trees k; macros = macros t.trees k; file_kind = InReference; naming = Several }

module _ (w : World) where
  -- terms in order
  abbrev pub meanings_in : List Sexp → Checked (List Tree)
  meanings_in ss = meanings w.names w.locals ss

  -- the constant that a term means, and how a constant folds its arguments
  abbrev pub constant_in : Sexp → Checked ℕ
  constant_in s = constant_meant w.names w.locals s

  abbrev pub attribute_in : AttributeShape → Checked Attribute
  attribute_in shape = attribute w.names w.locals (read_attribute shape)

  -- a case of a program with so many inputs, and cases in order
  abbrev pub case_in : ℕ → CaseShape → Checked Case
  case_in inputs shape = declared_case w.names w.locals inputs shape

  abbrev pub cases_in : ℕ → List CaseShape → Checked (List Case)
  cases_in inputs shapes = declared_cases w.names w.locals inputs shapes
