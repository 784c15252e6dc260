-- The commands of a run that a certificate holds, and the states in which they are accepted again.
use Rattle.std.specs.Prelude.{Bool, true, false}
use Rattle.eo_session.specs.State.{State}
use Rattle.eo_shape.specs.Shapes.{Command, DeclareConst, DeclareFun, DeclareSort, DeclareParameterized, DeclareLiterals, Define, DefineProgram, DeclareRule, DefineFun, DefineSort, Assert}

-- it declares, or asserts
abbrev pub is_written : Command → Bool
is_written (DeclareConst name type shape) = true
is_written (DeclareFun name inputs output) = true
is_written (DeclareSort name arity) = true
is_written (DeclareParameterized name params type shape) = true
is_written (DeclareLiterals class type) = true
is_written (Define name params body) = true
is_written (DefineProgram shape) = true
is_written (DeclareRule shape) = true
is_written (DefineFun name params output body) = true
is_written (DefineSort name params type) = true
is_written (Assert s) = true
is_written command = false

-- the declarations, macros and assertions of the first state, with all else as in the second; the proof may declare
abbrev pub declared_in : State → State → State
declared_in st other = record st {
  scopes = other.scopes;
  outer_macros = other.outer_macros;
  has_reference = other.has_reference;
  sorry = other.sorry;
  closed = false;
  commands = other.commands;
}
