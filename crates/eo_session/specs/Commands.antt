-- What a command does: the state after it and what is done next, or its first fault.
use Rattle.std.specs.Prelude.{ℕ, Bool, true, false, not, ◌||◌, List, Ok}
use Rattle.std.specs.Str.{is_utf8}
use Rattle.eo_base.specs.declared.FaultName.TheVariants.{BadPath, SecondReference, InScope}
use Rattle.eo_base.specs.Checks.{Checked, ◌>>=◌, require}
use Rattle.eo_lit.specs.Literals.{string_bytes}
use Rattle.eo_sexp.specs.Sexp.{Sexp}
use Rattle.eo_shape.specs.Shapes.{Command, DeclareConst, DeclareFun, DeclareSort, DeclareParameterized, DeclareLiterals, Define, DefineProgram, DeclareRule, Assume, AssumePush, Step, StepPop, Include, Refer, DefineFun, DefineSort, Assert, Exit, Skip, command_of}
use Rattle.eo_session.specs.State.{State, with_command, is_in_scope}
use Rattle.eo_session.specs.Step.{is_in_reference, file_kind_of, declare_const, declare_fun, declare_sort, declare_parameterized, declare_literals, define, define_fun, define_sort, define_program, declare_rule, assume, assume_push, step_plain, step_pop, assert}
use Rattle.eo_session.specs.Origin.{Origin}
use Rattle.eo_session.specs.declared.Next.{Next}
use Rattle.eo_session.specs.declared.Next.TheVariants as next

-- ---- files that are named

-- the path in a string, which is text
unfoldable pub path_of : List ℕ → Checked (List ℕ)
path_of written = do
  _ ← require (is_utf8 (string_bytes written)) BadPath
  Ok (string_bytes written)

unfoldable pub reference_path : State → List ℕ → Checked (List ℕ)
reference_path st written = do
  _ ← require (not st.has_reference) SecondReference
  path_of written

-- What is done after a command, before the next one: a file may be opened, or the one that is read may end. What the command declares is declared by then.
unfoldable pub next_by : State → Command → Checked Next
next_by st (Include written) = do
  path ← path_of written
  Ok (next.Include path)
next_by st (Refer written) = do
  path ← reference_path st written
  Ok (next.Reference path)
next_by st Exit = Ok next.Exit
next_by st command = Ok next.Done

-- ---- each command

abbrev pub by_command : State → Origin → Command → Checked State
by_command st from (DeclareConst name type shape) = declare_const st (file_kind_of from) name type shape
by_command st from (DeclareFun name inputs output) = declare_fun st (file_kind_of from) name inputs output
by_command st from (DeclareSort name arity) = declare_sort st (file_kind_of from) name arity
by_command st from (DeclareParameterized name shapes type shape) = declare_parameterized st name shapes type shape
by_command st from (DeclareLiterals class type) = declare_literals st class type
by_command st from (Define name shapes body) = define st name shapes body
by_command st from (DefineProgram shape) = define_program st from shape
by_command st from (DeclareRule shape) = declare_rule st from shape
by_command st from (Assume name s) = assume st name s
by_command st from (AssumePush name s) = assume_push st name s
by_command st from (Step shape) = step_plain st shape
by_command st from (StepPop shape) = step_pop st shape
by_command st from (Include written) = Ok st
by_command st from (Refer written) = Ok st
by_command st from (DefineFun name shapes output body) = define_fun st name shapes output body
by_command st from (DefineSort name names type) = define_sort st name names type
by_command st from (Assert s) = assert st s
by_command st from Exit = Ok st
by_command st from Skip = Ok st

-- commands that are allowed in a scope
abbrev pub may_be_in_scope : Command → Bool
may_be_in_scope (Define name shapes body) = true
may_be_in_scope (AssumePush name s) = true
may_be_in_scope (Step shape) = true
may_be_in_scope (StepPop shape) = true
may_be_in_scope command = false

-- the rule on scopes, and then the checks of its own
unfoldable pub scoped_command : State → Origin → Command → Checked State
scoped_command st from command = do
  _ ← require (not (is_in_scope st) || may_be_in_scope command) InScope
  by_command st from command

-- the state after a command, and what is done next
unfoldable pub placed_command : State → Origin → Command → Checked (State × Next)
placed_command st from command = do
  new ← scoped_command st from command
  what ← next_by new command
  Ok (new, what)

-- its shape, the rule on scopes, and then the checks of its own
unfoldable pub uncounted : State → Origin → Sexp → Checked (State × Next)
uncounted st from s = do
  command ← command_of (is_in_reference from) s
  placed_command st from command

-- One command, which is counted where it is accepted.
unfoldable pub step : State → Origin → Sexp → Checked (State × Next)
step st from s = do
  r ← uncounted st from s
  Ok (with_command r.0, r.1)
