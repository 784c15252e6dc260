-- What is due for the value of a name.
use Rattle.std.specs.Prelude.{ℕ, if◌then◌else◌, List, Ok, Err}
use Rattle.eo_base.specs.Checks.{Checked}
use Rattle.eo_base.specs.declared.FaultName.TheVariants.{Unprintable}
use Rattle.eo_base.specs.declared.Status.TheVariants as status
use Rattle.eo_io.specs.Library.{Files}
use Rattle.eo_term.specs.Tree.{Tree}
use Rattle.eo_session.specs.State.{State}
use Rattle.eo_session.specs.Step.{value_named}
use Rattle.eo_show.specs.Lines.{shown as shown_by}
use Rattle.eo_show.specs.Members.{is_unprintable}
use Rattle.eo_run.specs.Run.{Ran, refusal_at, run_load, shown}
use Rattle.eo_run.specs.Check.{file_end}
use Rattle.eo_run.specs.Printed.{Due, verdict_due}
use Rattle.eo_run.specs.Verdict.{Refused}

-- the lines that a value is shown by
abbrev pub lines_due : List ℕ → Due
lines_due lines = record { status = status.Ok; text = lines }

-- the lines of a value, which has a spelling
abbrev pub value_lines : State → Tree → Checked (List ℕ)
value_lines st t = if is_unprintable st.signature t then Err Unprintable else Ok (shown_by st.signature st.macros t)

-- those of the value that is found
abbrev pub found_lines : State → Checked Tree → Checked (List ℕ)
found_lines st (Ok t) = value_lines st t
found_lines st (Err fault) = Err fault

-- The lines of the value of a name, in a state: or that it names no macro without parameters, how its evaluation ends, or that the value has no spelling.
unfoldable pub named_lines : State → (name : List ℕ) → Checked (List ℕ)
named_lines st name = found_lines st (value_named st name)

module _ (files : Files) (file : List ℕ) where
  -- a fault of the name is placed after the last byte of the file
  abbrev pub shown_due : Checked (List ℕ) → Due
  shown_due (Ok lines) = lines_due lines
  shown_due (Err fault) = verdict_due (Refused (refusal_at (shown file) (file_end files file) fault))

  abbrev pub loaded_due : (name : List ℕ) → Ran → Due
  loaded_due name (Ok p) = shown_due (named_lines p.state name)
  loaded_due name (Err stopped) = verdict_due (Refused stopped.refusal)

-- What is due for the value of a name: the verdict of the load of the file, where it is refused, and else the lines, or the fault of the name.
unfoldable pub show_due : Files → (file name : List ℕ) → Due
show_due files file name = loaded_due files file name (run_load files file)
