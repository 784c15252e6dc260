-- The result for the value of a name.
use Rattle.std.specs.Prelude.{◌≡◌, ◌≢◌, ℕ, List, Option, IfSome, Result, Ok, Err, ⊤}
use Rattle.eo_base.specs.Checks.{Checked}
use Rattle.eo_base.specs.declared.FaultName.TheVariants.{FileAbsent}
use Rattle.eo_base.specs.declared.Place.{Place}
use Rattle.eo_io.specs.Library.{Files}
use Rattle.eo_sig.specs.Signature.{Signature, Macro}
use Rattle.eo_term.specs.Tree.{Tree}
use Rattle.eo_show.specs.Lines.{shown as shown_by}
use Rattle.eo_run.specs.Answer.{Denotes, AnswerHasCause, answer_due}
use Rattle.eo_run.specs.Opening.{IsStop}
use Rattle.eo_run.specs.Printed.{Due, verdict_due}
use Rattle.eo_run.specs.Verdict.{Refusal, Refused}
use Rattle.eo_run.specs.declared.Verdict.{Verdict}
use Rattle.eo_run.specs.declared.Verdict.TheVariants as answer
use Rattle.eo_main.specs.Showing.{lines_due, show_due}

-- The lines of a value, of some signature and macros.
pub record AreLines (lines : List ℕ) : Type 0 where
  pub signature : Signature
  pub macros : List Macro
  pub tree : Tree
  pub are : lines ≡ shown_by signature macros tree

-- the lines of a value, or a result that is no verdict but a refusal
abbrev pub IsShowAnswer : List (List ℕ) → Result (List ℕ) Verdict → Type 0
IsShowAnswer paths (Ok lines) = AreLines lines
IsShowAnswer paths (Err v) = IsStop paths v

abbrev pub ShowHasCause : {F : Type 0} → Result (List ℕ) Verdict → Option F → (before now : ℕ) → Type 0
ShowHasCause (Ok lines) told before now = ⊤
ShowHasCause (Err v) told before now = AnswerHasCause v told before now

-- The lines or the refusal are what is due, but for a read fault and for being out of memory.
abbrev pub AnswersDue : List (List ℕ) → Result (List ℕ) Verdict → Due → Type 0
AnswersDue paths (Ok lines) due = due ≡ lines_due lines
AnswersDue paths (Err (answer.Refused fault)) due = (refusal : Refusal) × (due ≡ verdict_due (Refused refusal)) × Denotes paths fault refusal
AnswersDue paths (Err answer.ReadFault) due = ⊤
AnswersDue paths (Err answer.OutOfMemory) due = ⊤
AnswersDue paths (Err v) due = ⊥

-- where files are known
abbrev pub AnswersShow : Option Files → (file name : List ℕ) → List (List ℕ) → Result (List ℕ) Verdict → Type 0
AnswersShow told file name paths r = IfSome told (λ files. AnswersDue paths r (show_due files file name))

-- A fault of the name at a place, or its lines; memory may run out at any time.
abbrev pub AnswersNamed : Place → Result (List ℕ) Verdict → Checked (List ℕ) → Type 0
AnswersNamed place (Ok lines) m = m ≡ Ok lines
AnswersNamed place (Err (answer.Refused fault)) m = (m ≡ Err fault.name) × (fault.place ≡ place) × (fault.name ≢ FileAbsent)
AnswersNamed place (Err answer.OutOfMemory) m = ⊤
AnswersNamed place (Err v) m = ⊥

-- what is due for what is returned
abbrev pub show_answer_due : List (List ℕ) → Result (List ℕ) Verdict → Due
show_answer_due paths (Ok lines) = lines_due lines
show_answer_due paths (Err v) = answer_due paths v
