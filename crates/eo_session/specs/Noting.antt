-- What is noted of an accepted command, with numbers of terms.
use Rattle.std.specs.Prelude.{◌≡◌, ℕ, ◌<◌, List, [], All, length, Result, Ok, Err, ⊤}
use Rattle.eo_term.specs.Growth.{tree_in, trees_in}
use Rattle.eo_term.specs.Terms.{Terms}
use Rattle.eo_term.specs.Tree.{Tree}
use Rattle.eo_session.specs.Notes as notes
use Rattle.eo_session.specs.Notes.{Act, Seen}
use Rattle.eo_session.specs.declared.store.Store.{Store}
use Rattle.eo_session.specs.declared.observing.Act as code
use Rattle.eo_session.specs.declared.observing.Act.TheVariants as act
use Rattle.eo_session.specs.declared.observing.Note.{Note}
use Rattle.eo_session.specs.declared.observing.StepNote.{StepNote}
use Rattle.eo_session.specs.declared.refused.Refused.{Refused}
use Rattle.eo_session.specs.declared.refused.Refused.TheVariants as refused

abbrev pub read_step_note : Terms → StepNote → notes.StepNote
read_step_note t s = record { rule = s.rule; premises = s.premises; arguments = trees_in t s.args; fact = tree_in t s.fact }

abbrev pub read_act : Terms → code.Act → Act
read_act t act.Declare = notes.Declares
read_act t act.Define = notes.Defines
read_act t (act.Assert i) = notes.Asserts (tree_in t i)
read_act t (act.Assume i) = notes.Assumes (tree_in t i)
read_act t (act.Push i) = notes.Opens (tree_in t i)
read_act t (act.Step s) = notes.Derives (read_step_note t s)
read_act t (act.Pop s) = notes.Closes (read_step_note t s)
read_act t act.Other = notes.Other

-- what a note says of a command with these bytes
abbrev pub read_note : Terms → List ℕ → Note → Seen
read_note t bytes n = record {
  bytes = bytes;
  place = n.place;
  number = n.number;
  from_reference = n.from_reference;
  depth = n.depth;
  act = read_act t n.act;
}

-- its terms are below n
pub record StepBelow (n : ℕ) (s : StepNote) : Type 0 where
  pub args : All (λ i. i < n) s.args
  pub fact : s.fact < n

abbrev pub ActBelow : ℕ → code.Act → Type 0
ActBelow n act.Declare = Unit {0}
ActBelow n act.Define = Unit {0}
ActBelow n (act.Assert i) = i < n
ActBelow n (act.Assume i) = i < n
ActBelow n (act.Push i) = i < n
ActBelow n (act.Step s) = StepBelow n s
ActBelow n (act.Pop s) = StepBelow n s
ActBelow n act.Other = Unit {0}

-- so it is, unless memory failed
abbrev pub UnlessMemory : Refused → Type 0 → Type 0
UnlessMemory (refused.Fault name) P = P
UnlessMemory refused.Ended P = P
UnlessMemory (refused.Memory e) P = ⊤

-- these are the arguments, and are terms that are there
pub record GivesArguments (h : Store) (ts : List Tree) (is : List ℕ) : Type 0 where
  pub live : All (λ i. i < length h.table.trees) is
  pub read : trees_in h.table is ≡ ts

-- the ids that are found, and none where there is a fault
abbrev pub GivesFound : Result (List ℕ) Refused → List ℕ → Type 0
GivesFound (Ok js) is = is ≡ js
GivesFound (Err (refused.Fault name)) is = is ≡ []
GivesFound (Err refused.Ended) is = is ≡ []
GivesFound (Err (refused.Memory e)) is = ⊥
