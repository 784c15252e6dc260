-- The lines that a value is shown by read back as it.
use Rattle.std.specs.Prelude.{◌≡◌, ℕ, ◌+◌, ◌^◌, ◌<◌, false, None, Some, List, [], ◌∷◌, ◌++◌, map, length, Ok}
use Rattle.eo_base.specs.Checks.{Checked, ◌>>=◌}
use Rattle.eo_base.specs.Limits.{limits}
use Rattle.eo_term.specs.Operators.{operator_named}
use Rattle.eo_term.specs.Tree.{Tree}
use Rattle.eo_sexp.specs.Printing.{placed, commands_read}
use Rattle.eo_sexp.specs.Sexp.{Sexp}
use Rattle.eo_sexp.specs.Texts.{reads}
use Rattle.eo_sig.specs.Signature.{Signature, constants}
use Rattle.eo_names.specs.Contexts.{InProof}
use Rattle.eo_names.specs.Meanings.{Name, word_of}
use Rattle.eo_elab.specs.Meaning.{meaning}
use Rattle.eo_stack.specs.Evaluation.{Value, eval0}
use Rattle.eo_session.specs.State.{State, context}
use Rattle.eo_session.specs.Origin.{Signature as InSignature}
use Rattle.eo_session.specs.Commands.{step}
use Rattle.eo_session.specs.Step.{value_named}
use Rattle.eo_show.specs.Forms.{name_of, symbol}
use Rattle.eo_show.specs.Lines.{Line, lines_of, shown_lines, shown}
use Rattle.eo_show.specs.Members.{defined, is_unprintable}
use Rattle.eo_show.specs.Printable.{ArePrintedNames, CanShow}

-- the commands of a signature, one after another
unfoldable pub steps : State → List Sexp → Checked State
steps st [] = Ok st
steps st (s ∷ ss) = do
  r ← step st InSignature s
  steps r.0 ss

-- ---- names of constants

-- a name that is looked up: no word and no operator of the language
abbrev pub HasName : List ℕ → Type 0
HasName name = (word_of InProof name ≡ Name) × (operator_named name ≡ None)

abbrev pub HaveNames : Signature → Type 0
HaveNames S = (k : ℕ) → k < length (constants S) → HasName (name_of S k)

-- names of constants that can be read and printed
pub record IsNamed (S : Signature) : Type 0 where
  pub read : HaveNames S
  pub printed : ArePrintedNames S

-- ---- the law

-- The bytes are read as the lines; these are accepted from the state on; and then the name of the last line, by itself, means a tree that evaluates to the value.
pub record ReadsBack (st : State) (t : Tree) : Type 0 where
  pub read : commands_read (reads limits false (shown st.signature st.macros t)) ≡ Some (map (placed 0) (lines_of st.signature (shown_lines st.signature st.macros t)))
  pub end : State
  pub accepted : steps st (map (placed 0) (lines_of st.signature (shown_lines st.signature st.macros t))) ≡ Ok end
  pub before : List Line
  pub name : List ℕ
  pub last : shown_lines st.signature st.macros t ≡ before ++ record { name = name; tree = t } ∷ []
  pub tree : Tree
  pub means : (at : ℕ) → meaning (context end) [] (placed at (symbol name)) ≡ Ok tree
  pub evaluates : eval0 end.signature tree ≡ Value t

-- Each value of a state that can be shown is shown by lines that read back as it.
abbrev pub ShowsBack : State → Type 0
ShowsBack st = (t : Tree) → CanShow st.signature st.macros t → ReadsBack st t

-- ---- the values of names

-- Lines few enough that their numbers, and those of the names that are taken, are below 2^64.
abbrev pub HasRoom : State → Tree → Type 0
HasRoom st t = length (defined st.signature t) + length st.signature + length st.macros < 2 ^ 64

-- Each value that a name has in a state is shown by lines that read back as it, where it has a spelling and room for its lines.
abbrev pub ValuesShowBack : State → Type 0
ValuesShowBack st = (name : List ℕ) (t : Tree) → value_named st name ≡ Ok t → is_unprintable st.signature t ≡ false → HasRoom st t → ReadsBack st t
