-- What an observer sees of an accepted command: what it does, by its trees.
use Rattle.std.specs.Prelude.{ℕ, Bool, List, [], ◌∷◌, map, Ok, Err, unwrap_or}
use Rattle.eo_base.specs.Checks.{Checked}
use Rattle.eo_base.specs.declared.Place.{Place}
use Rattle.eo_proof.specs.Scopes.{depth, number_named}
use Rattle.eo_sexp.specs.Sexp.{Sexp}
use Rattle.eo_shape.specs.Shapes as shapes
use Rattle.eo_shape.specs.Shapes.{StepShape, Command, command_of}
use Rattle.eo_sig.specs.Signature.{rule_named}
use Rattle.eo_term.specs.Tree.{Tree}
use Rattle.eo_session.specs.Decisions.{placed_decision}
use Rattle.eo_session.specs.Effects as effects
use Rattle.eo_session.specs.Effects.{Effect}
use Rattle.eo_session.specs.Origin.{Origin}
use Rattle.eo_session.specs.State.{State}
use Rattle.eo_session.specs.Step.{is_in_reference, values}
use Rattle.eo_session.specs.declared.Next.{Next}

-- A use of a rule: the rule's number, the numbers of the commands that made the premises, the values of the arguments, and what is concluded.
pub record StepNote : Type 0 where
  pub rule : ℕ
  pub premises : List ℕ
  pub arguments : List Tree
  pub fact : Tree

-- What a command does. A declaration or a macro that repeats one of the reference file does nothing.
pub data Act : Type 0 where
  Declares : Act
  Defines : Act
  Asserts : (formula : Tree) → Act
  Assumes : (formula : Tree) → Act
  Opens : (formula : Tree) → Act
  Derives : (step : StepNote) → Act
  Closes : (step : StepNote) → Act
  Other : Act

-- An accepted command: its bytes and its place, how many commands were accepted before it, whether it is in a reference file, how many scopes are open before it, and what it does.
pub record Seen : Type 0 where
  pub bytes : List ℕ
  pub place : Place
  pub number : ℕ
  pub from_reference : Bool
  pub depth : ℕ
  pub act : Act

-- the number of the command that made the fact of this name
abbrev pub number_of : State → List ℕ → ℕ
number_of st name = unwrap_or (number_named st.scopes name) 0

abbrev pub numbers_of : State → List (List ℕ) → List ℕ
numbers_of st names = map (number_of st) names

-- the rule of this name
abbrev pub rule_of : State → List ℕ → ℕ
rule_of st name = unwrap_or (rule_named st.signature name) 0

-- the values, where there are some
abbrev pub found : Checked (List Tree) → List Tree
found (Ok ts) = ts
found (Err fault) = []

abbrev pub step_note : State → StepShape → Tree → StepNote
step_note st s t = record { rule = rule_of st s.rule; premises = numbers_of st s.premises; arguments = found (values st s.arguments); fact = t }

-- a fact comes of a step, of one that closes a scope, or of an assumption
abbrev pub fact_act : State → Command → Tree → Act
fact_act st (shapes.Step shape) t = Derives (step_note st shape t)
fact_act st (shapes.StepPop shape) t = Closes (step_note st shape t)
fact_act st command t = Assumes t

-- what a command does whose effect is this
abbrev pub act_of : State → Command → Effect → Act
act_of st command (effects.Declares entry) = Declares
act_of st command (effects.Defines m) = Defines
act_of st command (effects.Asserts t names) = Asserts t
act_of st command (effects.Opens name t) = Opens t
act_of st command (effects.Adds name k closes) = fact_act st command k.formula
act_of st command effects.Nothing = Other

abbrev pub seen_of : State → Origin → (bytes : List ℕ) → Place → Command → Effect → Seen
seen_of st from bytes place command e = record {
  bytes = bytes;
  place = place;
  number = st.commands;
  from_reference = is_in_reference from;
  depth = depth st.scopes;
  act = act_of st command e;
}

-- what is seen of what is decided: nothing of a command that is refused
abbrev pub seen_by : State → Origin → (bytes : List ℕ) → Place → Command → Checked (Effect × Next) → List Seen
seen_by st from bytes place command (Ok r) = seen_of st from bytes place command r.0 ∷ []
seen_by st from bytes place command (Err fault) = []

abbrev pub shown_by : State → Origin → (bytes : List ℕ) → Place → Checked Command → List Seen
shown_by st from bytes place (Ok command) = seen_by st from bytes place command (placed_decision st from command)
shown_by st from bytes place (Err fault) = []

-- What is seen of a command with these bytes, at this place.
unfoldable pub shown : State → Origin → (bytes : List ℕ) → Place → Sexp → List Seen
shown st from bytes place s = shown_by st from bytes place (command_of (is_in_reference from) s)
