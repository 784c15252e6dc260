-- What a session does with a command.
use Rattle.std.specs.Prelude.{◌≡◌, ◌≢◌, ℕ, ◌<◌, length, Bool, true, false, Option, Some, None, Result, Ok, Err, ⊤}
use Rattle.eo_base.specs.declared.FaultName.{FaultName}
use Rattle.eo_base.specs.declared.FaultName.TheVariants as fault
use Rattle.eo_base.specs.Answers.{Tells, IsGiven}
use Rattle.eo_base.specs.Checks.{Checked}
use Rattle.eo_names.specs.declared.refused.ElabRefused.{ElabRefused}
use Rattle.eo_names.specs.declared.refused.ElabRefused.TheVariants as elab
use Rattle.eo_sig.specs.declared.refused.SigRefused.{SigRefused}
use Rattle.eo_sig.specs.declared.refused.SigRefused.TheVariants as sig
use Rattle.eo_eval.specs.Outcomes.{IsValueOf}
use Rattle.eo_sig.specs.Reading.{Kept, signature, macros, IsBelow}
use Rattle.eo_proof.specs.declared.facts.FactRefused.{FactRefused}
use Rattle.eo_proof.specs.declared.facts.FactRefused.TheVariants as fact
use Rattle.eo_rule.specs.declared.refused.RuleRefused.{RuleRefused}
use Rattle.eo_rule.specs.declared.refused.RuleRefused.TheVariants as rule
use Rattle.eo_term.specs.Growth.{tree_in}
use Rattle.eo_term.specs.Terms.{Terms}
use Rattle.eo_term.specs.Tree.{Tree, Con, tree_eq}
use Rattle.eo_session.specs.State.{State, first_state}
use Rattle.eo_session.specs.Store.{state_of}
use Rattle.eo_session.specs.Roots.{live_count}
use Rattle.eo_session.specs.declared.Next.{Next}
use Rattle.eo_session.specs.declared.store.Store.{Store}
use Rattle.eo_session.specs.declared.session.EndAnswer.{EndAnswer}
use Rattle.eo_session.specs.declared.session.EndAnswer.TheVariants as end
use Rattle.eo_session.specs.declared.refused.Refused.{Refused}
use Rattle.eo_session.specs.declared.refused.Refused.TheVariants as refused

abbrev pub IsMemory : Refused → Type 0
IsMemory (refused.Fault name) = ⊥
IsMemory refused.Ended = ⊥
IsMemory (refused.Memory e) = ⊤

-- the refusal of a term or a declaration
abbrev pub of_elab : ElabRefused → Refused
of_elab elab.BadLiteral = refused.Fault fault.BadLiteral
of_elab elab.BadCommand = refused.Fault fault.BadCommand
of_elab elab.Redeclared = refused.Fault fault.Redeclared
of_elab elab.UnknownSymbol = refused.Fault fault.UnknownSymbol
of_elab elab.BadArity = refused.Fault fault.BadArity
of_elab elab.Tall = refused.Fault fault.TermHeight
of_elab elab.Parameters = refused.Fault fault.Parameters
of_elab elab.BadPattern = refused.Fault fault.BadPattern
of_elab (elab.Memory e) = refused.Memory e

-- the refusal of a declaration
abbrev pub of_sig : SigRefused → Refused
of_sig sig.Redeclared = refused.Fault fault.Redeclared
of_sig sig.BadPattern = refused.Fault fault.BadPattern
of_sig sig.UnboundParam = refused.Fault fault.UnboundParam
of_sig (sig.Memory e) = refused.Memory e

-- the refusal of a fact or a scope
abbrev pub of_fact : FactRefused → Refused
of_fact fact.Redeclared = refused.Fault fault.Redeclared
of_fact fact.ScopeDepth = refused.Fault fault.ScopeDepth
of_fact (fact.Memory e) = refused.Memory e

-- the refusal of a use of a rule, or of a value or a type
abbrev pub of_rule : RuleRefused → Refused
of_rule (rule.Fault name) = refused.Fault name
of_rule (rule.Memory e) = refused.Memory e

-- the fault of a refusal; out of memory is none, nor is an ended session
abbrev pub told : Refused → Option FaultName
told (refused.Fault name) = Some name
told refused.Ended = None
told (refused.Memory e) = None

-- a refusal of a command by itself: a fault, but none of an absent file, or out of memory
abbrev pub IsOfCommand : Refused → Type 0
IsOfCommand (refused.Fault name) = name ≢ fault.FileAbsent
IsOfCommand refused.Ended = ⊥
IsOfCommand (refused.Memory e) = ⊤

-- The fault that is returned is that of the definition; out of memory may come at any time.
abbrev pub Refuses : {A : Type 0} → Checked A → Refused → Type 0
Refuses m e = Tells told e m × IsOfCommand e

-- the id of the term that is found, or what refuses it
abbrev pub GivesTerm : Store → Result ℕ Refused → Checked Tree → Type 0
GivesTerm h (Ok i) m = IsGiven (λ (i : ℕ). i < length h.table.trees) (tree_in h.table) m i
GivesTerm h (Err e) m = Refuses m e

-- a type was found, and whether it is the constant of this number
abbrev pub GivesKind : ℕ → Result Bool Refused → Checked Tree → Type 0
GivesKind number (Ok b) m = (k : Tree) × (m ≡ Ok k) × (tree_eq k (Con number) ≡ b)
GivesKind number (Err e) m = Refuses m e

-- What is held is in the state that the definition gives.
abbrev pub Updates : Result (Unit {0}) Refused → Checked State → Store → Type 0
Updates (Ok x) m new = m ≡ Ok (state_of new)
Updates (Err e) m new = Refuses m e

-- what is found, or what refuses it
abbrev pub Gives : {A : Type 0} → Result A Refused → Checked A → Type 0
Gives (Ok x) m = m ≡ Ok x
Gives (Err e) m = Refuses m e

-- What is held is in the state that the definition gives, and what is done next is returned.
abbrev pub UpdatesNext : Result Next Refused → Checked (State × Next) → Store → Type 0
UpdatesNext (Ok what) m new = m ≡ Ok (state_of new, what)
UpdatesNext (Err e) m new = Refuses m e

-- A session: whether it is ended, its state, and the terms that its table has.
pub record Standing : Type 0 where
  pub ended : Bool
  pub state : State
  pub terms : Terms

-- a session before its first command
pub record IsNew (closed : Bool) (s : Standing) : Type 0 where
  pub going : s.ended ≡ false
  pub state : s.state ≡ first_state closed

-- the table has no terms but those that are alive
abbrev pub IsAlive : Standing → Type 0
IsAlive s = length s.terms.trees ≡ live_count s.state

-- A session that is not ended is in the state after the command, or is ended by its first fault or by being out of memory.
abbrev pub Steps : Result (Unit {0}) Refused → Checked State → (old new : Standing) → Type 0
Steps (Ok x) m old new = (old.ended ≡ false) × (m ≡ Ok new.state) × (new.ended ≡ false)
Steps (Err (refused.Fault name)) m old new = (old.ended ≡ false) × (m ≡ Err name) × (new.ended ≡ true)
Steps (Err refused.Ended) m old new = (old.ended ≡ true) × (new.ended ≡ true)
Steps (Err (refused.Memory e)) m old new = (old.ended ≡ false) × (new.ended ≡ true)

-- the same of a command, which returns what is done next
abbrev pub StepsTo : Result Next Refused → Checked (State × Next) → (old new : Standing) → Type 0
StepsTo (Ok what) m old new = (old.ended ≡ false) × (m ≡ Ok (new.state, what)) × (new.ended ≡ false)
StepsTo (Err (refused.Fault name)) m old new = (old.ended ≡ false) × (m ≡ Err name) × (new.ended ≡ true)
StepsTo (Err refused.Ended) m old new = (old.ended ≡ true) × (new.ended ≡ true)
StepsTo (Err (refused.Memory e)) m old new = (old.ended ≡ false) × (new.ended ≡ true)

-- ---- the value of a name

-- The value is found, and is this term of the table.
pub record IsFound (m : Checked Tree) (old new : Standing) (i : ℕ) : Type 0 where
  pub going : old.ended ≡ false
  pub goes_on : new.ended ≡ false
  pub is : m ≡ Ok (tree_in new.terms i)
  pub value : IsValueOf new.terms i

-- A session that is not ended has the value, or is ended by the fault, or by being out of memory.
abbrev pub GivesValue : Result ℕ Refused → Checked Tree → (old new : Standing) → Type 0
GivesValue (Ok i) m old new = IsFound m old new i
GivesValue (Err (refused.Fault name)) m old new = (old.ended ≡ false) × (m ≡ Err name) × (new.ended ≡ true)
GivesValue (Err refused.Ended) m old new = (old.ended ≡ true) × (new.ended ≡ true)
GivesValue (Err (refused.Memory e)) m old new = (old.ended ≡ false) × (new.ended ≡ true)

-- what is declared, over the terms of the table
pub record IsSignatureOf (s : Standing) (k : Kept) : Type 0 where
  pub signature : signature s.terms.trees k ≡ s.state.signature
  pub macros : macros s.terms.trees k ≡ s.state.macros
  pub below : IsBelow (length s.terms.trees) k

-- ---- the end

-- what is wrong at the end, if anything, or whether a step used a rule that is marked as unproved
abbrev pub EndsWith : Option FaultName → (sorry : Bool) → EndAnswer → Type 0
EndsWith fault sorry end.Correct = (fault ≡ None) × (sorry ≡ false)
EndsWith fault sorry end.Incomplete = (fault ≡ None) × (sorry ≡ true)
EndsWith fault sorry (end.Fault name) = fault ≡ Some name
