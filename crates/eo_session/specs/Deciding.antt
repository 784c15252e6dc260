-- What is decided of a command, with numbers of terms.
use Rattle.std.specs.Prelude.{◌≡◌, ℕ, ◌<◌, true, false, Contains, List, length, Result, Ok, Err}
use Rattle.eo_base.specs.Answers.{IsGiven}
use Rattle.eo_base.specs.Checks.{Checked}
use Rattle.eo_elab.specs.Fitting.{macro_is_bound}
use Rattle.eo_elab.specs.Worlds.{named_terms_in}
use Rattle.eo_eval.specs.Outcomes.{IsValueOf}
use Rattle.eo_proof.specs.Scopes.{depth, scope_limit, is_live}
use Rattle.eo_names.specs.Names.{Binding, BindingsBelow}
use Rattle.eo_sig.specs.Adding.{EntryIsFree, EntryIsOrdered, EntryIsSound}
use Rattle.eo_sig.specs.Reading.{constants_of, EntryBelow, MacroBelow, IsFree, read_entry, read_macro}
use Rattle.eo_sig.specs.declared.records.Declared.{Declared}
use Rattle.eo_sig.specs.declared.records.Declared.TheVariants as declared
use Rattle.eo_sig.specs.declared.records.MacroDecl.{MacroDecl}
use Rattle.eo_term.specs.Growth.{tree_in}
use Rattle.eo_term.specs.Terms.{Terms}
use Rattle.eo_term.specs.Tree.{Tree}
use Rattle.eo_session.specs.Asserting.{MayBeNames}
use Rattle.eo_session.specs.State.{State, is_in_scope}
use Rattle.eo_session.specs.Step.{is_free_fact}
use Rattle.eo_session.specs.Effects.{Effect, Declares, Defines, Asserts, Opens, Adds, Nothing, closed_if, trees_of}
use Rattle.eo_session.specs.Store.{state_of, next_constant}
use Rattle.eo_session.specs.Stepping.{Refuses}
use Rattle.eo_session.specs.Using.{read_conclusion}
use Rattle.eo_session.specs.declared.Next.{Next}
use Rattle.eo_session.specs.declared.effects.Decided.{Decided}
use Rattle.eo_session.specs.declared.effects.Effect as code
use Rattle.eo_session.specs.declared.effects.Effect.TheVariants as effect
use Rattle.eo_session.specs.declared.store.Store.{Store}
use Rattle.eo_session.specs.declared.refused.Refused.{Refused}
use Rattle.eo_session.specs.declared.steps.Conclusion.{Conclusion}

abbrev pub read_effect : Terms → code.Effect → Effect
read_effect t (effect.Declare d) = Declares (read_entry t.trees d)
read_effect t (effect.Define d) = Defines (read_macro t.trees d)
read_effect t (effect.Assert i names) = Asserts (tree_in t i) (named_terms_in t names)
read_effect t (effect.Open name i) = Opens name.now (tree_in t i)
read_effect t (effect.Add name k closes) = Adds name.now (read_conclusion t k) closes
read_effect t effect.Nothing = Nothing

-- the trees that it adds to what is held
abbrev pub trees_in : Store → code.Effect → List Tree
trees_in h e = trees_of (length (constants_of h.signature)) (read_effect h.table e)

-- ---- what may be committed

-- a declaration without a fault, by a name that is free, outside all scopes
pub record MayDeclare (h : Store) (d : Declared) : Type 0 where
  pub below : EntryBelow (length h.table.trees) d
  pub free : EntryIsFree h.signature d
  pub sound : EntryIsSound h.table.trees h.signature d
  pub ordered : EntryIsOrdered h.table.trees d
  pub outside : is_in_scope (state_of h) ≡ false

-- a formula, and names that may be those of macros, outside all scopes
pub record MayAssert (h : Store) (i : ℕ) (names : List Binding) : Type 0 where
  pub live : i < length h.table.trees
  pub below : BindingsBelow (length h.table.trees) names
  pub new : MayBeNames (state_of h) (named_terms_in h.table names)
  pub outside : is_in_scope (state_of h) ≡ false

-- a macro by a name that is free
pub record MayDefine (h : Store) (d : MacroDecl) : Type 0 where
  pub below : MacroBelow (length h.table.trees) d
  pub free : IsFree h.signature d.name
  pub bound : macro_is_bound (read_macro h.table.trees d) ≡ true

-- one more scope, whose assumption is a value by a name that is free
pub record MayOpen (h : Store) (name : List ℕ) (i : ℕ) : Type 0 where
  pub value : IsValueOf h.table i
  pub few : depth (state_of h).scopes < scope_limit
  pub free : is_live (state_of h).scopes name ≡ false

-- a fact, which is a value by a name that is free in this state
pub record MayAdd (h : Store) (st : State) (name : List ℕ) (k : Conclusion) : Type 0 where
  pub value : IsValueOf h.table k.formula
  pub free : is_free_fact st name ≡ true

-- the scope that it closes is closed, if it closes one
abbrev pub MayPut : Store → code.Effect → Type 0
MayPut h (effect.Declare d) = MayDeclare h d
MayPut h (effect.Define d) = MayDefine h d
MayPut h (effect.Assert i names) = MayAssert h i names
MayPut h (effect.Open name i) = MayOpen h name.now i
MayPut h (effect.Add name k closes) = MayAdd h (state_of h) name.now k
MayPut h effect.Nothing = Unit {0}

abbrev pub MayCommit : Store → code.Effect → Type 0
MayCommit h (effect.Declare d) = MayDeclare h d
MayCommit h (effect.Define d) = MayDefine h d
MayCommit h (effect.Assert i names) = MayAssert h i names
MayCommit h (effect.Open name i) = MayOpen h name.now i
MayCommit h (effect.Add name k closes) = MayAdd h (closed_if closes (state_of h)) name.now k
MayCommit h effect.Nothing = Unit {0}

-- a constant that is declared next is a term of the table
abbrev pub EntryIsThere : Store → Declared → Type 0
EntryIsThere h (declared.Const d n) = Contains h.table.trees (next_constant h)
EntryIsThere h (declared.Program d) = Unit {0}
EntryIsThere h (declared.Rule d) = Unit {0}
EntryIsThere h (declared.Literal class t) = Unit {0}

abbrev pub HoldsItself : Store → code.Effect → Type 0
HoldsItself h (effect.Declare d) = EntryIsThere h d
HoldsItself h (effect.Define d) = Unit {0}
HoldsItself h (effect.Assert i names) = Unit {0}
HoldsItself h (effect.Open name i) = Unit {0}
HoldsItself h (effect.Add name k closes) = Unit {0}
HoldsItself h effect.Nothing = Unit {0}

-- ---- what is decided

-- The definition gives this effect, which may be committed, or the first fault.
abbrev pub Decides : Store → Result code.Effect Refused → Checked Effect → Type 0
Decides h (Ok e) m = IsGiven (MayCommit h) (read_effect h.table) m e
Decides h (Err x) m = Refuses m x

-- It gives what is done next, too.
abbrev pub DecidesNext : Store → Result Decided Refused → Checked (Effect × Next) → Type 0
DecidesNext h (Ok d) m = IsGiven (λ (d : Decided). MayCommit h d.effect) (λ d. (read_effect h.table d.effect, d.next)) m d
DecidesNext h (Err x) m = Refuses m x
