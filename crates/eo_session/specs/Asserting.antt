-- What a session does with an assertion, with numbers of terms.
use Rattle.std.specs.Prelude.{◌≡◌, ℕ, length, true, List, [], ◌∷◌, ◌++◌, Result, Ok, Err}
use Rattle.eo_base.specs.Answers.{IsGiven}
use Rattle.eo_base.specs.Checks.{Checked}
use Rattle.eo_elab.specs.Fitting.{named_term_is_closed}
use Rattle.eo_elab.specs.Meaning.{means}
use Rattle.eo_names.specs.Contexts.{InAssert}
use Rattle.eo_names.specs.Readers.{NamedTerm}
use Rattle.eo_ref.specs.Answers.{AssertionBelow}
use Rattle.eo_ref.specs.Answers as given
use Rattle.eo_ref.specs.declared.Assertion.{Assertion}
use Rattle.eo_sexp.specs.Sexp.{Sexp}
use Rattle.eo_sig.specs.Signature.{Signature, Macro, is_free}
use Rattle.eo_term.specs.Growth.{tree_in}
use Rattle.eo_term.specs.Tree.{Tree}
use Rattle.eo_session.specs.State.{State, context_in}
use Rattle.eo_session.specs.Step.{named_term_macro}
use Rattle.eo_session.specs.Stepping.{Refuses}
use Rattle.eo_session.specs.declared.store.Store.{Store}
use Rattle.eo_session.specs.declared.refused.Refused.{Refused}

-- the formula of an assertion, and the names of its terms
abbrev pub read_assertion : State → Sexp → Checked (Tree × List NamedTerm)
read_assertion st s = means (context_in st InAssert) [] s []

-- it is given with ids, or what refuses it
abbrev pub GivesAssertion : Store → Result Assertion Refused → Checked (Tree × List NamedTerm) → Type 0
GivesAssertion h (Ok a) m = IsGiven (λ (a : Assertion). AssertionBelow (length h.table.trees) a.formula a.names) (given.read_assertion h.table) m a
GivesAssertion h (Err e) m = Refuses m e

-- the name may be that of a macro, and its tree has no parameters
pub record IsNew (S : Signature) (ms : List Macro) (l : NamedTerm) : Type 0 where
  pub free : is_free S ms l.name ≡ true
  pub closed : named_term_is_closed l ≡ true

-- so it is of each, once those before it are macros
abbrev pub AreNew : Signature → List Macro → List NamedTerm → Type 0
AreNew S ms [] = Unit {0}
AreNew S ms (l ∷ ls) = IsNew S ms l × AreNew S (ms ++ named_term_macro l ∷ []) ls

abbrev pub MayBeName : State → NamedTerm → Type 0
MayBeName st l = IsNew st.signature st.macros l

abbrev pub MayBeNames : State → List NamedTerm → Type 0
MayBeNames st ls = AreNew st.signature st.macros ls

-- a name for a term
abbrev pub named_term : Store → List ℕ → ℕ → NamedTerm
named_term h name i = record { name = name; tree = tree_in h.table i }
