-- The value of a name, and what ends a session that is asked for it.
use Rattle.std.proofs.Common.{◌≡◌, refl, Bool, false, true, ℕ, List, sym, ap, ◌∙◌}
use Rattle.std.specs.Prelude.{Option, Some, None, Err}
use Rattle.eo_base.specs.declared.FaultName.TheVariants.{UnknownSymbol}
use Rattle.eo_base.specs.Checks.{Checked, ◌>>=◌, value_or}
use Rattle.eo_sig.specs.Signature.{lookup}
use Rattle.eo_term.specs.Tree.{Tree}
use Rattle.eo_session.specs.Roots.{live_count, roots}
use Rattle.eo_session.specs.State.{State}
use Rattle.eo_session.specs.Step.{evaluated, value_named, macro_tree}
use Rattle.eo_session.specs.Stepping.{Refuses, GivesValue, Standing}
use Rattle.eo_session.specs.declared.refused.Refused.{Refused}
use Rattle.eo_session.specs.declared.refused.Refused.TheVariants as refused

module _ (st : State) (name : List ℕ) where
  abbrev by_tree : Option Tree → Checked Tree
  by_tree o = value_or UnknownSymbol o >>= evaluated st

  pub named-none : None ≡ macro_tree st.macros (lookup st.signature st.macros name) → value_named st name ≡ Err UnknownSymbol
  unfolding value_named value_or ◌>>=◌
  named-none e = ap by_tree (sym e)

  pub named-is : (t : Tree) → Some t ≡ macro_tree st.macros (lookup st.signature st.macros name) → value_named st name ≡ evaluated st t
  unfolding value_named value_or ◌>>=◌
  named-is t e = ap by_tree (sym e)

-- how many terms are alive does not depend on how many commands there were, or whether there is a reference file
module _ (st : State) where
  pub counted-alike : (k : ℕ) → live_count (record st { commands = k }) ≡ live_count st
  unfolding live_count roots
  counted-alike k = refl

  pub begun-alike : (b : Bool) → live_count (record st { has_reference = b }) ≡ live_count st
  unfolding live_count roots
  begun-alike b = refl

-- a refusal is that of a value, which is the same of what is the same
pub value-refused : (x : Refused) (m n : Checked Tree) (old new : Standing) → old.ended ≡ false → new.ended ≡ true → n ≡ m → Refuses m x → GivesValue (Err x) n old new
value-refused (refused.Fault name) m n old new going ended same h = (going, same ∙ h.0, ended)
value-refused refused.Ended m n old new going ended same h = absurd h.1
value-refused (refused.Memory e) m n old new going ended same h = (going, ended)
