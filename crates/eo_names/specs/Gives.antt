-- What calls return, by the definitions: terms of a table, or the fault.
use Rattle.std.specs.Prelude.{◌≡◌, ℕ, suc, ◌-◌, ◌<◌, List, [], length, Result, Ok, Err, ◌++◌}
use Rattle.std.specs.List.{list_any}
use Rattle.eo_base.specs.Answers.{Gives, Tells}
use Rattle.eo_base.specs.Checks.{Checked}
use Rattle.eo_sig.specs.declared.records.Attribute.{Attribute}
use Rattle.eo_term.specs.declared.table.TermRefused.{TermRefused}
use Rattle.eo_term.specs.Builds.{OrTall, AreTerms}
use Rattle.eo_term.specs.Growth.{tree_in, trees_in}
use Rattle.eo_term.specs.Terms.{Terms}
use Rattle.eo_term.specs.Tree.{Tree, is_tall}
use Rattle.eo_names.specs.declared.folding.Turn.{Turn}
use Rattle.eo_names.specs.declared.refused.ElabRefused.{ElabRefused}
use Rattle.eo_names.specs.declared.scope.Scope.{Scope}
use Rattle.eo_names.specs.Refused.{told}
use Rattle.eo_names.specs.Grouped.{if_low}
use Rattle.eo_names.specs.Turns.{after, TurnBelow, is_tall_turn}
use Rattle.eo_names.specs.Worlds.{World, Read, turns_in, turned_in, grouped_in, joined_in, attributed_in}

-- ---- terms that may be too tall

-- trees after those that ids had
abbrev pub AddsAll : (old new : Terms) → (before after : List ℕ) → Result (Unit {0}) TermRefused → List Tree → Type 0
AddsAll old new before after r us = OrTall (λ (x : Unit {0}). AreTerms new (trees_in old before ++ us) after) (list_any is_tall us) r

-- the ids of these variables
abbrev pub MakesVariables : Terms → List ℕ → Result (Unit {0}) TermRefused → List Tree → Type 0
MakesVariables t is r us = OrTall (λ (x : Unit {0}). AreTerms t us is) (list_any is_tall us) r

-- what a term with an attribute makes of arguments, whatever folds what it joins
pub record IsTurnBy (t : Terms) (o : (ℕ → List Tree → Checked Tree) → Checked Tree) (turn : Turn) : Type 0 where
  pub live : TurnBelow (length t.trees) turn
  pub is : (fold_by : ℕ → List Tree → Checked Tree) → o fold_by ≡ after fold_by t.trees turn

abbrev pub BuildsTurn : (old new : Terms) → Scope → ℕ → Attribute → List ℕ → Result Turn TermRefused → Type 0
BuildsTurn old new s f a args r = OrTall (IsTurnBy new (attributed_in old s f a args)) (is_tall_turn (grouped_in old s f a args) (joined_in old f a args)) r

-- ---- what is found in a world

-- the id of a term, and the same as it is read with no label
abbrev pub GivesTree : Terms → Result ℕ ElabRefused → Checked Tree → Type 0
GivesTree t r o = Gives told (λ i. i < length t.trees) (tree_in t) r o

abbrev pub GivesTerm : Terms → Result ℕ ElabRefused → Read Tree → Type 0
GivesTerm t r o = Gives told (λ i. i < length t.trees) (λ i. (tree_in t i, [])) r o

-- what a constant makes of arguments in one turn, before the turns that follow
pub record IsTurn (w : World) (t : Terms) (k : ℕ) (us : List Tree) (turn : Turn) : Type 0 where
  pub live : TurnBelow (length t.trees) turn
  pub is : (turns : ℕ) → turns_in w (suc turns) k us ≡ after (turns_in w turns) t.trees turn

abbrev pub GivesTurn : World → Terms → Result Turn ElabRefused → ℕ → List Tree → Type 0
GivesTurn w t (Ok turn) k us = IsTurn w t k us turn
GivesTurn w t (Err e) k us = (turns : ℕ) → Tells told e (turned_in w (suc turns) k us)

-- what a constant makes of arguments where so many turns are left, before the turns that follow
pub record IsTakenTurn (w : World) (t : Terms) (left k : ℕ) (us : List Tree) (turn : Turn) : Type 0 where
  pub live : TurnBelow (length t.trees) turn
  pub is : if_low (turns_in w left k us) ≡ if_low (after (turns_in w (left - 1)) t.trees turn)

abbrev pub TakesTurn : World → Terms → ℕ → Result Turn ElabRefused → ℕ → List Tree → Type 0
TakesTurn w t left (Ok turn) k us = IsTakenTurn w t left k us turn
TakesTurn w t left (Err e) k us = Tells told e (turned_in w left k us)
