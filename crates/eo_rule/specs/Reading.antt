-- A use of a rule as the program has it, over the terms of a table.
use Rattle.std.specs.Prelude.{◌≡◌, ℕ, ◌<◌, List, length, map, All, option_map}
use Rattle.eo_base.specs.Checks.{Checked}
use Rattle.eo_term.specs.Terms.{Terms, tree_at}
use Rattle.eo_term.specs.Tree.{Tree}
use Rattle.eo_sig.specs.declared.records.RuleDecl.{RuleDecl}
use Rattle.eo_sig.specs.Reading.{Kept, RuleBelow, SomeBelow, read_rule, signature}
use Rattle.eo_sig.specs.Usable.{IsUsable}
use Rattle.eo_type.specs.Known.{Fit}
use Rattle.eo_rule.specs.declared.RuleUse.{RuleUse}
use Rattle.eo_rule.specs.Uses.{Use, AreGiven, Concludes, conclusion}

-- the use over a list of trees
abbrev pub read_use : List Tree → RuleUse → Use
read_use ts u = record {
  assumed = option_map (tree_at ts) u.«assumption»;
  premises = map (tree_at ts) u.premises;
  arguments = map (tree_at ts) u.args;
  stated = option_map (tree_at ts) u.stated;
}

-- What is given are terms below n.
pub record UseBelow (n : ℕ) (u : RuleUse) : Type 0 where
  pub assumed : SomeBelow n u.«assumption»
  pub premises : All (λ i. i < n) u.premises
  pub arguments : All (λ i. i < n) u.args
  pub stated : SomeBelow n u.stated

-- the assumption, the premises and the arguments are values
abbrev pub AreValuesIn : Terms → RuleUse → Type 0
AreValuesIn t u = AreGiven (read_use t.trees u)

-- What is given are terms of the table, and the assumption, the premises and the arguments are values.
pub record IsUseOf (t : Terms) (u : RuleUse) : Type 0 where
  pub live : UseBelow (length t.trees) u
  pub values : AreValuesIn t u

-- What rules are used by: a signature that has what their uses need, a table in which all its terms are, and types that are those of their terms.
pub record Serves (k : Kept) (t : Terms) (known : List (ℕ × ℕ)) : Type 0 where
  pub usable : IsUsable (signature t.trees k)
  pub fit : Fit k t known

-- over the trees new a rule is what it was over old, and all its terms are there
pub record RuleStays (d : RuleDecl) (old new : List Tree) : Type 0 where
  pub rule : read_rule new d ≡ read_rule old d
  pub below : RuleBelow (length new) d

-- and so is a use of a rule
pub record UseStays (u : RuleUse) (old new : List Tree) : Type 0 where
  pub given : read_use new u ≡ read_use old u
  pub below : UseBelow (length new) u

-- what the rule of this number concludes, over the terms of a table
abbrev pub conclusion_in : Kept → Terms → ℕ → RuleUse → Checked Tree
conclusion_in k t number u = conclusion (signature t.trees k) number (read_use t.trees u)

-- and the formulas that it may conclude
abbrev pub ConcludesIn : Kept → Terms → ℕ → RuleUse → Tree → Type 0
ConcludesIn k t number u formula = Concludes (signature t.trees k) number (read_use t.trees u) formula
