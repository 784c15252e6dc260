-- What calls say of a table that they take with a signature over it, and of a signature that gets longer.
use Rattle.std.specs.Prelude.{◌≡◌, ℕ, ◌++◌, length, Some}
use Rattle.eo_sig.specs.declared.records.ConstDecl.{ConstDecl}
use Rattle.eo_sig.specs.Reading.{Kept, Stays, IsBelow, ConstBelow, read_constant}
use Rattle.eo_lit.specs.declared.LiteralClass.{LiteralClass}
use Rattle.eo_sig.specs.Signature.{Signature, Constant, Program, Rule, constant_at, program_at, rule_at, literal_type}
use Rattle.eo_term.specs.Growth.{Grows}
use Rattle.eo_term.specs.Terms.{Terms, Since}
use Rattle.eo_term.specs.Tree.{Tree}

-- the table has grown under a signature, which has stayed what it was
pub record GrowsUnder (k : Kept) (old new : Terms) : Type 0 where
  pub table : Grows old new
  pub stays : Stays k old.trees new.trees

-- a signature whose terms are there stays what it was where the table has grown
abbrev pub StaysUnder : Kept → Type 0
StaysUnder k = (old new : Terms) → IsBelow (length old.trees) k → Grows old new → GrowsUnder k old new

-- the same by what the table holds
abbrev pub StaysSince : Kept → Type 0
StaysSince k = (old new : Terms) → IsBelow (length old.trees) k → Since old new → Stays k old.trees new.trees

-- a constant whose terms are there is the same constant where the table has grown
abbrev pub Lasts : ConstDecl → Type 0
Lasts d = (old new : Terms) → ConstBelow (length old.trees) d → Since old new → read_constant new.trees d ≡ read_constant old.trees d

-- what is declared is there still where more is declared
pub record Continues (now later : Signature) : Type 0 where
  pub constant : (k : ℕ) (c : Constant) → constant_at now k ≡ Some c → constant_at (now ++ later) k ≡ Some c
  pub program : (k : ℕ) (p : Program) → program_at now k ≡ Some p → program_at (now ++ later) k ≡ Some p
  pub rule : (k : ℕ) (r : Rule) → rule_at now k ≡ Some r → rule_at (now ++ later) k ≡ Some r
  pub literal : (class : LiteralClass) (t : Tree) → literal_type now class ≡ Some t → literal_type (now ++ later) class ≡ Some t
