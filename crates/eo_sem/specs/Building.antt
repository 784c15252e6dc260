-- The trees and the declarations of the suite, in short words.
use Rattle.std.specs.Prelude.{ℕ, true, false, List, [], Some, None}
use Rattle.eo_term.specs.declared.OpName.{OpName}
use Rattle.eo_term.specs.declared.OpCode.{OpCode}
use Rattle.eo_term.specs.Tree.{Tree, Con, Op, bool_tree, to_trees}
use Rattle.eo_sig.specs.Signature.{Parameter, Attribute, Constant, Case, Rule, SignatureEntry, IsConstant, Each, Joined, counts_of}

-- ---- trees

-- `Int`, `String` and `@List`
abbrev pub int : Tree
int = Con 4

abbrev pub string : Tree
string = Con 5

abbrev pub list : Tree
list = Con 16

abbrev pub operator : OpName → List Tree → Tree
operator o ts = Op (OpCode.Builtin o) (to_trees ts)

abbrev pub call : (program : ℕ) → List Tree → Tree
call p ts = Op (OpCode.Prog p) (to_trees ts)

-- ---- parameters

abbrev pub parameter : List ℕ → Tree → Parameter
parameter name t = record { name = name; type = t; implicit = false; list = false }

abbrev pub implicit : List ℕ → Tree → Parameter
implicit name t = record { name = name; type = t; implicit = true; list = false }

abbrev pub item_list : List ℕ → Tree → Parameter
item_list name t = record { name = name; type = t; implicit = false; list = true }

abbrev pub formula : List ℕ → Parameter
formula name = parameter name bool_tree

abbrev pub items : List ℕ → Parameter
items name = item_list name bool_tree

-- ---- declarations

-- with the numbers of arguments that it takes
abbrev pub counted : Constant → SignatureEntry
counted c = IsConstant c (counts_of c)

abbrev pub constant : List ℕ → List Parameter → Tree → Attribute → SignatureEntry
constant name parameters t a = counted (record { name = name; parameters = parameters; type = t; attribute = a; from_reference = false })

abbrev pub case : List Tree → Tree → Case
case ps b = record { patterns = ps; body = b }

-- by its premises, its arguments and its conclusion
abbrev pub rule : List ℕ → List Parameter → (premises arguments : List Tree) → (conclusion : Tree) → Rule
rule name parameters ps given c =
    record { name = name; parameters = parameters; assumed = None; premises = Each ps; arguments = given; requirements = []; conclusion = c; sorry = false }

-- whose premises are joined by a constant
abbrev pub joining : List ℕ → List Parameter → (pattern : Tree) → (joiner : ℕ) → (arguments : List Tree) → (conclusion : Tree) → Rule
joining name parameters p f given c =
    record { name = name; parameters = parameters; assumed = None; premises = Joined p f; arguments = given; requirements = []; conclusion = c; sorry = false }

-- that discharges an assumption
abbrev pub discharging : List ℕ → List Parameter → (assumed : Tree) → (premises : List Tree) → (conclusion : Tree) → Rule
discharging name parameters a ps c =
    record { name = name; parameters = parameters; assumed = Some a; premises = Each ps; arguments = []; requirements = []; conclusion = c; sorry = false }
