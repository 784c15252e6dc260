-- What commands that declare programs declare.
use Rattle.std.specs.Prelude.{◌≡◌, refl, ℕ, true, false, List, [], ◌∷◌, ◌++◌, Ok, Err, codes}
use Rattle.eo_base.specs.Checks.{Checked, ◌>>=◌, require, no_fault, value_or}
use Rattle.eo_base.specs.declared.FaultName.TheVariants.{BadCommand, Redeclared, UnknownSymbol, BadArity}
use Rattle.eo_lit.specs.Literals.{literal_value, string_value}
use Rattle.eo_shape.specs.Shapes.{command_of}
use Rattle.eo_sig.specs.Signature.{IsProgram, Parameter, Program, first_signature}
use Rattle.eo_term.specs.declared.OpCode.{OpCode}
use Rattle.eo_term.specs.Tree.{Tree, Con, Par, Op, to_trees, bool_tree, truth}
use Rattle.eo_term.specs.Operators.{operator_named}
use Rattle.eo_names.specs.Folding.{folded}
use Rattle.eo_names.specs.Contexts.{Context, InProof, Several}
use Rattle.eo_elab.specs.Meaning.{means, meaning, atom}
use Rattle.eo_declare.specs.Declarations.{Declaration, AProgram, meanings, declared_case, declared_cases, declared_program, declaration}
use Rattle.eo_declare.specs.Declaring.{declared}
use Rattle.eo_elab.proofs.Texts.{sexp_of}

-- a program f that is declared
abbrev f : Program
f = record { name = codes "f"; parameters = []; inputs = bool_tree ∷ []; output = bool_tree; cases = [] }

abbrev context : Context
context = record { signature = first_signature ++ IsProgram f ∷ []; macros = []; file_kind = InProof; naming = Several }

abbrev from : List ℕ → Checked Declaration
from text = declared context (sexp_of text)

-- the definitions that compute a declaration
opened : Tree
unfolding ◌>>=◌ require no_fault value_or means meaning atom folded operator_named literal_value string_value sexp_of
    command_of meanings declared_case declared_cases declared_program declaration
opened = Con 0

abbrev x : Parameter
x = record { name = codes "x"; type = bool_tree; implicit = false; list = false }

abbrev call : ℕ → Tree → Tree
call k t = Op (OpCode.Prog k) (to_trees (t ∷ []))

-- in its cases its name means it, by the number that it will have
own_name : from (codes "(program g ((x Bool)) :signature (Bool) Bool (((g x) (g x)) ((g true) (f x))))")
    ≡ Ok (AProgram (record {
      name = codes "g";
      parameters = x ∷ [];
      inputs = bool_tree ∷ [];
      output = bool_tree;
      cases = record { patterns = Par 0 ∷ []; body = call 1 (Par 0) } ∷ record { patterns = truth true ∷ []; body = call 0 (Par 0) } ∷ [];
    }))
unfolding opened
own_name = refl

-- and not in its types
no_type : from (codes "(program g () :signature ((g Bool)) Bool ())") ≡ Err UnknownSymbol
unfolding opened
no_type = refl

taken : from (codes "(program f () :signature (zz) Bool ())") ≡ Err Redeclared
unfolding opened
taken = refl

other_head : from (codes "(program f ((x Bool)) :signature (Bool) Bool (((g x) x)))") ≡ Err BadCommand
unfolding opened
other_head = refl

no_inputs : from (codes "(program f () :signature () Bool ())") ≡ Err BadCommand
unfolding opened
no_inputs = refl

few_patterns : from (codes "(program g () :signature (Bool) Bool (((g) zz)))") ≡ Err BadArity
unfolding opened
few_patterns = refl
