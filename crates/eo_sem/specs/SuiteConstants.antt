-- The constants of the suite, and the types of its literals.
use Rattle.std.specs.Prelude.{pos, true, false, codes, [], ◌∷◌}
use Rattle.eo_term.specs.declared.OpName.{OpName}
use Rattle.eo_term.specs.Tree.{Con, Num, Par, App, Arr, Qar, type_tree, bool_tree, truth}
use Rattle.eo_lit.specs.declared.LiteralClass.TheVariants.{Numeral, Binary, String}
use Rattle.eo_sig.specs.Signature.{SignatureEntry, IsLiteralType, Plain, RightNil, Right, Left, Chain, Pairs, Binder}
use Rattle.eo_sem.specs.Building.{int, string, list, operator, parameter, implicit, constant}

abbrev pub constant_Int : SignatureEntry
constant_Int = constant (codes "Int") [] type_tree Plain

abbrev pub literals_numeral : SignatureEntry
literals_numeral = IsLiteralType Numeral int

abbrev pub constant_String : SignatureEntry
constant_String = constant (codes "String") [] type_tree Plain

abbrev pub literals_string : SignatureEntry
literals_string = IsLiteralType String string

abbrev pub constant_BitVec : SignatureEntry
constant_BitVec = constant (codes "BitVec") (parameter (codes "w") int ∷ []) (Qar 0 int type_tree) Plain

abbrev pub literals_binary : SignatureEntry
literals_binary = IsLiteralType Binary (App (Con 6) (operator OpName.Len (Par 0 ∷ [])))

abbrev pub constant_not : SignatureEntry
constant_not = constant (codes "not") [] (Arr bool_tree bool_tree) Plain

abbrev pub constant_and : SignatureEntry
constant_and = constant (codes "and") [] (Arr bool_tree (Arr bool_tree bool_tree)) (RightNil (truth true))

abbrev pub constant_or : SignatureEntry
constant_or = constant (codes "or") [] (Arr bool_tree (Arr bool_tree bool_tree)) (RightNil (truth false))

abbrev pub constant_implies : SignatureEntry
constant_implies = constant (codes "=>") [] (Arr bool_tree (Arr bool_tree bool_tree)) Right

abbrev pub constant_xor : SignatureEntry
constant_xor = constant (codes "xor") [] (Arr bool_tree (Arr bool_tree bool_tree)) Left

abbrev pub constant_equals : SignatureEntry
constant_equals =
    constant (codes "=") (implicit (codes "T") type_tree ∷ []) (Arr (Par 0) (Arr (Par 0) bool_tree)) (Chain 8)

abbrev pub constant_distinct : SignatureEntry
constant_distinct =
    constant (codes "distinct") (implicit (codes "T") type_tree ∷ []) (Arr (Par 0) (Arr (Par 0) bool_tree)) (Pairs 8)

abbrev pub constant_ite : SignatureEntry
constant_ite =
    constant (codes "ite") (implicit (codes "T") type_tree ∷ []) (Arr bool_tree (Arr (Par 0) (Arr (Par 0) (Par 0)))) Plain

abbrev pub constant_extract : SignatureEntry
constant_extract =
    constant (codes "extract") (implicit (codes "n") int ∷ parameter (codes "h") int ∷ parameter (codes "l") int ∷ []) (Qar 1 int (Qar 2 int (Arr (App (Con 6) (Par 0)) (App (Con 6) (operator OpName.Add ((operator OpName.Add (Par 1 ∷ Num (pos 1) ∷ [])) ∷ (operator OpName.Neg (Par 2 ∷ [])) ∷ [])))))) Plain

abbrev pub constant_list_type : SignatureEntry
constant_list_type = constant (codes "@List") [] type_tree Plain

abbrev pub constant_list_nil : SignatureEntry
constant_list_nil = constant (codes "@nil") [] list Plain

abbrev pub constant_list_cons : SignatureEntry
constant_list_cons =
    constant (codes "@list") (implicit (codes "T") type_tree ∷ []) (Arr (Par 0) (Arr list list)) (RightNil (Con 17))

abbrev pub constant_forall : SignatureEntry
constant_forall = constant (codes "forall") [] (Arr list (Arr bool_tree bool_tree)) (Binder 18)

abbrev pub constant_exists : SignatureEntry
constant_exists = constant (codes "exists") [] (Arr list (Arr bool_tree bool_tree)) (Binder 18)

abbrev pub constant_minus : SignatureEntry
constant_minus = constant (codes "-") [] (Arr int (Arr int int)) Left

abbrev pub constant_negative : SignatureEntry
constant_negative = constant (codes "-") [] (Arr int int) Plain
