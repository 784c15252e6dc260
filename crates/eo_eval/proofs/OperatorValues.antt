-- What an operator on literals gives is a value, and so is a type that has to be one.
use Rattle.std.specs.Prelude.{◌≡◌, true, false, List, [], ◌∷◌, Option, Some, None, refl}
use Rattle.std.proofs.Common.{ap, subst}
use Rattle.eo_term.proofs.Values.{truth_value}
use Rattle.eo_base.proofs.Tests.{clash}
use Rattle.eo_term.specs.declared.OpName.{OpName}
use Rattle.eo_term.specs.Tree.{Tree, truth, is_value}
use Rattle.eo_ops.specs.Operators.{Literal, Boolean, Number, BitString, Text, OpAnswer, Gives, IsStuck, IsOutOfRange, op_value, literal_tree, answer_map, kind_value, is_variable, on_literals, literals, tree_op_value}
use Rattle.eo_sig.specs.Signature.{Signature}
use Rattle.eo_type.specs.Types.{Typed, typed_if, typed_answer, type_of, value_type}
use Rattle.eo_type.proofs.SettleLemmas.{is_typed, typed_inj, typed_before, typed_if_gives}

literal_value : (l : Literal) → is_value (literal_tree l) ≡ true
literal_value (Boolean b) = truth_value b
literal_value (Number z) = refl
literal_value (BitString w n) = refl
literal_value (Text s) = refl

abbrev AnswersValue : OpAnswer Tree → Type 0
AnswersValue a = (t : Tree) → typed_answer a ≡ Typed t → is_value t ≡ true

gives_value : (u : Tree) → is_value u ≡ true → AnswersValue (Gives u)
gives_value u h t e = subst (λ (v : Tree). is_value v ≡ true) (typed_inj e) h

stuck_value : AnswersValue IsStuck
stuck_value t e = clash (ap is_typed e)

kind_values : (o : OpName) (ts : List Tree) → AnswersValue (kind_value o ts)
kind_values OpName.IsZ (t ∷ []) = gives_value (truth false) refl
kind_values OpName.IsBin (t ∷ []) = gives_value (truth false) refl
kind_values OpName.IsStr (t ∷ []) = gives_value (truth false) refl
kind_values OpName.IsBool (t ∷ []) = gives_value (truth false) refl
kind_values OpName.IsVar (t ∷ []) = gives_value (truth (is_variable t)) (truth_value (is_variable t))
kind_values _ _ = stuck_value

literal_values : (a : OpAnswer Literal) → AnswersValue (answer_map literal_tree a)
literal_values (Gives l) = gives_value (literal_tree l) (literal_value l)
literal_values IsStuck = stuck_value
literal_values IsOutOfRange = λ t e. clash (ap is_typed e)

pub tree_op_values : (o : OpName) (ts : List Tree) → AnswersValue (tree_op_value o ts)
tree_op_values o ts = by_literals (literals ts)
  where
    by_literals : (ls : Option (List Literal)) → AnswersValue (on_literals o ts ls)
    by_literals None = kind_values o ts
    by_literals (Some ls) = literal_values (op_value o ls)

pub value_type_value : (S : Signature) (t u : Tree) → value_type S t ≡ Typed u → is_value u ≡ true
value_type_value S t u e =
    let r = typed_before (type_of S t) (λ v. typed_if (is_value v) v) u e in
    let g = typed_if_gives (is_value r.0) r.0 u r.2 in
    subst (λ (v : Tree). is_value v ≡ true) g.1 g.0
