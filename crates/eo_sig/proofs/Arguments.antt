-- How many arguments a constant of a function type has.
use Rattle.std.specs.Prelude.{◌≡◌, ◌+◌, suc, length}
use Rattle.std.proofs.Common.{arith, refl}
use Rattle.eo_term.specs.Tree.{Tree, Con, Num, Bits, Str, Par, Var, App, Arr, Qar, Op, arity}
use Rattle.eo_sig.specs.Signature.{argument_types}

pub arity_arguments : (t : Tree) → length (argument_types t) ≡ arity t
arity_arguments (Con k) = refl
arity_arguments (Num z) = refl
arity_arguments (Bits w v) = refl
arity_arguments (Str s) = refl
arity_arguments (Par i) = refl
arity_arguments (Var s t) = refl
arity_arguments (App f x) = refl
arity_arguments (Arr a b) =
    let h = arity_arguments b in
    let one_more : suc (length (argument_types b)) ≡ 1 + arity b = omega (arith, h) in
    one_more
arity_arguments (Qar i t b) =
    let h = arity_arguments b in
    let one_more : suc (length (argument_types b)) ≡ 1 + arity b = omega (arith, h) in
    one_more
arity_arguments (Op c ts) = refl
