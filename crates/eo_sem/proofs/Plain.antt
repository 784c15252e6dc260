-- Terms with a type hold no operator, and terms without operators evaluate to themselves alone.
use Rattle.std.specs.Prelude.{if◌then◌else◌, ◌≡◌, true, ◌&&◌, refl}
use Rattle.std.proofs.Common.{ap, ap₂}
use Rattle.eo_base.proofs.Tests.{both, join, clash}
use Rattle.eo_term.specs.Tree.{Tree, Con, Num, Bits, Str, Par, Var, App, Arr, Qar, Op, type_tree, is_plain, is_value, tree_eq}
use Rattle.eo_sig.specs.Signature.{Signature}
use Rattle.eo_type.specs.Types.{Typed, Untyped, on_typed, typed_if, application_type, type_of}
use Rattle.eo_type.proofs.SettleLemmas.{typed_before, is_typed}
use Rattle.eo_stack.specs.Evaluation.{Call, Eval, Stuck, node, on_value, eval_with}
use Rattle.eo_eval.proofs.Yields.{Yields, ends_yields, none_yields, bind_yields, node_yields}

module _ (S : Signature) where
  pub typed_plain : (t u : Tree) → type_of S t ≡ Typed u → is_plain t ≡ true
  typed_plain (Con k) u e = refl
  typed_plain (Num z) u e = refl
  typed_plain (Bits w v) u e = refl
  typed_plain (Str s) u e = refl
  typed_plain (Par i) u e = refl
  typed_plain (Var s t) u e =
      let a = typed_before (type_of S t) (λ k. typed_if (tree_eq k type_tree) t) u e in typed_plain t a.0 a.1
  typed_plain (App f x) u e =
      let a = typed_before (type_of S f) (λ t. on_typed (type_of S x) (λ v. if is_value v then application_type t v x else Untyped)) u e in
      let b = typed_before (type_of S x) (λ v. if is_value v then application_type a.0 v x else Untyped) u a.2 in
      join (typed_plain f a.0 a.1) (typed_plain x b.0 b.1)
  typed_plain (Arr c d) u e =
      let a = typed_before (type_of S c) (λ k. on_typed (type_of S d) (λ l. typed_if (tree_eq k type_tree && tree_eq l type_tree) type_tree)) u e in
      let b = typed_before (type_of S d) (λ l. typed_if (tree_eq a.0 type_tree && tree_eq l type_tree) type_tree) u a.2 in
      join (typed_plain c a.0 a.1) (typed_plain d b.0 b.1)
  typed_plain (Qar i c d) u e = clash (ap is_typed e)
  typed_plain (Op c ts) u e = clash (ap is_typed e)

  module _ (call : Call → Eval Tree) where
    abbrev Itself : Tree → Tree → Type 0
    Itself t v = v ≡ t

    pub plain_yields : (t : Tree) → is_plain t ≡ true → Yields (eval_with S call t) (Itself t)
    plain_yields (Con k) h = ends_yields (Itself (Con k)) (Con k) refl
    plain_yields (Num z) h = ends_yields (Itself (Num z)) (Num z) refl
    plain_yields (Bits w v) h = ends_yields (Itself (Bits w v)) (Bits w v) refl
    plain_yields (Str s) h = ends_yields (Itself (Str s)) (Str s) refl
    plain_yields (Par i) h = none_yields (Itself (Par i)) Stuck refl
    plain_yields (Var s t) h =
        bind_yields (eval_with S call t) (λ u. node (Var s u)) (Itself t) (Itself (Var s t)) (plain_yields t h)
        (λ u p. node_yields (Itself (Var s t)) (Var s u) (ap (Var s) p))
    plain_yields (App f x) h =
        bind_yields (eval_with S call f) (λ g b. on_value (eval_with S call x b) (λ y. node (App g y))) (Itself f) (Itself (App f x)) (plain_yields f (both h).0)
        (λ g p. bind_yields (eval_with S call x) (λ y. node (App g y)) (Itself x) (Itself (App f x)) (plain_yields x (both h).1)
        (λ y q. node_yields (Itself (App f x)) (App g y) (ap₂ App p q)))
    plain_yields (Arr f x) h =
        bind_yields (eval_with S call f) (λ g b. on_value (eval_with S call x b) (λ y. node (Arr g y))) (Itself f) (Itself (Arr f x)) (plain_yields f (both h).0)
        (λ g p. bind_yields (eval_with S call x) (λ y. node (Arr g y)) (Itself x) (Itself (Arr f x)) (plain_yields x (both h).1)
        (λ y q. node_yields (Itself (Arr f x)) (Arr g y) (ap₂ Arr p q)))
    plain_yields (Qar i t b) h = none_yields (Itself (Qar i t b)) Stuck refl
    plain_yields (Op c ts) h = clash h
