-- A type that was found stays the type in a longer signature.
use Rattle.std.specs.Prelude.{◌≡◌, ◌&&◌, ◌++◌, if◌then◌else◌, Option, Some, None, refl}
use Rattle.std.proofs.Common.{◌∙◌, ap}
use Rattle.eo_term.specs.Tree.{Tree, Con, Num, Bits, Str, Par, Var, App, Arr, Qar, Op, type_tree, is_value, tree_eq}
use Rattle.eo_base.proofs.Tests.{clash}
use Rattle.eo_lit.specs.declared.LiteralClass.{LiteralClass}
use Rattle.eo_lit.specs.declared.LiteralClass.TheVariants.{Numeral, Binary, String}
use Rattle.eo_sig.specs.Signature.{Signature, Constant, constant_at, literal_type}
use Rattle.eo_sig.specs.Growth.{Continues}
use Rattle.eo_type.specs.Types.{TypeOutcome, Typed, Untyped, on_typed, typed_if, declared, literal_type_at, application_type, type_of}
use Rattle.eo_type.proofs.SettleLemmas.{typed_before, is_typed}

module _ (S later : Signature) (law : Continues S later) where
  literal_more : (class : LiteralClass) (l u : Tree) → literal_type_at (literal_type S class) l ≡ Typed u → literal_type_at (literal_type (S ++ later) class) l ≡ Typed u
  literal_more class l u e = by_type (literal_type S class) refl e
    where
      by_type : (o : Option Tree) → literal_type S class ≡ o → literal_type_at o l ≡ Typed u → literal_type_at (literal_type (S ++ later) class) l ≡ Typed u
      by_type None p q = clash (ap is_typed q)
      by_type (Some t) p q = ap (λ (o : Option Tree). literal_type_at o l) (law.literal class t p) ∙ q

  pub type_of_more : (t u : Tree) → type_of S t ≡ Typed u → type_of (S ++ later) t ≡ Typed u
  type_of_more (Con k) u e = by_constant (constant_at S k) refl e
    where
      by_constant : (o : Option Constant) → constant_at S k ≡ o → declared o ≡ Typed u → declared (constant_at (S ++ later) k) ≡ Typed u
      by_constant None p q = clash (ap is_typed q)
      by_constant (Some c) p q = ap declared (law.constant k c p) ∙ q
  type_of_more (Num z) u e = literal_more Numeral (Num z) u e
  type_of_more (Bits w v) u e = literal_more Binary (Bits w v) u e
  type_of_more (Str s) u e = literal_more String (Str s) u e
  type_of_more (Par i) u e = clash (ap is_typed e)
  type_of_more (Var s t) u e =
      let a = typed_before (type_of S t) (λ k. typed_if (tree_eq k type_tree) t) u e in
      ap (λ (o : TypeOutcome Tree). on_typed o (λ k. typed_if (tree_eq k type_tree) t)) (type_of_more t a.0 a.1) ∙ a.2
  type_of_more (App f x) u e =
      let a = typed_before (type_of S f) (λ t. on_typed (type_of S x) (λ v. if is_value v then application_type t v x else Untyped)) u e in
      let b = typed_before (type_of S x) (λ v. if is_value v then application_type a.0 v x else Untyped) u a.2 in
      ap (λ (o : TypeOutcome Tree). on_typed o (λ t. on_typed (type_of (S ++ later) x) (λ v. if is_value v then application_type t v x else Untyped))) (type_of_more f a.0 a.1) ∙ (ap (λ (o : TypeOutcome Tree). on_typed o (λ v. if is_value v then application_type a.0 v x else Untyped)) (type_of_more x b.0 b.1) ∙ b.2)
  type_of_more (Arr c d) u e =
      let a = typed_before (type_of S c) (λ k. on_typed (type_of S d) (λ l. typed_if (tree_eq k type_tree && tree_eq l type_tree) type_tree)) u e in
      let b = typed_before (type_of S d) (λ l. typed_if (tree_eq a.0 type_tree && tree_eq l type_tree) type_tree) u a.2 in
      ap (λ (o : TypeOutcome Tree). on_typed o (λ k. on_typed (type_of (S ++ later) d) (λ l. typed_if (tree_eq k type_tree && tree_eq l type_tree) type_tree))) (type_of_more c a.0 a.1) ∙ (ap (λ (o : TypeOutcome Tree). on_typed o (λ l. typed_if (tree_eq a.0 type_tree && tree_eq l type_tree) type_tree)) (type_of_more d b.0 b.1) ∙ b.2)
  type_of_more (Qar i c d) u e = clash (ap is_typed e)
  type_of_more (Op c ts) u e = clash (ap is_typed e)
