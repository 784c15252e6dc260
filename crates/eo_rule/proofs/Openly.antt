-- Parameters outside operators stay where a type is settled.
use Rattle.std.specs.Prelude.{◌≡◌, ℕ, Bool, true, false, ◌&&◌, ◌||◌, if◌then◌else◌, List, [], ◌∷◌}
use Rattle.std.specs.List.{list_all}
use Rattle.std.proofs.Common.{sym, ◌∙◌, ap, ap₂, subst}
use Rattle.eo_base.proofs.Tests.{clash, both}
use Rattle.eo_term.specs.declared.OpName.{OpName}
use Rattle.eo_term.specs.declared.OpCode.{OpCode}
use Rattle.eo_term.specs.Tree.{Tree, Con, Num, Bits, Str, Par, Var, App, Arr, Qar, Op, truth, to_trees, is_tall, is_closed, is_value, is_plain, occurs_openly, tree_eq}
use Rattle.eo_term.proofs.Values.{value_openly, truth_value}
use Rattle.eo_ops.specs.Operators.{tree_op_value}
use Rattle.eo_sig.specs.Signature.{Signature}
use Rattle.eo_type.specs.Types.{Typed, Untyped, TypeTall, on_typed, typed_if, typed_answer, op_in_type, settled_op, settle, settle_all, if_not_tall, settled, type_of, value_type}
use Rattle.eo_type.proofs.SettleLemmas.{is_typed, typed_inj, typed_before, typed_if_gives}
use Rattle.eo_eval.proofs.OperatorValues.{tree_op_values}

op_values : (o : OpName) (ts : List Tree) (t : Tree) → (if list_all is_value ts then typed_answer (tree_op_value o ts) else Untyped) ≡ Typed t → is_value t ≡ true
op_values o ts t e = by_test (list_all is_value ts) e
  where
    by_test : (b : Bool) → (if b then typed_answer (tree_op_value o ts) else Untyped) ≡ Typed t → is_value t ≡ true
    by_test true q = tree_op_values o ts t q
    by_test false q = clash (ap is_typed q)

if_value : (u t : Tree) → typed_if (is_value u) u ≡ Typed t → is_value t ≡ true
if_value u t e = let g = typed_if_gives (is_value u) u t e in subst (λ (v : Tree). is_value v ≡ true) g.1 g.0

pub op_in_type_value : (c : OpCode) (ts : List Tree) (t : Tree) → op_in_type c ts ≡ Typed t → is_value t ≡ true
op_in_type_value (OpCode.Builtin OpName.Ite) (c ∷ a ∷ b ∷ []) t e = by_test (tree_eq c (truth true)) (tree_eq c (truth false)) e
  where
    by_test : (x y : Bool) → (if x then typed_if (is_value a) a else (if y then typed_if (is_value b) b else Untyped)) ≡ Typed t → is_value t ≡ true
    by_test true y q = if_value a t q
    by_test false true q = if_value b t q
    by_test false false q = clash (ap is_typed q)
op_in_type_value (OpCode.Builtin OpName.Requires) (a ∷ b ∷ c ∷ []) t e =
    let g = typed_if_gives (is_value a && (tree_eq a b && is_value c)) c t e in
    subst (λ (v : Tree). is_value v ≡ true) g.1 (both (both g.0).1).1
op_in_type_value (OpCode.Builtin OpName.IsEq) (a ∷ b ∷ []) t e =
    subst (λ (v : Tree). is_value v ≡ true) (typed_inj e) (truth_value (is_value a && tree_eq a b))
op_in_type_value (OpCode.Builtin o) ts t e = op_values o ts t e
op_in_type_value (OpCode.Prog p) ts t e = clash (ap is_typed e)

-- Parameters outside operators stay.
pub settle_openly : (j : ℕ) (t u : Tree) → settle t ≡ Typed u → is_plain u ≡ true → occurs_openly j u ≡ occurs_openly j t
settle_openly j (Con k) u e h = ap (occurs_openly j) (sym (typed_inj e))
settle_openly j (Num z) u e h = ap (occurs_openly j) (sym (typed_inj e))
settle_openly j (Bits w v) u e h = ap (occurs_openly j) (sym (typed_inj e))
settle_openly j (Str s) u e h = ap (occurs_openly j) (sym (typed_inj e))
settle_openly j (Par i) u e h = ap (occurs_openly j) (sym (typed_inj e))
settle_openly j (Var s t) u e h =
    let r = typed_before (settle t) (λ v. Typed (Var s v)) u e in
    ap (occurs_openly j) (sym (typed_inj r.2)) ∙ settle_openly j t r.0 r.1 (subst (λ (v : Tree). is_plain v ≡ true) (sym (typed_inj r.2)) h)
settle_openly j (App f x) u e h =
    let r = typed_before (settle f) (λ g. on_typed (settle x) (λ y. Typed (App g y))) u e in
    let q = typed_before (settle x) (λ y. Typed (App r.0 y)) u r.2 in
    let p = subst (λ (v : Tree). is_plain v ≡ true) (sym (typed_inj q.2)) h in
    ap (occurs_openly j) (sym (typed_inj q.2)) ∙ ap₂ ◌||◌ (settle_openly j f r.0 r.1 (both p).0) (settle_openly j x q.0 q.1 (both p).1)
settle_openly j (Arr a b) u e h =
    let r = typed_before (settle a) (λ c. on_typed (settle b) (λ d. Typed (Arr c d))) u e in
    let q = typed_before (settle b) (λ d. Typed (Arr r.0 d)) u r.2 in
    let p = subst (λ (v : Tree). is_plain v ≡ true) (sym (typed_inj q.2)) h in
    ap (occurs_openly j) (sym (typed_inj q.2)) ∙ ap₂ ◌||◌ (settle_openly j a r.0 r.1 (both p).0) (settle_openly j b q.0 q.1 (both p).1)
settle_openly j (Qar i t b) u e h =
    let r = typed_before (settle t) (λ v. on_typed (settle b) (λ c. Typed (Qar i v c))) u e in
    let q = typed_before (settle b) (λ c. Typed (Qar i r.0 c)) u r.2 in
    let p = subst (λ (v : Tree). is_plain v ≡ true) (sym (typed_inj q.2)) h in
    ap (occurs_openly j) (sym (typed_inj q.2)) ∙ ap₂ ◌||◌ (settle_openly j t r.0 r.1 (both p).0) (settle_openly j b q.0 q.1 (both p).1)
settle_openly j (Op c ts) u e h =
    let r = typed_before (settle_all ts) (λ us. settled_op c us) u e in
    by_test r.0 (list_all is_closed r.0) r.2
  where
    by_test : (us : List Tree) (b : Bool) → (if b then op_in_type c us else Typed (Op c (to_trees us))) ≡ Typed u → occurs_openly j u ≡ false
    by_test us true q = value_openly j u (op_in_type_value c us u q)
    by_test us false q = clash (ap is_plain (typed_inj q) ∙ h)

not_tall_same : (t u : Tree) → if_not_tall t ≡ Typed u → t ≡ u
not_tall_same t u e = by_test (is_tall t) e
  where
    by_test : (b : Bool) → (if b then TypeTall else Typed t) ≡ Typed u → t ≡ u
    by_test true q = clash (ap is_typed q)
    by_test false q = typed_inj q

pub settled_openly : (j : ℕ) (t u : Tree) → settled t ≡ Typed u → is_plain u ≡ true → occurs_openly j u ≡ occurs_openly j t
settled_openly j t u e h =
    let r = typed_before (if_not_tall t) (λ v. on_typed (settle v) if_not_tall) u e in
    let q = typed_before (settle r.0) if_not_tall u r.2 in
    let same = not_tall_same q.0 u q.2 in
    ap (occurs_openly j) (sym same) ∙ (settle_openly j r.0 q.0 q.1 (subst (λ (v : Tree). is_plain v ≡ true) (sym same) h) ∙ ap (occurs_openly j) (sym (not_tall_same t r.0 r.1)))

pub value_type_is_type : (S : Signature) (t u : Tree) → value_type S t ≡ Typed u → type_of S t ≡ Typed u
value_type_is_type S t u e =
    let r = typed_before (type_of S t) (λ v. typed_if (is_value v) v) u e in
    r.1 ∙ ap Typed (typed_if_gives (is_value r.0) r.0 u r.2).1
