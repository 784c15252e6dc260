-- In a block the evaluations of one tree are the same: a line may be listed wherever its tree is a part.
use Rattle.std.specs.Prelude.{◌≡◌, Bool, true, false, if◌then◌else◌, List, [], ◌∷◌, ◌++◌, Option, Some, None, is_some, option_map, option_and_then, refl}
use Rattle.std.proofs.Common.{sym, ◌∙◌, ap, subst, append_assoc}
use Rattle.std.proofs.lemmas.Option.{none-some, same_Some}
use Rattle.eo_term.specs.declared.OpName.{OpName}
use Rattle.eo_term.specs.declared.OpCode.{OpCode}
use Rattle.eo_term.specs.Tree.{Tree, Con, Num, Bits, Str, Par, Var, App, Arr, Qar, Op, Trees, NoTree, More, truth, is_tall, is_value, tree_eq}
use Rattle.eo_term.proofs.Equality.{tree_decides}
use Rattle.eo_sig.specs.Signature.{Signature}
use Rattle.eo_type.specs.Types.{chosen}
use Rattle.eo_stack.specs.Evaluation.{Outcome, Value, Stuck, Deep, Calls, Range, Tall, are_equal, operator_value}
use Rattle.eo_cert.specs.Stated.{Evaluated}
use Rattle.eo_cert.specs.Rules.{By, gives, is_stuck, no_rule, on_value, or_none, node, outcome, next, part, parts, rule}
use Rattle.eo_cert.specs.Traces.{AreIn, IsOne}

-- one evaluation of a tree

-- the same is given by the same evaluations, which are at the front of both lists
pub record Same {A : Type 0} (o u : Option A) (l m r s : List Evaluated) : Type 0 where
  pub outcome : o ≡ u
  pub used : List Evaluated
  pub first : l ≡ used ++ r
  pub second : m ≡ used ++ s

module _ (es : List Evaluated) (one : IsOne es) where
  abbrev pub Alike : {A : Type 0} → By A → Type 0
  Alike {A} b =
      (l m r s : List Evaluated) (o u : Option A) → AreIn es l → AreIn es m → b l ≡ Some (o, r) → b m ≡ Some (u, s) → Same o u l m r s

  in_rest : (used r : List Evaluated) → AreIn es (used ++ r) → AreIn es r
  in_rest [] r a = a
  in_rest (x ∷ used) r a = in_rest used r a.1

  -- where the same is given and nothing is used
  alike_none : {A : Type 0} (x : Option A) → Alike (λ l. Some (x, l))
  alike_none {A} x l m r s o u a b p q =
      let pair : Option A × List Evaluated → Option A = λ y. y.0 in
      let v = same_Some (x, l) (o, r) p in
      let w = same_Some (x, m) (u, s) q in
      record { outcome = sym (ap (λ (y : Option A × List Evaluated). y.0) v) ∙ ap (λ (y : Option A × List Evaluated). y.0) w; used = []; first = ap (λ (y : Option A × List Evaluated). y.1) v; second = ap (λ (y : Option A × List Evaluated). y.1) w }

  alike_no : {A : Type 0} → Alike {A = A} no_rule
  alike_no l m r s o u a b p q = absurd (none-some (o, r) p)

  alike_if : {A : Type 0} (t : Bool) (x y : By A) → Alike x → Alike y → Alike (if t then x else y)
  alike_if true x y f g = f
  alike_if false x y f g = g

  alike_node : (t : Tree) → Alike (node t)
  alike_node t = alike_if (is_tall t) no_rule (gives t) alike_no (alike_none (Some t))

  alike_outcome : (o : Outcome Tree) → Alike (outcome o)
  alike_outcome (Value t) = alike_node t
  alike_outcome Stuck = alike_none None
  alike_outcome Deep = alike_no
  alike_outcome Calls = alike_no
  alike_outcome Range = alike_no
  alike_outcome Tall = alike_no

  alike_or_none : {A : Type 0} (b : By A) → Alike b → Alike (or_none b)
  alike_or_none {A} b h l m r s o u a c p q = by (b l) (b m) refl refl p q
    where
      wrap : Option A × List Evaluated → Option (Option A) × List Evaluated
      wrap y = (Some y.0, y.1)

      by : (x y : Option (Option A × List Evaluated)) → b l ≡ x → b m ≡ y → option_map wrap x ≡ Some (o, r) → option_map wrap y ≡ Some (u, s) → Same o u l m r s
      by None y i j p q = absurd (none-some (o, r) p)
      by (Some x) None i j p q = absurd (none-some (u, s) q)
      by (Some (x, k)) (Some (y, n)) i j p q =
          let w = h l m k n x y a c i j in
          let v : (Some x, k) ≡ (o, r) = same_Some (Some x, k) (o, r) p in
          let z : (Some y, n) ≡ (u, s) = same_Some (Some y, n) (u, s) q in
          record {
            outcome = sym (ap (λ (t : Option (Option A) × List Evaluated). t.0) v) ∙ (ap Some w.outcome ∙ ap (λ (t : Option (Option A) × List Evaluated). t.0) z);
            used = w.used;
            first = w.first ∙ ap (λ (t : Option (Option A) × List Evaluated). w.used ++ t.1) v;
            second = w.second ∙ ap (λ (t : Option (Option A) × List Evaluated). w.used ++ t.1) z;
          }

  alike_then : {A B : Type 0} (b : By A) (f : A → By B) → Alike b → ((v : A) → Alike (f v)) → Alike (λ l. option_and_then (on_value f) (b l))
  alike_then {A} {B} b f h g l m r s o u a c p q = by (b l) (b m) refl refl p q
    where
      value_or : A → Option A → A
      value_or d None = d
      value_or d (Some v) = v

      go : (v w : A) (k n : List Evaluated) → Same (Some v) (Some w) l m k n → f v k ≡ Some (o, r) → f w n ≡ Some (u, s) → Same o u l m r s
      go v w k n x p q =
          let e : v ≡ w = ap (value_or v) x.outcome in
          let y = g v k n r s o u (in_rest x.used k (subst (AreIn es) x.first a)) (in_rest x.used n (subst (AreIn es) x.second c)) p (ap (λ (z : A). f z n) e ∙ q) in
          record {
            outcome = y.outcome;
            used = x.used ++ y.used;
            first = x.first ∙ (ap (λ (z : List Evaluated). x.used ++ z) y.first ∙ sym (append_assoc x.used y.used r));
            second = x.second ∙ (ap (λ (z : List Evaluated). x.used ++ z) y.second ∙ sym (append_assoc x.used y.used s));
          }

      stop : (k n : List Evaluated) → Same {A = A} None None l m k n → ◌≡◌ {A = Option (Option B × List Evaluated)} (Some (None, k)) (Some (o, r)) → ◌≡◌ {A = Option (Option B × List Evaluated)} (Some (None, n)) (Some (u, s)) → Same o u l m r s
      stop k n x p q =
          let v = same_Some (None, k) (o, r) p in
          let w = same_Some (None, n) (u, s) q in
          record {
            outcome = sym (ap (λ (t : Option B × List Evaluated). t.0) v) ∙ ap (λ (t : Option B × List Evaluated). t.0) w;
            used = x.used;
            first = x.first ∙ ap (λ (t : Option B × List Evaluated). x.used ++ t.1) v;
            second = x.second ∙ ap (λ (t : Option B × List Evaluated). x.used ++ t.1) w;
          }

      by : (x y : Option (Option A × List Evaluated)) → b l ≡ x → b m ≡ y → option_and_then (on_value f) x ≡ Some (o, r) → option_and_then (on_value f) y ≡ Some (u, s) → Same o u l m r s
      by None y i j p q = absurd (none-some (o, r) p)
      by (Some x) None i j p q = absurd (none-some (u, s) q)
      by (Some (Some v, k)) (Some (Some w, n)) i j p q = go v w k n (h l m k n (Some v) (Some w) a c i j) p q
      by (Some (None, k)) (Some (None, n)) i j p q = stop k n (h l m k n None None a c i j) p q
      by (Some (Some v, k)) (Some (None, n)) i j p q = absurd (none-some v (sym (h l m k n (Some v) None a c i j).outcome))
      by (Some (None, k)) (Some (Some w, n)) i j p q = absurd (none-some w (h l m k n None (Some w) a c i j).outcome)

  alike_part : (t : Tree) → Alike (part t)
  alike_part t = alike_if (is_value t) (gives t) (next t) (alike_none (Some t)) alike_next
    where
      alike_next : Alike (next t)
      alike_next [] m r s o u a b p q = absurd (none-some (o, r) p)
      alike_next (x ∷ l) [] r s o u a b p q = absurd (none-some (u, s) q)
      alike_next (x ∷ l) (y ∷ m) r s o u a b p q = by (tree_eq x.term t) (tree_eq y.term t) refl refl p q
        where
          take : Evaluated → List Evaluated → Bool → Option (Option Tree × List Evaluated)
          take z rest i = if i then Some (z.outcome, rest) else None

          by : (i j : Bool) → tree_eq x.term t ≡ i → tree_eq y.term t ≡ j → take x l i ≡ Some (o, r) → take y m j ≡ Some (u, s) → Same o u (x ∷ l) (y ∷ m) r s
          by false j e d p q = absurd (none-some (o, r) p)
          by true false e d p q = absurd (none-some (u, s) q)
          by true true e d p q =
              let same = one x y a.0 b.0 ((tree_decides x.term t).0 e ∙ sym ((tree_decides y.term t).0 d)) in
              let v = same_Some (x.outcome, l) (o, r) p in
              let w = same_Some (y.outcome, m) (u, s) q in
              record {
                outcome = sym (ap (λ (z : Option Tree × List Evaluated). z.0) v) ∙ (ap (λ (z : Evaluated). z.outcome) same ∙ ap (λ (z : Option Tree × List Evaluated). z.0) w);
                used = x ∷ [];
                first = ap (λ (z : Option Tree × List Evaluated). x ∷ z.1) v;
                second = ap (λ (z : Evaluated). z ∷ m) (sym same) ∙ ap (λ (z : Option Tree × List Evaluated). x ∷ z.1) w;
              }

  pub alike_parts : (ts : Trees) → Alike (parts ts)
  alike_parts NoTree = alike_none (Some [])
  alike_parts (More t ts) = alike_then (part t) _ (alike_part t) (λ v. alike_then (parts ts) _ (alike_parts ts) (λ vs. alike_none (Some (v ∷ vs))))

  alike_chosen : (v x y : Tree) → Alike (chosen v (part x) (part y) is_stuck)
  alike_chosen v x y =
      alike_if (tree_eq v (truth true)) (part x) _ (alike_part x) (alike_if (tree_eq v (truth false)) (part y) is_stuck (alike_part y) (alike_none None))

  alike_strict : (S : Signature) (o : OpName) (ts : Trees) → Alike (λ l. option_and_then (on_value (λ vs. outcome (operator_value S o vs))) (parts ts l))
  alike_strict S o ts = alike_then (parts ts) _ (alike_parts ts) (λ vs. alike_outcome (operator_value S o vs))

  pub alike_rule : (S : Signature) (t : Tree) → Alike (rule S t)
  alike_rule S (Con k) = alike_none (Some (Con k))
  alike_rule S (Num z) = alike_none (Some (Num z))
  alike_rule S (Bits w v) = alike_none (Some (Bits w v))
  alike_rule S (Str s) = alike_none (Some (Str s))
  alike_rule S (Par i) = alike_none None
  alike_rule S (Var s t) = alike_then (part t) _ (alike_part t) (λ u. alike_node (Var s u))
  alike_rule S (App f x) = alike_then (part f) _ (alike_part f) (λ g. alike_then (part x) _ (alike_part x) (λ y. alike_node (App g y)))
  alike_rule S (Arr f x) = alike_then (part f) _ (alike_part f) (λ g. alike_then (part x) _ (alike_part x) (λ y. alike_node (Arr g y)))
  alike_rule S (Qar i t b) = alike_none None
  alike_rule S (Op (OpCode.Builtin OpName.Ite) (More t (More x (More y NoTree)))) = alike_then (part t) _ (alike_part t) (λ v. alike_chosen v x y)
  alike_rule S (Op (OpCode.Builtin OpName.Requires) (More x (More y (More t NoTree)))) =
      alike_then (or_none (part x)) _ (alike_or_none (part x) (alike_part x)) (λ u. alike_then (or_none (part y)) _ (alike_or_none (part y) (alike_part y)) (λ v. alike_if (are_equal u v) (part t) is_stuck (alike_part t) (alike_none None)))
  alike_rule S (Op (OpCode.Builtin OpName.IsEq) (More x (More y NoTree))) =
      alike_then (or_none (part x)) _ (alike_or_none (part x) (alike_part x)) (λ u. alike_then (or_none (part y)) _ (alike_or_none (part y) (alike_part y)) (λ v. alike_none (Some (truth (are_equal u v)))))
  alike_rule S (Op (OpCode.Builtin OpName.IsOk) (More x NoTree)) = alike_then (or_none (part x)) _ (alike_or_none (part x) (alike_part x)) (λ u. alike_none (Some (truth (is_some u))))
  alike_rule S (Op (OpCode.Builtin o) ts) = alike_strict S o ts
  alike_rule S (Op (OpCode.Prog p) ts) = alike_then (parts ts) _ (alike_parts ts) (λ vs. alike_no)
