-- What holds of each value that an evaluation gives.
use Rattle.std.specs.Prelude.{if◌then◌else◌, ◌≡◌, Bool, true, false, Option, Some, None, refl}
use Rattle.std.proofs.Common.{sym, ◌∙◌, ap, subst}
use Rattle.eo_base.proofs.Tests.{clash}
use Rattle.eo_term.specs.Tree.{Tree, is_tall}
use Rattle.eo_stack.specs.Evaluation.{Outcome, Value, Stuck, Deep, Calls, Range, Tall, Begun, Ended, Eval, ends, on_outcome, on_value, node, on_body}

abbrev pub Yields : {A : Type 0} → Eval A → (A → Type 0) → Type 0
Yields {A} F P = (c : Begun) (v : A) (d : Begun) → F c ≡ (Value v, d) → P v

abbrev pub has_value : {A : Type 0} → Outcome A → Bool
has_value (Value v) = true
has_value Stuck = false
has_value Deep = false
has_value Calls = false
has_value Range = false
has_value Tall = false

no_value : {A P : Type 0} (o : Outcome A) (c d : Begun) (v : A) → has_value o ≡ false → ◌≡◌ {A = Ended A} (o, c) (Value v, d) → P
no_value {A} o c d v h e = clash (sym h ∙ ap (λ (r : Ended A). has_value r.0) e)

pub value_inj : {A : Type 0} (u v : A) → Value u ≡ Value v → u ≡ v
value_inj {A} u v e = ap or_u e
  where
    or_u : Outcome A → A
    or_u (Value w) = w
    or_u Stuck = u
    or_u Deep = u
    or_u Calls = u
    or_u Range = u
    or_u Tall = u

pub ends_yields : {A : Type 0} (P : A → Type 0) (u : A) → P u → Yields (ends (Value u)) P
ends_yields {A} P u p c v d e = subst P (value_inj u v (ap (λ (r : Ended A). r.0) e)) p

pub none_yields : {A : Type 0} (P : A → Type 0) (o : Outcome A) → has_value o ≡ false → Yields (ends o) P
none_yields P o h c v d e = no_value o c d v h e

pub bind_yields : {A B : Type 0} (first : Eval A) (go : A → Eval B) (P : A → Type 0) (Q : B → Type 0) → Yields first P → ((a : A) → P a → Yields (go a) Q) → Yields (λ c. on_value (first c) go) Q
bind_yields {A} {B} first go P Q f g c v d e = by_outcome (first c).0 (first c).1 refl e
  where
    by_outcome : (o : Outcome A) (b : Begun) → first c ≡ (o, b) → on_outcome o go b ≡ (Value v, d) → Q v
    by_outcome (Value a) b p q = g a (f c a b p) b v d q
    by_outcome Stuck b p q = no_value Stuck b d v refl q
    by_outcome Deep b p q = no_value Deep b d v refl q
    by_outcome Calls b p q = no_value Calls b d v refl q
    by_outcome Range b p q = no_value Range b d v refl q
    by_outcome Tall b p q = no_value Tall b d v refl q

pub node_yields : (P : Tree → Type 0) (t : Tree) → P t → Yields (node t) P
node_yields P t p = by_height (is_tall t)
  where
    by_height : (b : Bool) → Yields (if b then ends Tall else ends (Value t)) P
    by_height true = none_yields P Tall refl
    by_height false = ends_yields P t p

pub outcome_yields : (P : Tree → Type 0) (o : Outcome Tree) → ((t : Tree) → o ≡ Value t → P t) → Yields (on_outcome o node) P
outcome_yields P (Value t) h = node_yields P t (h t refl)
outcome_yields P Stuck h = none_yields P Stuck refl
outcome_yields P Deep h = none_yields P Deep refl
outcome_yields P Calls h = none_yields P Calls refl
outcome_yields P Range h = none_yields P Range refl
outcome_yields P Tall h = none_yields P Tall refl

pub body_yields : (P : Tree → Type 0) (body : Option Tree) (F : Tree → Eval Tree) → ((t : Tree) → body ≡ Some t → Yields (F t) P) → Yields (on_body body F) P
body_yields P None F h = none_yields P Stuck refl
body_yields P (Some t) F h = by_height (is_tall t)
  where
    by_height : (b : Bool) → Yields (if b then ends Tall else F t) P
    by_height true = none_yields P Tall refl
    by_height false = h t refl
