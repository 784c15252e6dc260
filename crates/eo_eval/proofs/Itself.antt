-- A value is evaluated to itself, and begins no call.
use Rattle.std.specs.Prelude.{◌≡◌, ℕ, ◌≤◌, ◌<◌, true, false, if◌then◌else◌, refl}
use Rattle.std.proofs.Common.{sym, ◌∙◌, ap, subst, arith}
use Rattle.eo_base.proofs.Tests.{both, clash}
use Rattle.eo_term.specs.Tree.{Tree, Con, Num, Bits, Str, Par, Var, App, Arr, Qar, Op, is_tall, is_value, height}
use Rattle.eo_sig.specs.Signature.{Signature}
use Rattle.eo_stack.specs.Evaluation.{Outcome, Value, Stuck, Tall, Call, Begun, Ended, Eval, ends, on_value, node, eval_with, call_within}
use Rattle.std.specs.Prelude.{List, [], length, reverse}
use Rattle.eo_base.specs.Limits.{calls_limit, open_calls_limit}
use Rattle.eo_term.specs.Growth.{tree_in}
use Rattle.eo_term.specs.Terms.{Terms, tree_at}
use Rattle.eo_sig.specs.Reading.{Kept, signature}
use Rattle.eo_eval.specs.Outcomes.{HasEnded, outcome_of}
use Rattle.eo_stack.specs.declared.Outcome.TheVariants as outcome
use Rattle.eo_stack.specs.Machine.{Again, Family, Stacked, evals, finish, Frame}
use Rattle.eo_stack.specs.Reading.{waiting, told}
use Rattle.eo_eval.specs.Ready.{Recalls, Stands}
use Rattle.eo_stack.specs.declared.stack.Frame as code_frame
use Rattle.eo_stack.specs.declared.stack.Control as code_control
use Rattle.eo_stack.specs.declared.stack.Control.TheVariants as next
use Rattle.eo_pattern.specs.Matching.{put}
use Rattle.eo_stack.specs.Scopes.{Bound, standing, entered}
use Rattle.eo_eval.proofs.Waiting.{recalled_low, recalled_deep}

pub lower : (a b : Tree) → height a ≤ height b → is_tall b ≡ false → is_tall a ≡ false
lower a b h l = grind arith

module _ (S : Signature) (call : Call → Eval Tree) where
  noded : (t : Tree) (c : Begun) → is_tall t ≡ false → node t c ≡ (Value t, c)
  noded t c l = λ i. (if l i then ends Tall else ends (Value t)) c

  pub value_itself : (t : Tree) (c : Begun) → is_value t ≡ true → is_tall t ≡ false → eval_with S call t c ≡ (Value t, c)
  value_itself (Con k) c h l = refl
  value_itself (Num z) c h l = refl
  value_itself (Bits w v) c h l = refl
  value_itself (Str s) c h l = refl
  value_itself (Par i) c h l = clash h
  value_itself (Var s t) c h l = ap (λ r. on_value r (λ u. node (Var s u))) (value_itself t c h (lower t (Var s t) (omega arith) l)) ∙ noded (Var s t) c l
  value_itself (App f x) c h l =
      let p = value_itself f c (both h).0 (lower f (App f x) (omega arith) l) in
      let q = value_itself x c (both h).1 (lower x (App f x) (omega arith) l) in
      ap (λ r. on_value r (λ g b. on_value (eval_with S call x b) (λ y. node (App g y)))) p ∙ (ap (λ r. on_value r (λ y. node (App f y))) q ∙ noded (App f x) c l)
  value_itself (Arr f x) c h l =
      let p = value_itself f c (both h).0 (lower f (Arr f x) (omega arith) l) in
      let q = value_itself x c (both h).1 (lower x (Arr f x) (omega arith) l) in
      ap (λ r. on_value r (λ g b. on_value (eval_with S call x b) (λ y. node (Arr g y)))) p ∙ (ap (λ r. on_value r (λ y. node (Arr f y))) q ∙ noded (Arr f x) c l)
  value_itself (Qar i t b) c h l = clash h
  value_itself (Op o ts) c h l = clash h

-- A term that is a value ends with itself.
pub value_ends : (k : Kept) (t : Terms) (i : ℕ) → i < length t.trees → is_value (tree_in t i) ≡ true → is_tall (tree_in t i) ≡ false → HasEnded t (outcome.Value i) (outcome_of k t i)
value_ends k t i live value low =
    let S = signature t.trees k in
    record {
      outcome = ap (λ (r : Ended Tree). r.0) (value_itself S (call_within S calls_limit open_calls_limit) (tree_in t i) [] value low);
      value = record { live = live; value = value; low = low };
    }

-- What is remembered is used.
module _ (S : Signature) (most : ℕ) (ts : List Tree) (b : Begun) (scope : Bound) (fs : List code_frame.Frame) (vs : List ℕ) (F : Family) (left : ℕ) where
  abbrev ws : List Frame
  ws = waiting ts b scope (reverse fs) vs

  pub recalls_told : (n : code_control.Control) → Recalls ts b F left n → told S most ts b scope fs vs n ≡ finish S most ws (F left b)
  recalls_told (next.Value v d) r = sym (recalled_low S most b ws F (Value (tree_at ts v)) d left r.1.0 r.1.1)
  recalls_told (next.Stuck d) r = sym (recalled_low S most b ws F Stuck d left r.0 r.1)
  recalls_told next.Deep r = sym (recalled_deep S most b ws F r.0 r.1.0 left r.1.1.0 r.1.1.1)
  recalls_told (next.Eval j k) r = absurd r
  recalls_told next.Calls r = absurd r
  recalls_told next.Range r = absurd r
  recalls_told next.Tall r = absurd r

  pub recalls_stands : (n now : code_control.Control) → Recalls ts b F left n → Stacked S most b ws F → Stands S most ts b scope fs vs now → Stands S most ts b scope fs vs n
  recalls_stands (next.Value v d) now r w s = record { now_live = r.0; frames_live = s.frames_live; placed = s.placed; values_live = s.values_live; slots_live = s.slots_live; scoped = s.scoped; based = s.based; waits = (F, (w, r.1.0)) }
  recalls_stands (next.Stuck d) now r w s = record { now_live = tt; frames_live = s.frames_live; placed = s.placed; values_live = s.values_live; slots_live = s.slots_live; scoped = s.scoped; based = s.based; waits = (F, (w, r.0)) }
  recalls_stands next.Deep now r w s = record { now_live = tt; frames_live = s.frames_live; placed = s.placed; values_live = s.values_live; slots_live = s.slots_live; scoped = s.scoped; based = s.based; waits = tt }
  recalls_stands (next.Eval j k) now r w s = absurd r
  recalls_stands next.Calls now r w s = absurd r
  recalls_stands next.Range now r w s = absurd r
  recalls_stands next.Tall now r w s = absurd r

-- A term that ends at once, with a value or with none.
module _ (S : Signature) (most : ℕ) (ts : List Tree) (b : Begun) (scope : Bound) (fs : List code_frame.Frame) (vs : List ℕ) (id left : ℕ) (o : Outcome Tree) (h : (j : ℕ) (c : Begun) → evals S most (entered ts scope id) j c ≡ (o, c)) where
  at_once : Again (evals S most (entered ts scope id)) o 0 b
  at_once k c cover = (λ below. h k c, λ above. absurd (none k above))
    where
      none : (n : ℕ) → n < 0 → ⊥
      none n z = omega arith

  pub value_told : (v : ℕ) → o ≡ Value (tree_at ts v) → told S most ts b scope fs vs (next.Value v 0) ≡ told S most ts b scope fs vs (next.Eval id left)
  value_told v is = ap (finish S most (waiting ts b scope (reverse fs) vs)) (sym (h left b ∙ ap (λ r. (r, b)) is))

  pub value_stands : (v : ℕ) → o ≡ Value (tree_at ts v) → v < length ts → Stands S most ts b scope fs vs (next.Eval id left) → Stands S most ts b scope fs vs (next.Value v 0)
  value_stands v is live s =
      record { now_live = live; frames_live = s.frames_live; placed = s.placed; values_live = s.values_live; slots_live = s.slots_live; scoped = s.scoped; based = s.based; waits = (evals S most (entered ts scope id), (s.waits, subst (λ r. Again (evals S most (entered ts scope id)) r 0 b) is at_once)) }

  pub stuck_told : o ≡ Stuck → told S most ts b scope fs vs (next.Stuck 0) ≡ told S most ts b scope fs vs (next.Eval id left)
  stuck_told is = ap (finish S most (waiting ts b scope (reverse fs) vs)) (sym (h left b ∙ ap (λ r. (r, b)) is))

  pub stuck_stands : o ≡ Stuck → Stands S most ts b scope fs vs (next.Eval id left) → Stands S most ts b scope fs vs (next.Stuck 0)
  stuck_stands is s =
      record { now_live = tt; frames_live = s.frames_live; placed = s.placed; values_live = s.values_live; slots_live = s.slots_live; scoped = s.scoped; based = s.based; waits = (evals S most (entered ts scope id), (s.waits, subst (λ r. Again (evals S most (entered ts scope id)) r 0 b) is at_once)) }

-- a term that is evaluated as a value ends with it
pub value_entered : (S : Signature) (most : ℕ) (ts : List Tree) (scope : Bound) (id v : ℕ) → entered ts scope id ≡ tree_at ts v → is_value (tree_at ts v) ≡ true → is_tall (tree_at ts v) ≡ false → (j : ℕ) (c : Begun) → evals S most (entered ts scope id) j c ≡ (Value (tree_at ts v), c)
value_entered S most ts scope id v is value low j c = ap (λ t. evals S most t j c) is ∙ value_itself S (call_within S most j) (tree_at ts v) c value low

-- a parameter without a value, and a quantifier's arrow, are stuck
pub free_entered : (S : Signature) (most : ℕ) (ts : List Tree) (scope : Bound) (id n : ℕ) → entered ts scope id ≡ Par n → (j : ℕ) (c : Begun) → evals S most (entered ts scope id) j c ≡ (Stuck, c)
free_entered S most ts scope id n is j c = ap (λ t. evals S most t j c) is

pub arrow_entered : (S : Signature) (most : ℕ) (ts : List Tree) (scope : Bound) (id n : ℕ) (t u : Tree) → Qar n t u ≡ tree_at ts id → (j : ℕ) (c : Begun) → evals S most (entered ts scope id) j c ≡ (Stuck, c)
arrow_entered S most ts scope id n t u is j c = ap (λ x. evals S most (put (standing ts scope) x) j c) (sym is)
