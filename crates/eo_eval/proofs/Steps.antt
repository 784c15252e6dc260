-- The steps of the machine: each leaves what all that waits makes of the result, and what comes again.
use Rattle.std.specs.Prelude.{◌≡◌, ℕ, zero, suc, ◌+◌, ◌≤◌, ◌<◌, max, Bool, true, false, if◌then◌else◌, List, [], ◌∷◌, ◌++◌, length, Option, Some, ◌⊎◌, refl}
use Rattle.std.proofs.Common.{sym, ◌∙◌, ap, arith, inl, inr}
use Rattle.eo_base.proofs.Tests.{clash}
use Rattle.eo_term.specs.declared.OpName.{OpName}
use Rattle.eo_term.specs.declared.OpCode.{OpCode}
use Rattle.eo_term.specs.Tree.{Tree, Var, App, Arr, Op, Trees, NoTree, More, truth, is_tall}
use Rattle.eo_term.specs.Arguments.{from, count_of, argument_at}
use Rattle.eo_sig.specs.Signature.{Signature}
use Rattle.eo_stack.specs.Evaluation.{Outcome, Value, Stuck, Deep, Calls, Range, Tall, Call, Begun, Ended, Eval, ends, on_outcome, on_value, value_or_none, or_none, are_equal, eval_with, eval_all_with, on_body, body_of, call_within}
use Rattle.eo_stack.specs.Machine.{parts_of, Wait, Parts, Choice, Tested, EqLeft, EqRight, RequireLeft, RequireRight, Tail, made, rest_with, resume_with, Family, IsBegun, Covers, Comes, Again, Frame, OfNode, OfCall, evals, calls, resume, finish, Stacked}
use Rattle.eo_eval.proofs.Memory.{steady_call}

-- one after another is associative
pub bind_bind : {A B C : Type 0} (e : Ended A) (f : A → Eval B) (g : B → Eval C) → on_value (on_value e f) g ≡ on_value e (λ a b. on_value (f a b) g)
bind_bind (Value v, c) f g = refl
bind_bind (Stuck, c) f g = refl
bind_bind (Deep, c) f g = refl
bind_bind (Calls, c) f g = refl
bind_bind (Range, c) f g = refl
bind_bind (Tall, c) f g = refl

abbrev pub is_last : Outcome Tree → Bool
is_last (Value v) = false
is_last Stuck = false
is_last Deep = true
is_last Calls = true
is_last Range = true
is_last Tall = true

-- an operator that has its value from those of all its arguments
abbrev pub is_strict : OpName → Bool
is_strict OpName.Ite = false
is_strict OpName.Requires = false
is_strict OpName.IsEq = false
is_strict OpName.IsOk = false
is_strict _ = true

longer : (vs : List Tree) (v : Tree) → length (vs ++ v ∷ []) ≡ suc (length vs)
longer [] v = refl
longer (u ∷ vs) v = ap suc (longer vs v)

joined : (vs : List Tree) (v : Tree) (ws : List Tree) → vs ++ v ∷ ws ≡ (vs ++ v ∷ []) ++ ws
joined [] v ws = refl
joined (u ∷ vs) v ws = ap (λ us. u ∷ us) (joined vs v ws)

append_none : (vs : List Tree) → vs ++ [] ≡ vs
append_none [] = refl
append_none (v ∷ vs) = ap (λ us. v ∷ us) (append_none vs)

none_from : (ts : Trees) → from (count_of ts) ts ≡ NoTree
none_from NoTree = refl
none_from (More t ts) = ap (λ n. from n (More t ts)) (one_more (count_of ts)) ∙ none_from ts
  where
    one_more : (n : ℕ) → 1 + n ≡ suc n
    one_more n = omega arith

-- Parts from left to right.
module _ (S : Signature) (call : Call → Eval Tree) where
  more_from : (ts : Trees) (i : ℕ) → i < count_of ts → from i ts ≡ More (argument_at ts i) (from (suc i) ts)
  more_from NoTree i h = absurd (omega arith)
  more_from (More t ts) zero h = refl
  more_from (More t ts) (suc i) h = more_from ts i (omega arith)

  -- the next part of a node, where some are left
  pub next_part : (t : Tree) (vs : List Tree) (c : Begun) → length vs < count_of (parts_of t) → rest_with S call t vs c ≡ resume_with S call (Parts t vs) (eval_with S call (argument_at (parts_of t) (length vs)) c)
  next_part t vs c h =
      ap (λ ts. on_value (eval_all_with S call ts c) (λ ws. made S call t (vs ++ ws))) (more_from (parts_of t) (length vs) h)
      ∙ bind_bind (eval_with S call (argument_at (parts_of t) (length vs)) c) _ _
      ∙ ap (on_value (eval_with S call (argument_at (parts_of t) (length vs)) c)) (λ i v b. one v b i)
    where
      one : (v : Tree) (b : Begun) → on_value (on_value (eval_all_with S call (from (suc (length vs)) (parts_of t)) b) (λ ws. ends (Value (v ∷ ws)))) (λ ws. made S call t (vs ++ ws)) ≡ rest_with S call t (vs ++ v ∷ []) b
      one v b =
          bind_bind (eval_all_with S call (from (suc (length vs)) (parts_of t)) b) _ _
          ∙ (λ i. on_value (eval_all_with S call (from (sym (longer vs v) i) (parts_of t)) b) (λ ws. made S call t (joined vs v ws i)))

  -- where none is left
  pub no_part : (t : Tree) (vs : List Tree) (c : Begun) → length vs ≡ count_of (parts_of t) → rest_with S call t vs c ≡ made S call t vs c
  no_part t vs c h = (λ i. on_value (eval_all_with S call ((ap (λ n. from n (parts_of t)) h ∙ none_from (parts_of t)) i) c) (λ ws. made S call t (vs ++ ws))) ∙ ap (λ us. made S call t us c) (append_none vs)

  -- A node that has its value from those of its parts.
  pub whole_var : (s : List ℕ) (t : Tree) (c : Begun) → eval_with S call (Var s t) c ≡ rest_with S call (Var s t) [] c
  whole_var s t c = sym (bind_bind (eval_with S call t c) _ _)

  pub whole_app : (f x : Tree) (c : Begun) → eval_with S call (App f x) c ≡ rest_with S call (App f x) [] c
  whole_app f x c = ap (on_value (eval_with S call f c)) (λ i g b. sym (bind_bind (on_value (eval_with S call x b) (λ y. ends (Value (y ∷ [])))) (λ ws. ends (Value (g ∷ ws))) (λ ws. made S call (App f x) ws) ∙ bind_bind (eval_with S call x b) _ _) i) ∙ sym (bind_bind (eval_with S call f c) _ _)

  pub whole_arr : (f x : Tree) (c : Begun) → eval_with S call (Arr f x) c ≡ rest_with S call (Arr f x) [] c
  whole_arr f x c = ap (on_value (eval_with S call f c)) (λ i g b. sym (bind_bind (on_value (eval_with S call x b) (λ y. ends (Value (y ∷ [])))) (λ ws. ends (Value (g ∷ ws))) (λ ws. made S call (Arr f x) ws) ∙ bind_bind (eval_with S call x b) _ _) i) ∙ sym (bind_bind (eval_with S call f c) _ _)

  pub whole_call : (p : ℕ) (ts : Trees) (c : Begun) → eval_with S call (Op (OpCode.Prog p) ts) c ≡ rest_with S call (Op (OpCode.Prog p) ts) [] c
  whole_call p ts c = refl

  pub whole_op : (o : OpName) (ts : Trees) (c : Begun) → is_strict o ≡ true → eval_with S call (Op (OpCode.Builtin o) ts) c ≡ rest_with S call (Op (OpCode.Builtin o) ts) [] c
  whole_op OpName.Ite ts c h = clash h
  whole_op OpName.Requires ts c h = clash h
  whole_op OpName.IsEq ts c h = clash h
  whole_op OpName.IsOk ts c h = clash h
  whole_op o ts c h = refl

  -- from the first to the second
  pub left_right : (o : Outcome Tree) (u : Option Tree) (y : Tree) (c : Begun) → value_or_none o ≡ Value u → resume_with S call (EqLeft y) (o, c) ≡ resume_with S call (EqRight u) (eval_with S call y c)
  left_right o u y c h = ap (λ r. on_outcome r (λ u b. on_value (or_none (eval_with S call y) b) (λ v. ends (Value (truth (are_equal u v))))) c) h

  pub require_required : (o : Outcome Tree) (u : Option Tree) (y t : Tree) (c : Begun) → value_or_none o ≡ Value u → resume_with S call (RequireLeft y t) (o, c) ≡ resume_with S call (RequireRight u t) (eval_with S call y c)
  require_required o u y t c h = ap (λ r. on_outcome r (λ u b. on_value (or_none (eval_with S call y) b) (λ v. if are_equal u v then eval_with S call t else ends Stuck)) c) h

  -- an outcome that ends all is handed on by whatever waits
  pub resume_stops : (w : Wait) (o : Outcome Tree) (c : Begun) → is_last o ≡ true → resume_with S call w (o, c) ≡ (o, c)
  resume_stops w (Value v) c h = clash h
  resume_stops w Stuck c h = clash h
  resume_stops (Parts t vs) Deep c h = refl
  resume_stops (Parts t vs) Calls c h = refl
  resume_stops (Parts t vs) Range c h = refl
  resume_stops (Parts t vs) Tall c h = refl
  resume_stops (Choice x y) Deep c h = refl
  resume_stops (Choice x y) Calls c h = refl
  resume_stops (Choice x y) Range c h = refl
  resume_stops (Choice x y) Tall c h = refl
  resume_stops Tested Deep c h = refl
  resume_stops Tested Calls c h = refl
  resume_stops Tested Range c h = refl
  resume_stops Tested Tall c h = refl
  resume_stops (EqLeft y) Deep c h = refl
  resume_stops (EqLeft y) Calls c h = refl
  resume_stops (EqLeft y) Range c h = refl
  resume_stops (EqLeft y) Tall c h = refl
  resume_stops (EqRight u) Deep c h = refl
  resume_stops (EqRight u) Calls c h = refl
  resume_stops (EqRight u) Range c h = refl
  resume_stops (EqRight u) Tall c h = refl
  resume_stops (RequireLeft y t) Deep c h = refl
  resume_stops (RequireLeft y t) Calls c h = refl
  resume_stops (RequireLeft y t) Range c h = refl
  resume_stops (RequireLeft y t) Tall c h = refl
  resume_stops (RequireRight u t) Deep c h = refl
  resume_stops (RequireRight u t) Calls c h = refl
  resume_stops (RequireRight u t) Range c h = refl
  resume_stops (RequireRight u t) Tall c h = refl
  resume_stops Tail o c h = refl

module _ (S : Signature) (most : ℕ) where
  -- and so by all that waits
  pub finish_stops : (fs : List Frame) (o : Outcome Tree) (c : Begun) → is_last o ≡ true → finish S most fs (o, c) ≡ (o, c)
  finish_stops [] o c h = refl
  finish_stops (OfNode t w d k ∷ fs) o c h = ap (finish S most fs) (resume_stops S (call_within S most k) w o c h) ∙ finish_stops fs o c h
  finish_stops (OfCall x body ∷ fs) o c h = finish_stops fs o c h

  -- What comes again.

  pub comes_later : (F G : Family) (d : ℕ) (b e : Begun) → Covers e b → Comes F G d b → Comes F G d e
  comes_later F G d b e over h k c cover = h k c (λ x m. cover x (over x m))

  pub stacked_later : (b e : Begun) → Covers e b → (fs : List Frame) (F : Family) → Stacked S most b fs F → Stacked S most e fs F
  stacked_later b e over [] F s = tt
  stacked_later b e over (OfNode t w d k ∷ fs) F s = (comes_later (evals S most t) (λ j c. resume S most j w (F j c)) d b e over s.0, stacked_later b e over fs (evals S most t) s.1)
  stacked_later b e over (OfCall x body ∷ fs) F s = (s.0, ((over x s.1.0.0, s.1.0.1), (s.1.1.0, stacked_later b e over fs (calls S most x) s.1.1.1)))

  -- a computation that begins with F, where F ends so
  pub onward : (E F G : Family) (w : Wait) (d m : ℕ) (o : Outcome Tree) (b e : Begun) → Comes E (λ j c. resume S most j w (F j c)) d b → Covers e b → Again F o m e → ((j : ℕ) (c : Begun) → resume S most j w (o, c) ≡ G j c) → Comes E G (max d m) e
  onward E F G w d m o b e lead over again then' k c h = (fits, fails)
    where
      before : Covers c b
      before x y = h x (over x y)

      fits : max d m ≤ k → E k c ≡ G k c
      fits below = (lead k c before).0 (omega arith) ∙ (ap (resume S most k w) ((again k c h).0 (omega arith)) ∙ then' k c)

      split : (x y : ℕ) → (x ≤ y) ⊎ (y < x)
      split x y = grind arith

      fails : k < max d m → E k c ≡ (Deep, c)
      fails above = by_depth (split d k)
        where
          by_depth : (d ≤ k) ⊎ (k < d) → E k c ≡ (Deep, c)
          by_depth (inl le) = (lead k c before).0 le ∙ (ap (resume S most k w) ((again k c h).1 (omega arith)) ∙ resume_stops S (call_within S most k) w Deep c refl)
          by_depth (inr lt) = (lead k c before).1 lt

  -- a node that begins to wait
  pub begins : (t : Tree) (F : Family) (w : Wait) (b : Begun) → ((j : ℕ) (c : Begun) → evals S most t j c ≡ resume S most j w (F j c)) → Comes (evals S most t) (λ j c. resume S most j w (F j c)) 0 b
  begins t F w b h k c cover = (λ below. h k c, λ above. absurd (none k above))
    where
      none : (n : ℕ) → n < 0 → ⊥
      none n z = omega arith

  -- a call whose body ends so
  pub called : (x : Call) (body : Tree) (F : Family) (o : Outcome Tree) (m : ℕ) (b e : Begun) → ((j : ℕ) (c : Begun) → F j c ≡ evals S most body j c) → IsBegun b x → Covers e b → body_of S x ≡ Some body → is_tall body ≡ false → Again F o m e → Again (calls S most x) o (suc m) e
  called x body F o m b e same begun over is low again =
      steady_call S most x o m e (over x begun) (λ k c h. (λ below. run k c ∙ (again k c h).0 below, λ above. run k c ∙ (again k c h).1 above))
    where
      run : (k : ℕ) (c : Begun) → on_body (body_of S x) (eval_with S (call_within S most k)) c ≡ F k c
      run k c = ap (λ r. on_body r (eval_with S (call_within S most k)) c) is ∙ (ap (λ (z : Bool). (if z then ends Tall else eval_with S (call_within S most k) body) c) low ∙ sym (same k c))
