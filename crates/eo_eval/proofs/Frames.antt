-- The frames of nodes that ask for more than the values of all their parts.
use Rattle.std.specs.Prelude.{◌≡◌, ◌≢◌, ℕ, ◌<◌, max, Bool, true, false, if◌then◌else◌, List, length, Option, Some, None, is_some, refl}
use Rattle.std.proofs.Common.{sym, ◌∙◌, ap, arith}
use Rattle.eo_term.specs.declared.OpName.{OpName}
use Rattle.eo_term.specs.declared.OpCode.{OpCode}
use Rattle.eo_term.specs.Tree.{Tree, Op, Trees, NoTree, More, truth}
use Rattle.eo_term.specs.Arguments.{arguments_of, argument_at, count_of}
use Rattle.eo_term.specs.Terms.{tree_at}
use Rattle.eo_sig.specs.Signature.{Signature}
use Rattle.eo_pattern.specs.Matching.{put, put_all}
use Rattle.eo_pattern.proofs.Steps.{count_put}
use Rattle.eo_stack.specs.Evaluation.{Outcome, Value, Stuck, Call, Begun, Eval, ends, on_outcome, value_or_none, are_equal, eval_with, call_within}
use Rattle.eo_stack.specs.Machine.{Wait, Choice, EqLeft, EqRight, RequireLeft, RequireRight, Tested, resume_with}
use Rattle.eo_stack.specs.Reading.{other, result_of, given_in, depth_of, HasMore}
use Rattle.eo_eval.specs.Ready.{Proceeds, Begins}
use Rattle.eo_stack.specs.Scopes.{Bound, standing, entered}
use Rattle.eo_stack.specs.declared.stack.Frame.TheVariants as frame
use Rattle.eo_stack.specs.declared.stack.Control as code_control
use Rattle.eo_stack.specs.declared.stack.Control.TheVariants as next
use Rattle.eo_eval.proofs.Entered.{entered_other}
use Rattle.eo_eval.proofs.Steps.{left_right, require_required, is_strict}

-- what is given, as what a part that may be stuck has
pub maybe_given : (ts : List Tree) (now : code_control.Control) → value_or_none (result_of ts now) ≡ Value (given_in ts now)
maybe_given ts (next.Value i d) = refl
maybe_given ts now = refl

module _ (S : Signature) (call : Call → Eval Tree) (c : Begun) where
  -- Nodes that end with the result.

  pub tested_ends : (o : Outcome Tree) (v : Option Tree) → value_or_none o ≡ Value v → resume_with S call Tested (o, c) ≡ (Value (truth (is_some v)), c)
  tested_ends o v h = ap (λ r. on_outcome r (λ u. ends (Value (truth (is_some u)))) c) h

  pub right_ends : (u : Option Tree) (o : Outcome Tree) (v : Option Tree) → value_or_none o ≡ Value v → resume_with S call (EqRight u) (o, c) ≡ (Value (truth (are_equal u v)), c)
  right_ends u o v h = ap (λ r. on_outcome r (λ w. ends (Value (truth (are_equal u w)))) c) h

  pub missed_ends : (t : Tree) (o : Outcome Tree) (v : Option Tree) → value_or_none o ≡ Value v → resume_with S call (RequireRight None t) (o, c) ≡ (Stuck, c)
  missed_ends t o v h = ap (λ (r : Outcome (Option Tree)). on_outcome r (λ w. if are_equal None w then eval_with S call t else ends Stuck) c) h

-- Nodes that go on to wait for another term.
module _ (S : Signature) (most : ℕ) (ts : List Tree) (s : Bound) (now : code_control.Control) (i p d l : ℕ) (live : p < length ts) where
  -- the argument that is waited for is that of what is evaluated
  there : (n : ℕ) → n < count_of (arguments_of (tree_at ts i)) → tree_at ts p ≡ argument_at (arguments_of (tree_at ts i)) n → entered ts s p ≡ other ts s i n
  there n more part = ap (put (standing ts s)) part ∙ sym (entered_other ts s i n more)

  -- One whose result is that of an argument.
  module _ (more : HasMore ts i 2) where
    -- of the argument at this place
    handed : (w : Wait) (n : ℕ) → n < count_of (arguments_of (tree_at ts i)) → tree_at ts p ≡ argument_at (arguments_of (tree_at ts i)) n → ((call : Call → Eval Tree) (c : Begun) → resume_with S call w (result_of ts now, c) ≡ eval_with S call (other ts s i n) c) → (call : Call → Eval Tree) (c : Begun) → resume_with S call w (result_of ts now, c) ≡ eval_with S call (entered ts s p) c
    handed w n few part h call c = h call c ∙ ap (λ t. eval_with S call t c) (sym (there n few part))

    pub choice_true : d ≡ depth_of now → result_of ts now ≡ Value (truth true) → tree_at ts p ≡ argument_at (arguments_of (tree_at ts i)) 1 → Proceeds S most ts s (frame.Choice i l) now (frame.Tail i d) p l
    choice_true depth h part =
        let step = handed (Choice (other ts s i 1) (other ts s i 2)) 1 (omega (arith, more.1)) part (λ call c. ap (λ o. resume_with S call (Choice (other ts s i 1) (other ts s i 2)) (o, c)) h) in
        record { node = refl; depth = depth ∙ omega arith; frame = more.0; live = live; waits = λ j c. step (call_within S most j) c; tells = λ c. step (call_within S most l) c }

    pub choice_false : d ≡ depth_of now → result_of ts now ≡ Value (truth false) → tree_at ts p ≡ argument_at (arguments_of (tree_at ts i)) 2 → Proceeds S most ts s (frame.Choice i l) now (frame.Tail i d) p l
    choice_false depth h part =
        let step = handed (Choice (other ts s i 1) (other ts s i 2)) 2 more.1 part (λ call c. ap (λ o. resume_with S call (Choice (other ts s i 1) (other ts s i 2)) (o, c)) h) in
        record { node = refl; depth = depth ∙ omega arith; frame = more.0; live = live; waits = λ j c. step (call_within S most j) c; tells = λ c. step (call_within S most l) c }

    pub required_equal : (u was : ℕ) → d ≡ max was (depth_of now) → are_equal (Some (tree_at ts u)) (given_in ts now) ≡ true → tree_at ts p ≡ argument_at (arguments_of (tree_at ts i)) 2 → Proceeds S most ts s (frame.RequireRight i u was l) now (frame.Tail i d) p l
    required_equal u was depth same part =
        let w = RequireRight (Some (tree_at ts u)) (other ts s i 2) in
        let step = handed w 2 more.1 part (λ call c.
        ap (λ (r : Outcome (Option Tree)). on_outcome r (λ v. if are_equal (Some (tree_at ts u)) v then eval_with S call (other ts s i 2) else ends Stuck) c) (maybe_given ts now)
        ∙ ap (λ (z : Bool). (if z then eval_with S call (other ts s i 2) else ends Stuck) c) same) in
        record { node = refl; depth = depth; frame = more.0; live = live; waits = λ j c. step (call_within S most j) c; tells = λ c. step (call_within S most l) c }

  -- One that waits for the second of two arguments.
  module _ (depth : d ≡ depth_of now) (few : 1 < count_of (arguments_of (tree_at ts i))) (part : tree_at ts p ≡ argument_at (arguments_of (tree_at ts i)) 1) where
    second : (w x : Wait) → ((call : Call → Eval Tree) (c : Begun) → resume_with S call w (result_of ts now, c) ≡ resume_with S call x (eval_with S call (other ts s i 1) c)) → (call : Call → Eval Tree) (c : Begun) → resume_with S call w (result_of ts now, c) ≡ resume_with S call x (eval_with S call (entered ts s p) c)
    second w x h call c = h call c ∙ ap (λ t. resume_with S call x (eval_with S call t c)) (sym (there 1 few part))

    require_step : (u : Option Tree) → value_or_none (result_of ts now) ≡ Value u → (call : Call → Eval Tree) (c : Begun) → resume_with S call (RequireLeft (other ts s i 1) (other ts s i 2)) (result_of ts now, c) ≡ resume_with S call (RequireRight u (other ts s i 2)) (eval_with S call (entered ts s p) c)
    require_step u h = second (RequireLeft (other ts s i 1) (other ts s i 2)) (RequireRight u (other ts s i 2)) (λ call c. require_required S call (result_of ts now) u (other ts s i 1) (other ts s i 2) c h)

    left_step : (u : Option Tree) → value_or_none (result_of ts now) ≡ Value u → (call : Call → Eval Tree) (c : Begun) → resume_with S call (EqLeft (other ts s i 1)) (result_of ts now, c) ≡ resume_with S call (EqRight u) (eval_with S call (entered ts s p) c)
    left_step u h = second (EqLeft (other ts s i 1)) (EqRight u) (λ call c. left_right S call (result_of ts now) u (other ts s i 1) c h)

  pub require_value : HasMore ts i 2 → d ≡ depth_of now → (u : ℕ) → u < length ts → result_of ts now ≡ Value (tree_at ts u) → tree_at ts p ≡ argument_at (arguments_of (tree_at ts i)) 1 → Proceeds S most ts s (frame.RequireLeft i l) now (frame.RequireRight i u d l) p l
  require_value more depth u named h part =
      let step = require_step depth (omega (arith, more.1)) part (Some (tree_at ts u)) (ap value_or_none h) in
      record { node = refl; depth = depth ∙ omega arith; frame = (more, named); live = live; waits = λ j c. step (call_within S most j) c; tells = λ c. step (call_within S most l) c }

  pub require_missed : HasMore ts i 2 → d ≡ depth_of now → result_of ts now ≡ Stuck → tree_at ts p ≡ argument_at (arguments_of (tree_at ts i)) 1 → Proceeds S most ts s (frame.RequireLeft i l) now (frame.RequireStuck i d) p l
  require_missed more depth h part =
      let step = require_step depth (omega (arith, more.1)) part None (ap value_or_none h) in
      record { node = refl; depth = depth ∙ omega arith; frame = more.0; live = live; waits = λ j c. step (call_within S most j) c; tells = λ c. step (call_within S most l) c }

  pub left_value : HasMore ts i 1 → d ≡ depth_of now → (u : ℕ) → u < length ts → result_of ts now ≡ Value (tree_at ts u) → tree_at ts p ≡ argument_at (arguments_of (tree_at ts i)) 1 → Proceeds S most ts s (frame.EqLeft i l) now (frame.EqRight i u d) p l
  left_value more depth u named h part =
      let step = left_step depth more.1 part (Some (tree_at ts u)) (ap value_or_none h) in
      record { node = refl; depth = depth ∙ omega arith; frame = (more.0, named); live = live; waits = λ j c. step (call_within S most j) c; tells = λ c. step (call_within S most l) c }

  pub left_unequal : HasMore ts i 1 → d ≡ depth_of now → result_of ts now ≡ Stuck → tree_at ts p ≡ argument_at (arguments_of (tree_at ts i)) 1 → Proceeds S most ts s (frame.EqLeft i l) now (frame.EqStuck i d) p l
  left_unequal more depth h part =
      let step = left_step depth more.1 part None (ap value_or_none h) in
      record { node = refl; depth = depth ∙ omega arith; frame = more.0; live = live; waits = λ j c. step (call_within S most j) c; tells = λ c. step (call_within S most l) c }

-- Operators that begin to wait for their first argument.

three : (us : Trees) → count_of us ≡ 3 → us ≡ More (argument_at us 0) (More (argument_at us 1) (More (argument_at us 2) NoTree))
three NoTree h = absurd (omega (arith, h))
three (More a NoTree) h = absurd (omega (arith, h))
three (More a (More b NoTree)) h = absurd (omega (arith, h))
three (More a (More b (More c NoTree))) h = refl
three (More a (More b (More c (More d us)))) h = absurd (omega (arith, h))

two : (us : Trees) → count_of us ≡ 2 → us ≡ More (argument_at us 0) (More (argument_at us 1) NoTree)
two NoTree h = absurd (omega (arith, h))
two (More a NoTree) h = absurd (omega (arith, h))
two (More a (More b NoTree)) h = refl
two (More a (More b (More c us))) h = absurd (omega (arith, h))

one : (us : Trees) → count_of us ≡ 1 → us ≡ More (argument_at us 0) NoTree
one NoTree h = absurd (omega (arith, h))
one (More a NoTree) h = refl
one (More a (More b us)) h = absurd (omega (arith, h))

module _ (S : Signature) (most : ℕ) (ts : List Tree) (s : Bound) (i p l : ℕ) (o : OpName) (live : i < length ts) (low : p < length ts) (part : tree_at ts p ≡ argument_at (arguments_of (tree_at ts i)) 0) (tree : Op (OpCode.Builtin o) (arguments_of (tree_at ts i)) ≡ tree_at ts i) where
  -- what is evaluated, and its arguments
  abbrev t : Tree
  t = entered ts s i

  abbrev args : Trees
  args = arguments_of t

  made : Op (OpCode.Builtin o) (put_all (standing ts s) (arguments_of (tree_at ts i))) ≡ t
  made = ap (put (standing ts s)) tree

  whole : Op (OpCode.Builtin o) args ≡ t
  whole = ap (Op (OpCode.Builtin o)) (sym (ap arguments_of made)) ∙ made

  count : {n : ℕ} → count_of (arguments_of (tree_at ts i)) ≡ n → count_of args ≡ n
  count {n} h = ap count_of (sym (ap arguments_of made)) ∙ (count_put (standing ts s) (arguments_of (tree_at ts i)) ∙ h)

  -- the first argument is evaluated first, where the definition says so
  first : (w : Wait) (us : Trees) → 0 < count_of (arguments_of (tree_at ts i)) → args ≡ us → (call : Call → Eval Tree) (c : Begun) → eval_with S call (Op (OpCode.Builtin o) us) c ≡ resume_with S call w (eval_with S call (other ts s i 0) c) → eval_with S call t c ≡ resume_with S call w (eval_with S call (entered ts s p) c)
  first w us some same call c h =
      ap (λ t. eval_with S call t c) (sym whole)
      ∙ (ap (λ us. eval_with S call (Op (OpCode.Builtin o) us) c) same ∙ (h ∙ ap (λ t. resume_with S call w (eval_with S call t c)) (sym (ap (put (standing ts s)) part ∙ sym (entered_other ts s i 0 some)))))

  pub choice_begins : OpName.Ite ≡ o → count_of (arguments_of (tree_at ts i)) ≡ 3 → Begins S most ts s i l (frame.Choice i l) p
  choice_begins is n =
      let step : (call : Call → Eval Tree) (c : Begun) → eval_with S call t c ≡ resume_with S call (Choice (other ts s i 1) (other ts s i 2)) (eval_with S call (entered ts s p) c) = λ call c.
      first (Choice (other ts s i 1) (other ts s i 2)) (More (other ts s i 0) (More (other ts s i 1) (More (other ts s i 2) NoTree))) (omega (arith, n)) (three args (count n)) call c (ap (λ o. eval_with S call (Op (OpCode.Builtin o) (More (other ts s i 0) (More (other ts s i 1) (More (other ts s i 2) NoTree)))) c) (sym is)) in
      record { node = refl; depth = refl; frame = (live, omega (arith, n)); live = low; waits = λ j c. step (call_within S most j) c; tells = λ c. step (call_within S most l) c }

  pub require_begins : OpName.Requires ≡ o → count_of (arguments_of (tree_at ts i)) ≡ 3 → Begins S most ts s i l (frame.RequireLeft i l) p
  require_begins is n =
      let step : (call : Call → Eval Tree) (c : Begun) → eval_with S call t c ≡ resume_with S call (RequireLeft (other ts s i 1) (other ts s i 2)) (eval_with S call (entered ts s p) c) = λ call c.
      first (RequireLeft (other ts s i 1) (other ts s i 2)) (More (other ts s i 0) (More (other ts s i 1) (More (other ts s i 2) NoTree))) (omega (arith, n)) (three args (count n)) call c (ap (λ o. eval_with S call (Op (OpCode.Builtin o) (More (other ts s i 0) (More (other ts s i 1) (More (other ts s i 2) NoTree)))) c) (sym is)) in
      record { node = refl; depth = refl; frame = (live, omega (arith, n)); live = low; waits = λ j c. step (call_within S most j) c; tells = λ c. step (call_within S most l) c }

  pub left_begins : OpName.IsEq ≡ o → count_of (arguments_of (tree_at ts i)) ≡ 2 → Begins S most ts s i l (frame.EqLeft i l) p
  left_begins is n =
      let step : (call : Call → Eval Tree) (c : Begun) → eval_with S call t c ≡ resume_with S call (EqLeft (other ts s i 1)) (eval_with S call (entered ts s p) c) = λ call c.
      first (EqLeft (other ts s i 1)) (More (other ts s i 0) (More (other ts s i 1) NoTree)) (omega (arith, n)) (two args (count n)) call c (ap (λ o. eval_with S call (Op (OpCode.Builtin o) (More (other ts s i 0) (More (other ts s i 1) NoTree))) c) (sym is)) in
      record { node = refl; depth = refl; frame = (live, omega (arith, n)); live = low; waits = λ j c. step (call_within S most j) c; tells = λ c. step (call_within S most l) c }

  pub tested_begins : OpName.IsOk ≡ o → count_of (arguments_of (tree_at ts i)) ≡ 1 → Begins S most ts s i l (frame.Tested i) p
  tested_begins is n =
      let step : (call : Call → Eval Tree) (c : Begun) → eval_with S call t c ≡ resume_with S call Tested (eval_with S call (entered ts s p) c) = λ call c.
      first Tested (More (other ts s i 0) NoTree) (omega (arith, n)) (one args (count n)) call c (ap (λ o. eval_with S call (Op (OpCode.Builtin o) (More (other ts s i 0) NoTree)) c) (sym is)) in
      record { node = refl; depth = refl; frame = live; live = low; waits = λ j c. step (call_within S most j) c; tells = λ c. step (call_within S most l) c }

-- Any other operator has its value from those of all its arguments.

pub strict_other : (o : OpName) → o ≢ OpName.Ite → o ≢ OpName.Requires → o ≢ OpName.IsEq → o ≢ OpName.IsOk → is_strict o ≡ true
strict_other OpName.Ite a b c d = absurd (a refl)
strict_other OpName.Requires a b c d = absurd (b refl)
strict_other OpName.IsEq a b c d = absurd (c refl)
strict_other OpName.IsOk a b c d = absurd (d refl)
strict_other o a b c d = refl
