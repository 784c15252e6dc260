-- What waits, waits rightly after each turn.
use Rattle.std.specs.Prelude.{◌≡◌, ℕ, suc, ◌<◌, ◌≤◌, max, List, [], ◌∷◌, ◌++◌, length, refl}
use Rattle.std.proofs.Common.{sym, ◌∙◌, ap, arith}
use Rattle.eo_term.specs.Tree.{Tree}
use Rattle.eo_term.specs.Arguments.{count_of, argument_at}
use Rattle.eo_sig.specs.Signature.{Signature}
use Rattle.eo_stack.specs.Evaluation.{Outcome, Value, Deep, Call, Begun, call_within}
use Rattle.eo_stack.specs.Machine.{parts_of, Wait, Parts, Tail, rest_with, Family, Covers, Comes, Again, Frame, OfNode, OfCall, evals, calls, resume, finish, Stacked}
use Rattle.eo_stack.specs.Reading.{IsWhole, Given}
use Rattle.eo_eval.proofs.Steps.{next_part, onward, begins, called}

covers_same : (b : Begun) → Covers b b
covers_same b x h = h

module _ (S : Signature) (most : ℕ) (b : Begun) (ws : List Frame) where
  -- what comes so, comes as what is the same
  pub comes_same : (E F G : Family) (d : ℕ) → Comes E F d b → ((j : ℕ) (c : Begun) → F j c ≡ G j c) → Comes E G d b
  comes_same E F G d h same j c over = (λ below. (h j c over).0 below ∙ same j c, λ above. (h j c over).1 above)

  -- what is left of a node whose first parts have these values
  abbrev pub rest : Tree → List Tree → Family
  rest t vs j = rest_with S (call_within S most j) t vs

  -- a node of which no part has a value yet
  pub comes_whole : (t : Tree) → IsWhole t → Comes (evals S most t) (rest t []) 0 b
  comes_whole t whole j c over = (λ below. whole S (call_within S most j) c, λ above. absurd (none j above))
    where
      none : (n : ℕ) → n < 0 → ⊥
      none n z = omega arith

  -- one whose next part has a value at once
  pub rest_more : (t : Tree) (vs : List Tree) (v : Tree) → length vs < count_of (parts_of t) → ((j : ℕ) (c : Begun) → evals S most (argument_at (parts_of t) (length vs)) j c ≡ (Value v, c)) → (j : ℕ) (c : Begun) → rest t vs j c ≡ rest t (vs ++ v ∷ []) j c
  rest_more t vs v more h j c = next_part S (call_within S most j) t vs c more ∙ ap (resume S most j (Parts t vs)) (h j c)

  pub comes_more : (t : Tree) (vs : List Tree) (v : Tree) (d : ℕ) → Comes (evals S most t) (rest t vs) d b → length vs < count_of (parts_of t) → ((j : ℕ) (c : Begun) → evals S most (argument_at (parts_of t) (length vs)) j c ≡ (Value v, c)) → Comes (evals S most t) (rest t (vs ++ v ∷ [])) d b
  comes_more t vs v d comes more h = comes_same (evals S most t) (rest t vs) (rest t (vs ++ v ∷ [])) d comes (rest_more t vs v more h)

  -- one whose next part was waited for, and was given a value
  pub comes_given : (t : Tree) (vs : List Tree) (v : Tree) (d m k : ℕ) → Given S most b (OfNode t (Parts t vs) d k ∷ ws) (Value v) m → Comes (evals S most t) (rest t (vs ++ v ∷ [])) (max d m) b
  comes_given t vs v d m k g = onward S most (evals S most t) g.0 (rest t (vs ++ v ∷ [])) (Parts t vs) d m (Value v) b b g.1.0.0 (covers_same b) g.1.1 (λ j c. refl)

  -- one that waits for its next part
  pub next_waits : (t p : Tree) (vs : List Tree) → p ≡ argument_at (parts_of t) (length vs) → length vs < count_of (parts_of t) → (j : ℕ) (c : Begun) → rest t vs j c ≡ resume S most j (Parts t vs) (evals S most p j c)
  next_waits t p vs is more j c = next_part S (call_within S most j) t vs c more ∙ ap (λ q. resume S most j (Parts t vs) (evals S most q j c)) (sym is)

  pub waits_part : (t p : Tree) (vs : List Tree) (d k : ℕ) → Stacked S most b ws (evals S most t) → Comes (evals S most t) (rest t vs) d b → p ≡ argument_at (parts_of t) (length vs) → length vs < count_of (parts_of t) → Stacked S most b (OfNode t (Parts t vs) d k ∷ ws) (evals S most p)
  waits_part t p vs d k s comes is more =
      (comes_same (evals S most t) (rest t vs) (λ j c. resume S most j (Parts t vs) (evals S most p j c)) d comes (next_waits t p vs is more), s)

  -- one whose result is that of a call: it waits, and the call is what is evaluated
  pub waits_handed : (t : Tree) (vs : List Tree) (d k : ℕ) (x : Call) → Stacked S most b ws (evals S most t) → Comes (evals S most t) (rest t vs) d b → ((j : ℕ) (c : Begun) → rest t vs j c ≡ calls S most x j c) → Stacked S most b (OfNode t Tail d k ∷ ws) (calls S most x)
  waits_handed t vs d k x s comes h = (comes_same (evals S most t) (rest t vs) (calls S most x) d comes h, s)

  -- any other node that begins to wait
  pub waits_first : (t p : Tree) (w : Wait) (k : ℕ) → Stacked S most b ws (evals S most t) → ((j : ℕ) (c : Begun) → evals S most t j c ≡ resume S most j w (evals S most p j c)) → Stacked S most b (OfNode t w 0 k ∷ ws) (evals S most p)
  waits_first t p w k s h = (begins S most t (evals S most p) w b h, s)

  -- a part that is done, after which another one is waited for, in this way
  pub waits_on : (t p : Tree) (w u : Wait) (d m k l : ℕ) (o : Outcome Tree) → Given S most b (OfNode t w d k ∷ ws) o m → ((j : ℕ) (c : Begun) → resume S most j w (o, c) ≡ resume S most j u (evals S most p j c)) → Stacked S most b (OfNode t u (max d m) l ∷ ws) (evals S most p)
  waits_on t p w u d m k l o g h =
      (onward S most (evals S most t) g.0 (λ j c. resume S most j u (evals S most p j c)) w d m o b b g.1.0.0 (covers_same b) g.1.1 h, g.1.0.1)

  -- a node that is done
  pub waits_done : (t : Tree) (w : Wait) (d m k : ℕ) (o r : Outcome Tree) → Given S most b (OfNode t w d k ∷ ws) o m → ((j : ℕ) (c : Begun) → resume S most j w (o, c) ≡ (r, c)) → Given S most b ws r (max d m)
  waits_done t w d m k o r g h =
      (evals S most t, (g.1.0.1, onward S most (evals S most t) g.0 (λ j c. (r, c)) w d m o b b g.1.0.0 (covers_same b) g.1.1 h))

  -- and what it ended with comes again
  pub again_done : (t : Tree) (w : Wait) (d m k : ℕ) (o r : Outcome Tree) → Given S most b (OfNode t w d k ∷ ws) o m → ((j : ℕ) (c : Begun) → resume S most j w (o, c) ≡ (r, c)) → Again (evals S most t) r (max d m) b
  again_done t w d m k o r g h = onward S most (evals S most t) g.0 (λ j c. (r, c)) w d m o b b g.1.0.0 (covers_same b) g.1.1 h

  -- a call that is done
  pub waits_called : (x : Call) (body : Tree) (o : Outcome Tree) (m : ℕ) → Given S most b (OfCall x body ∷ ws) o m → Given S most b ws o (suc m)
  waits_called x body o m g =
      (calls S most x, (g.1.0.1.1.1, called S most x body g.0 o m b b g.1.0.0 g.1.0.1.0.0 (covers_same b) g.1.0.1.0.1 g.1.0.1.1.0 g.1.1))

  pub again_called : (x : Call) (body : Tree) (o : Outcome Tree) (m : ℕ) → Given S most b (OfCall x body ∷ ws) o m → Again (calls S most x) o (suc m) b
  again_called x body o m g = called S most x body g.0 o m b b g.1.0.0 g.1.0.1.0.0 (covers_same b) g.1.0.1.0.1 g.1.0.1.1.0 g.1.1

  -- What is remembered is used.
  pub recalled : (F : Family) (o : Outcome Tree) (m : ℕ) → Stacked S most b ws F → Again F o m b → Given S most b ws o m
  recalled F o m s again = (F, (s, again))

  pub recalled_low : (F : Family) (o : Outcome Tree) (m k : ℕ) → Again F o m b → m ≤ k → finish S most ws (F k b) ≡ finish S most ws (o, b)
  recalled_low F o m k again low = ap (finish S most ws) ((again k b (covers_same b)).0 low)

  pub recalled_deep : (F : Family) (o : Outcome Tree) (m k : ℕ) → Again F o m b → k < m → finish S most ws (F k b) ≡ finish S most ws (Deep, b)
  recalled_deep F o m k again deep = ap (finish S most ws) ((again k b (covers_same b)).1 deep)
