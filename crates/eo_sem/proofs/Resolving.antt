-- What resolution gives is true where both clauses are.
use Rattle.std.specs.Prelude.{◌≡◌, ℕ, true, List, [], ◌∷◌}
use Rattle.std.proofs.Common.{sym, ◌∙◌, ap, subst}
use Rattle.eo_term.specs.Tree.{Tree, NoTree, More, is_plain}
use Rattle.eo_sig.specs.Signature.{Signature}
use Rattle.eo_stack.specs.Evaluation.{Call, Eval, eval_with, eval_all_with, call_within}
use Rattle.eo_sem.specs.Building.{call}
use Rattle.eo_sem.specs.Truth.{Valuation}
use Rattle.eo_eval.proofs.Yields.{Yields, bind_yields}
use Rattle.eo_sem.proofs.Plain.{plain_yields}
use Rattle.eo_sem.proofs.Operators.{Nothing, First, none_yield, more_yield}
use Rattle.eo_sem.proofs.Programs.{HasClauses, IsAsTrue, IsResolvent, cl_yields, uncl_yields, rl_yields}

weaker : (F : Eval Tree) (P Q : Tree → Type 0) → ((v : Tree) → P v → Q v) → Yields F P → Yields F Q
weaker F P Q f y c v d e = f v (y c v d e)

module _ (full : Signature) (V : Valuation) (S : Signature) (has : HasClauses S) (most open_left : ℕ) where
  abbrev calls : Call → Eval Tree
  calls = call_within S most open_left

  abbrev Same : Tree → Tree → Type 0
  Same c v = v ≡ c

  abbrev of_program : ℕ → List Tree → Call
  of_program p vs = record { program = p; arguments = vs }

  cl_of : (c : Tree) → is_plain c ≡ true → (vs : List Tree) → First (Same c) Nothing vs → Yields (calls (of_program 0 vs)) (IsAsTrue full V c)
  cl_of c plain (v ∷ []) h =
      subst (λ (x : Tree). Yields (calls (of_program 0 (x ∷ []))) (IsAsTrue full V c)) (sym h.0) (cl_yields full V S has most open_left c plain)
  cl_of c plain (v ∷ w ∷ vs) h = absurd h.1
  cl_of c plain [] h = absurd h

  cl_part : (c : Tree) → is_plain c ≡ true → Yields (eval_with S calls (call 0 (c ∷ []))) (IsAsTrue full V c)
  cl_part c plain =
      bind_yields (eval_all_with S calls (More c NoTree)) (λ vs. calls (of_program 0 vs)) (First (Same c) Nothing) (IsAsTrue full V c)
      (more_yield S calls (Same c) Nothing c NoTree (plain_yields S calls c plain) (none_yield S calls)) (cl_of c plain)

  abbrev Clauses : (c d p l : Tree) → List Tree → Type 0
  Clauses c d p l = First (IsAsTrue full V c) (First (IsAsTrue full V d) (First (Same p) (First (Same l) Nothing)))

  rl_of : (c d p l : Tree) → is_plain l ≡ true → (vs : List Tree) → Clauses c d p l vs → Yields (calls (of_program 5 vs)) (IsResolvent full V c d)
  rl_of c d p l plain (a ∷ b ∷ q ∷ m ∷ []) h =
      weaker (calls (of_program 5 (a ∷ b ∷ q ∷ m ∷ []))) (IsResolvent full V a b) (IsResolvent full V c d)
      (λ v r. record { plain = r.plain; truth = λ x y. r.truth (h.0.truth ∙ x) (h.1.0.truth ∙ y) })
      (rl_yields full V S has most open_left a b q m h.0.plain h.1.0.plain (ap is_plain h.1.1.1.0 ∙ plain))
  rl_of c d p l plain (a ∷ b ∷ q ∷ m ∷ v ∷ vs) h = absurd h.1.1.1.1
  rl_of c d p l plain (a ∷ b ∷ q ∷ []) h = absurd h.1.1.1
  rl_of c d p l plain (a ∷ b ∷ []) h = absurd h.1.1
  rl_of c d p l plain (a ∷ []) h = absurd h.1
  rl_of c d p l plain [] h = absurd h

  abbrev joined_clauses : (c d p l : Tree) → Tree
  joined_clauses c d p l = call 5 (call 0 (c ∷ []) ∷ call 0 (d ∷ []) ∷ p ∷ l ∷ [])

  rl_part : (c d p l : Tree) → is_plain c ≡ true → is_plain d ≡ true → is_plain p ≡ true → is_plain l ≡ true → Yields (eval_with S calls (joined_clauses c d p l)) (IsResolvent full V c d)
  rl_part c d p l pc pd pp pl =
      bind_yields (eval_all_with S calls (More (call 0 (c ∷ [])) (More (call 0 (d ∷ [])) (More p (More l NoTree))))) (λ vs. calls (of_program 5 vs)) (Clauses c d p l) (IsResolvent full V c d)
      (more_yield S calls (IsAsTrue full V c) (First (IsAsTrue full V d) (First (Same p) (First (Same l) Nothing))) (call 0 (c ∷ [])) (More (call 0 (d ∷ [])) (More p (More l NoTree))) (cl_part c pc)
      (more_yield S calls (IsAsTrue full V d) (First (Same p) (First (Same l) Nothing)) (call 0 (d ∷ [])) (More p (More l NoTree)) (cl_part d pd)
      (more_yield S calls (Same p) (First (Same l) Nothing) p (More l NoTree) (plain_yields S calls p pp)
      (more_yield S calls (Same l) Nothing l NoTree (plain_yields S calls l pl) (none_yield S calls)))))
      (rl_of c d p l pl)

  uncl_of : (c d : Tree) (vs : List Tree) → First (IsResolvent full V c d) Nothing vs → Yields (calls (of_program 1 vs)) (IsResolvent full V c d)
  uncl_of c d (v ∷ []) h =
      weaker (calls (of_program 1 (v ∷ []))) (IsAsTrue full V v) (IsResolvent full V c d)
      (λ u r. record { plain = r.plain; truth = λ x y. r.truth ∙ h.0.truth x y }) (uncl_yields full V S has most open_left v h.0.plain)
  uncl_of c d (v ∷ w ∷ vs) h = absurd h.1
  uncl_of c d [] h = absurd h

  abbrev pub resolved : (c d p l : Tree) → Tree
  resolved c d p l = call 1 (joined_clauses c d p l ∷ [])

  pub resolved_yields : (c d p l : Tree) → is_plain c ≡ true → is_plain d ≡ true → is_plain p ≡ true → is_plain l ≡ true → Yields (eval_with S calls (resolved c d p l)) (IsResolvent full V c d)
  resolved_yields c d p l pc pd pp pl =
      bind_yields (eval_all_with S calls (More (joined_clauses c d p l) NoTree)) (λ vs. calls (of_program 1 vs)) (First (IsResolvent full V c d) Nothing) (IsResolvent full V c d)
      (more_yield S calls (IsResolvent full V c d) Nothing (joined_clauses c d p l) NoTree (rl_part c d p l pc pd pp pl) (none_yield S calls))
      (uncl_of c d)
