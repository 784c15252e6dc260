-- A call begins.
use Rattle.std.specs.Prelude.{◌≡◌, ℕ, suc, Bool, true, false, nat_lt, if◌then◌else◌, [], ◌∷◌, ◌++◌, length, refl}
use Rattle.std.specs.List.{list_any}
use Rattle.std.proofs.Common.{ap}
use Rattle.eo_term.specs.Tree.{Tree}
use Rattle.eo_sig.specs.Signature.{Signature}
use Rattle.eo_stack.specs.Evaluation.{Value, Calls, Call, call_eq, Begun, Ended, on_value, on_body, body_of, eval}
use Rattle.eo_stack.specs.Machine.{calls, Covers}
use Rattle.eo_eval.proofs.Memory.{begin_gives}

module _ (S : Signature) (most : ℕ) (x : Call) (b : Begun) where
  abbrev after : Ended (Unit {0}) → (j : ℕ) → Ended Tree
  after r j = on_value r (λ _. on_body (body_of S x) (eval S most j))

  abbrev choose : Bool → Bool → Ended (Unit {0})
  choose known room = if known then (Value tt, b) else (if room then (Value tt, b ++ x ∷ []) else (Calls, b))

  -- one that was begun before
  pub call_again : (j : ℕ) → list_any (call_eq x) b ≡ true → calls S most x (suc j) b ≡ on_body (body_of S x) (eval S most j) b
  call_again j h = ap (λ k. after (choose k (nat_lt (length b) most)) j) h

  -- a new one
  pub call_new : (j : ℕ) → list_any (call_eq x) b ≡ false → nat_lt (length b) most ≡ true → calls S most x (suc j) b ≡ on_body (body_of S x) (eval S most j) (b ++ x ∷ [])
  call_new j h r = λ i. after (choose (h i) (r i)) j

  -- one for which there is no room
  pub call_full : (j : ℕ) → list_any (call_eq x) b ≡ false → nat_lt (length b) most ≡ false → calls S most x (suc j) b ≡ (Calls, b)
  call_full j h r = λ i. after (choose (h i) (r i)) j

  -- after a new one, what was begun is begun
  pub covers_new : list_any (call_eq x) b ≡ false → nat_lt (length b) most ≡ true → Covers (b ++ x ∷ []) b
  covers_new h r = (begin_gives most x b (b ++ x ∷ []) (Value tt) (λ i. choose (h i) (r i)) refl).0
