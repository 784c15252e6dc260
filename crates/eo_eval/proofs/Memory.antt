-- A call that was begun comes again: it leaves the calls begun as they are, and has one more inner depth than its body.
use Rattle.std.specs.Prelude.{◌≡◌, ℕ, zero, suc, ◌≤◌, Bool, true, false, nat_lt, if◌then◌else◌, [], ◌∷◌, ◌++◌, length, refl}
use Rattle.std.specs.List.{list_any}
use Rattle.std.proofs.Common.{sym, ◌∙◌, ap, subst, arith, true≢false, eq-eqb}
use Rattle.std.proofs.lemmas.List.Folds.{list_any-append}
use Rattle.eo_base.proofs.Tests.{join, or_first, or_second}
use Rattle.eo_term.specs.Tree.{Tree}
use Rattle.eo_term.proofs.Equality.{tree_list_decides}
use Rattle.eo_sig.specs.Signature.{Signature}
use Rattle.eo_stack.specs.Evaluation.{Outcome, Value, Stuck, Deep, Calls, Range, Tall, Call, call_eq, Begun, Ended, on_value, eval_with, begin, on_body, body_of, call_within}
use Rattle.eo_stack.specs.Machine.{IsBegun, Covers, Again}

abbrev is_done : {A : Type 0} → Outcome A → Bool
is_done (Value v) = true
is_done Stuck = true
is_done Deep = false
is_done Calls = false
is_done Range = false
is_done Tall = false

-- an outcome that is not done is no other's
not_done : {A : Type 0} {u o : Outcome A} {c d : Begun} → is_done u ≡ false → ◌≡◌ {A = Ended A} (u, c) (o, d) → is_done o ≡ true → ⊥
not_done {A} {u} {o} none e done = true≢false (sym done ∙ (sym (ap (λ (r : Outcome A × Begun). is_done r.0) e) ∙ none))

pub call_refl : (x : Call) → call_eq x x ≡ true
call_refl x = join (eq-eqb x.program x.program refl) ((tree_list_decides x.arguments x.arguments).1 refl)

-- a call that is among those begun leaves them as they are
begin_again : (most : ℕ) (x : Call) (c : Begun) → IsBegun c x → begin most x c ≡ (Value tt, c)
begin_again most x c h = ap (λ (b : Bool). if b then (Value tt, c) else (if nat_lt (length c) most then (Value tt, c ++ x ∷ []) else (Calls, c))) h

pub begin_gives : (most : ℕ) (x : Call) (c d : Begun) (o : Outcome (Unit {0})) → begin most x c ≡ (o, d) → is_done o ≡ true → Covers d c × IsBegun d x
begin_gives most x c d o e done = by_member (list_any (call_eq x) c) refl e
  where
    by_room : (r : Bool) → ◌≡◌ {A = Ended (Unit {0})} (if r then (Value tt, c ++ x ∷ []) else (Calls, c)) (o, d) → Covers d c × IsBegun d x
    by_room true q =
        let same : c ++ x ∷ [] ≡ d = ap (λ (r : Ended (Unit {0})). r.1) q in
        (λ y h. subst (λ (b : Begun). IsBegun b y) same (list_any-append (call_eq y) c (x ∷ []) ∙ or_first (list_any (call_eq y) c) (list_any (call_eq y) (x ∷ [])) h), subst (λ (b : Begun). IsBegun b x) same (list_any-append (call_eq x) c (x ∷ []) ∙ or_second (list_any (call_eq x) c) (list_any (call_eq x) (x ∷ [])) (or_first (call_eq x x) false (call_refl x))))
    by_room false q = absurd (not_done refl q done)

    by_member : (m : Bool) → list_any (call_eq x) c ≡ m → ◌≡◌ {A = Ended (Unit {0})} (if m then (Value tt, c) else (if nat_lt (length c) most then (Value tt, c ++ x ∷ []) else (Calls, c))) (o, d) → Covers d c × IsBegun d x
    by_member true p q =
        let same : c ≡ d = ap (λ (r : Ended (Unit {0})). r.1) q in
        (subst (λ (b : Begun). Covers b c) same (λ y h. h), subst (λ (b : Begun). IsBegun b x) same p)
    by_member false p q = by_room (nat_lt (length c) most) q

module _ (S : Signature) (most : ℕ) where
  -- a call has one more inner depth than its body
  pub steady_call : (x : Call) (o : Outcome Tree) (m : ℕ) (d : Begun) → IsBegun d x → Again (λ (k : ℕ). on_body (body_of S x) (eval_with S (call_within S most k))) o m d → Again (λ (k : ℕ). call_within S most k x) o (suc m) d
  steady_call x o m d begun body zero c h = (λ below. absurd (none (suc m) below), λ above. refl)
    where
      none : (y : ℕ) → suc m ≤ 0 → ⊥
      none y e = omega arith
  steady_call x o m d begun body (suc k) c h =
      (λ below. entered ∙ (body k c h).0 (omega arith), λ above. entered ∙ (body k c h).1 (omega arith))
    where
      entered : call_within S most (suc k) x c ≡ on_body (body_of S x) (eval_with S (call_within S most k)) c
      entered = ap (λ (r : Ended (Unit {0})). on_value r (λ _. on_body (body_of S x) (eval_with S (call_within S most k)))) (begin_again most x c (h x begun))
