-- What ends all at once, and the beginning.
use Rattle.std.specs.Prelude.{◌≡◌, ℕ, ◌<◌, All, List, [], length, reverse, refl}
use Rattle.std.proofs.Common.{sym, ◌∙◌, ap, subst, arith}
use Rattle.std.proofs.Math.Path.{transport}
use Rattle.std.proofs.lemmas.List.Elements.{All-nil}
use Rattle.eo_base.specs.Limits.{calls_limit, open_calls_limit}
use Rattle.eo_term.specs.Terms.{Terms, tree_at}
use Rattle.eo_term.specs.Tree.{Tree}
use Rattle.eo_sig.specs.Reading.{Kept, signature}
use Rattle.eo_sig.specs.Signature.{Signature}
use Rattle.eo_sig.specs.Usable.{IsUsable}
use Rattle.eo_type.specs.Known.{Fit}
use Rattle.eo_stack.specs.Evaluation.{Deep, Calls, Range, Tall, Ended, eval}
use Rattle.eo_stack.specs.Machine.{evals, calls}
use Rattle.eo_stack.specs.Reading.{waiting, told, begun, read_call, IsFrame, IsPlaced, IsKnown, IsLocal, Remembers}
use Rattle.eo_eval.specs.Ready.{IsFresh, Ready, Stands, outcome_from}
use Rattle.eo_stack.specs.Scopes.{none_bound, IsValueSlot}
use Rattle.eo_stack.specs.declared.calls.CallKey.{CallKey}
use Rattle.eo_stack.specs.declared.calls.LocalKey.{LocalKey}
use Rattle.eo_eval.specs.declared.machine.Machine.{Machine}
use Rattle.eo_stack.specs.declared.stack.CallMemo as code_memo
use Rattle.eo_stack.specs.declared.stack.Control.TheVariants as next
use Rattle.eo_eval.proofs.Entered.{entered_none}
use Rattle.eo_eval.proofs.Steps.{finish_stops}

-- what ends all at once
pub told_deep : (k : Kept) (t : Terms) (e : Machine) → (outcome_from k t e next.Deep).0 ≡ Deep
told_deep k t e = ap (λ (r : Ended Tree). r.0) (finish_stops (signature t.trees k) calls_limit (waiting t.trees (begun t.trees e.calls.entries) e.scope (reverse e.stack.frames.items) e.stack.values.items) Deep (begun t.trees e.calls.entries) refl)

pub told_calls : (k : Kept) (t : Terms) (e : Machine) → (outcome_from k t e next.Calls).0 ≡ Calls
told_calls k t e = ap (λ (r : Ended Tree). r.0) (finish_stops (signature t.trees k) calls_limit (waiting t.trees (begun t.trees e.calls.entries) e.scope (reverse e.stack.frames.items) e.stack.values.items) Calls (begun t.trees e.calls.entries) refl)

pub told_range : (k : Kept) (t : Terms) (e : Machine) → (outcome_from k t e next.Range).0 ≡ Range
told_range k t e = ap (λ (r : Ended Tree). r.0) (finish_stops (signature t.trees k) calls_limit (waiting t.trees (begun t.trees e.calls.entries) e.scope (reverse e.stack.frames.items) e.stack.values.items) Range (begun t.trees e.calls.entries) refl)

pub told_tall : (k : Kept) (t : Terms) (e : Machine) → (outcome_from k t e next.Tall).0 ≡ Tall
told_tall k t e = ap (λ (r : Ended Tree). r.0) (finish_stops (signature t.trees k) calls_limit (waiting t.trees (begun t.trees e.calls.entries) e.scope (reverse e.stack.frames.items) e.stack.values.items) Tall (begun t.trees e.calls.entries) refl)

-- The beginning.

pub limit_is : 1_000_000 ≡ open_calls_limit
unfolding open_calls_limit
limit_is = refl

pub first_told : (n : ℕ) → n ≡ open_calls_limit → (k : Kept) (t : Terms) (e : Machine) (id : ℕ) → e.stack.frames.items ≡ [] → e.stack.values.items ≡ [] → e.scope ≡ none_bound → e.calls.entries ≡ [] → outcome_from k t e (next.Eval id n) ≡ eval (signature t.trees k) calls_limit open_calls_limit (tree_at t.trees id) []
first_told n limit k t e id fs vs scope cs =
    (λ i. told (signature t.trees k) calls_limit t.trees (begun t.trees (cs i)) (scope i) (fs i) (vs i) (next.Eval id n))
    ∙ (ap (λ t'. eval (signature t.trees k) calls_limit n t' []) (entered_none t.trees id) ∙ ap (λ m. eval (signature t.trees k) calls_limit m (tree_at t.trees id) []) limit)

remembers_none : (S : Signature) (most : ℕ) (ts : List Tree) (cs : List (CallKey × code_memo.CallMemo)) (es : List (ℕ × code_memo.CallMemo)) (ls : List (LocalKey × code_memo.CallMemo)) → cs ≡ [] → es ≡ [] → ls ≡ [] → Remembers S most ts cs es ls
remembers_none S most ts cs es ls p q r =
    let c = sym p in
    let m = sym q in
    let l = sym r in
    transport (λ i. Remembers S most ts (c i) (m i) (l i))
    (record { calls = All-nil (λ e. IsKnown ts [] (calls S most (read_call ts e.0)) e.1); terms = All-nil (λ e. (e.0 < length ts) × IsKnown ts [] (evals S most (tree_at ts e.0)) e.1); locals = All-nil (IsLocal S most ts []) })

pub first_ready : (n : ℕ) (k : Kept) (t : Terms) (typed : List (ℕ × ℕ)) (e : Machine) (id : ℕ) → IsFresh e → IsUsable (signature t.trees k) → Fit k t typed → id < length t.trees → Ready k t typed e (next.Eval id n)
first_ready n k t typed e id fresh usable fit live =
    let S = signature t.trees k in
    let fs = sym fresh.frames in
    let vs = sym fresh.values in
    let scope = sym fresh.scope in
    let cs = sym fresh.calls in
    record {
      held = record {
        usable = usable;
        fit = fit;
        keys_live = subst (All (λ (c : CallKey × code_memo.CallMemo). All (λ i. i < length t.trees) c.0.args)) cs (All-nil (λ (c : CallKey × code_memo.CallMemo). All (λ i. i < length t.trees) c.0.args));
        remembers = remembers_none S calls_limit t.trees e.calls.entries e.terms.entries e.locals.entries fresh.calls fresh.terms fresh.locals;
      };
      stands = transport (λ i. Stands S calls_limit t.trees (begun t.trees (cs i)) (scope i) (fs i) (vs i) (next.Eval id n))
          (record {
            now_live = live;
            frames_live = All-nil (IsFrame t.trees);
            placed = All-nil (IsPlaced 0);
            values_live = All-nil (λ i. i < length t.trees);
            slots_live = All-nil (IsValueSlot t.trees);
            scoped = record { begun = omega arith; agrees = refl };
            based = tt;
            waits = tt;
          });
    }
