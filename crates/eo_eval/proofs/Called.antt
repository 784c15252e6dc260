-- A call gets the result of its body, and is remembered.
use Rattle.std.specs.Prelude.{◌≡◌, ℕ, zero, suc, ◌<◌, All, List, [], ◌∷◌, ◌++◌, length, reverse, take, slice_get, Some, refl}
use Rattle.std.proofs.Common.{sym, ◌∙◌, ap, subst}
use Rattle.std.proofs.lemmas.List.{reverse-append}
use Rattle.std.proofs.lemmas.List.Elements.{All-head, All-tail, All-cons, All-pop, All-take}
use Rattle.std.proofs.lemmas.Option.{none-some, same_Some}
use Rattle.indexmap.specs.Layout.{set_value_at}
use Rattle.eo_base.specs.Limits.{calls_limit}
use Rattle.eo_term.specs.Tree.{Tree}
use Rattle.eo_term.specs.Terms.{Terms, tree_at}
use Rattle.eo_sig.specs.Reading.{Kept, signature}
use Rattle.eo_sig.specs.Signature.{Signature}
use Rattle.eo_stack.specs.Evaluation.{Value, Stuck, Call, Begun}
use Rattle.eo_stack.specs.Machine.{Frame, OfCall, evals, calls, finish}
use Rattle.eo_stack.specs.Reading.{waiting, told, Waits, call_at, read_call, begun, IsKnown, IsLocal, Remembers, Scoped, IsFrame, IsPlaced, IsResult, depth_of, deeper, memo_of, ControlBelow}
use Rattle.eo_eval.specs.Ready.{Based, Stands, Ready, PoppedReady, outcome_from, outcome_of_frame}
use Rattle.std.proofs.Math.Path.{transport}
use Rattle.eo_stack.specs.Scopes.{Bound, entered, outer, IsValueSlot}
use Rattle.eo_stack.specs.declared.calls.CallKey.{CallKey}
use Rattle.eo_stack.specs.declared.calls.LocalKey.{LocalKey}
use Rattle.eo_eval.specs.declared.machine.Machine.{Machine}
use Rattle.eo_stack.specs.declared.stack.Frame as code_frame
use Rattle.eo_stack.specs.declared.stack.Frame.TheVariants as frame
use Rattle.eo_stack.specs.declared.stack.CallMemo as code_memo
use Rattle.eo_stack.specs.declared.stack.Control as code_control
use Rattle.eo_stack.specs.declared.stack.Control.TheVariants as next
use Rattle.eo_eval.proofs.Waiting.{waits_called, again_called}

abbrev Entry : Type 0
Entry = CallKey × code_memo.CallMemo

pub begun_set : (ts : List Tree) (es : List Entry) (i : ℕ) (v : code_memo.CallMemo) → begun ts (set_value_at es i v) ≡ begun ts es
begun_set ts [] i v = refl
begun_set ts (e ∷ es) zero v = refl
begun_set ts (e ∷ es) (suc i) v = ap (λ cs. read_call ts e.0 ∷ cs) (begun_set ts es i v)

all_set : (P : Entry → Type 0) (es : List Entry) (i : ℕ) (v : code_memo.CallMemo) → All P es → ((e : Entry) → slice_get es i ≡ Some e → P (e.0, v)) → All P (set_value_at es i v)
all_set P [] i v h p = h
all_set P (e ∷ es) zero v h p = All-cons P (e.0, v) es (p e refl) (All-tail P e es h)
all_set P (e ∷ es) (suc i) v h p = All-cons P e (set_value_at es i v) (All-head P e es h) (all_set P es i v (All-tail P e es h) p)

pub keys_set : (P : CallKey → Type 0) (es : List Entry) (i : ℕ) (v : code_memo.CallMemo) → All (λ (e : Entry). P e.0) es → All (λ (e : Entry). P e.0) (set_value_at es i v)
keys_set P [] i v h = h
keys_set P (e ∷ es) zero v h = All-cons (λ (e : Entry). P e.0) (e.0, v) es (All-head (λ (e : Entry). P e.0) e es h) (All-tail (λ (e : Entry). P e.0) e es h)
keys_set P (e ∷ es) (suc i) v h = All-cons (λ (e : Entry). P e.0) e (set_value_at es i v) (All-head (λ (e : Entry). P e.0) e es h) (keys_set P es i v (All-tail (λ (e : Entry). P e.0) e es h))

pub call_read : (ts : List Tree) (es : List Entry) (i : ℕ) (e : Entry) → slice_get es i ≡ Some e → call_at (begun ts es) i ≡ read_call ts e.0
call_read ts [] i e h = absurd (none-some e h)
call_read ts (x ∷ es) zero e h = ap (λ (y : Entry). read_call ts y.0) (same_Some x e h)
call_read ts (x ∷ es) (suc i) e h = call_read ts es i e h

-- what is kept of the call at a place is right where it is right of that call
pub remembers_put : (S : Signature) (most : ℕ) (ts : List Tree) (cs : List Entry) (es : List (ℕ × code_memo.CallMemo)) (ls : List (LocalKey × code_memo.CallMemo)) (i : ℕ) (v : code_memo.CallMemo) → Remembers S most ts cs es ls → IsKnown ts (begun ts cs) (calls S most (call_at (begun ts cs) i)) v → Remembers S most ts (set_value_at cs i v) es ls
remembers_put S most ts cs es ls i v h known =
    let C : Begun → Entry → Type 0 = λ b c. IsKnown ts b (calls S most (read_call ts c.0)) c.1 in
    let T : Begun → ℕ × code_memo.CallMemo → Type 0 = λ b c. (c.0 < length ts) × IsKnown ts b (evals S most (tree_at ts c.0)) c.1 in
    let b = begun ts cs in
    let same = sym (begun_set ts cs i v) in
    record {
      calls = subst (λ b. All (C b) (set_value_at cs i v)) same (all_set (C b) cs i v h.calls (λ c at. subst (λ x. IsKnown ts b (calls S most x) v) (call_read ts cs i c at) known));
      terms = subst (λ b. All (T b) es) same h.terms;
      locals = subst (λ b. All (IsLocal S most ts b) ls) same h.locals;
    }

-- of fewer terms in bodies
pub remembers_fewer : (S : Signature) (most : ℕ) (ts : List Tree) (cs : List Entry) (es : List (ℕ × code_memo.CallMemo)) (ls : List (LocalKey × code_memo.CallMemo)) (n : ℕ) → Remembers S most ts cs es ls → Remembers S most ts cs es (take n ls)
remembers_fewer S most ts cs es ls n h = record { calls = h.calls; terms = h.terms; locals = All-take (IsLocal S most ts (begun ts cs)) n ls h.locals }

module _ (S : Signature) (most : ℕ) (ts : List Tree) (b : Begun) (scope : Bound) (fs : List code_frame.Frame) (vs : List ℕ) (place body base here kept : ℕ) where
  abbrev f : code_frame.Frame
  f = frame.Body place body base here kept

  abbrev before : Bound
  before = outer scope base here

  abbrev ws : List Frame
  ws = waiting ts b before (reverse fs) vs

  abbrev x : Call
  x = call_at b place

  top : f ∷ reverse fs ≡ reverse (fs ++ f ∷ [])
  top = sym (reverse-append fs (f ∷ []))

  popped : (now : code_control.Control) → Stands S most ts b scope (fs ++ f ∷ []) vs now → Waits S most ts b scope (OfCall x (entered ts scope body) ∷ ws) now
  popped now s = subst (λ gs. Waits S most ts b scope (waiting ts b scope gs vs) now) (sym top) s.waits

  pub call_told : (now : code_control.Control) (e : ℕ) → IsResult now → told S most ts b before fs vs (deeper now e) ≡ told S most ts b scope (fs ++ f ∷ []) vs now
  call_told (next.Value i d) e r = ap (λ gs. finish S most (waiting ts b scope gs vs) (Value (tree_at ts i), b)) top
  call_told (next.Stuck d) e r = ap (λ gs. finish S most (waiting ts b scope gs vs) (Stuck, b)) top
  call_told (next.Eval i k) e r = absurd r
  call_told next.Deep e r = absurd r
  call_told next.Calls e r = absurd r
  call_told next.Range e r = absurd r
  call_told next.Tall e r = absurd r

  pub call_known : (now : code_control.Control) → IsResult now → Stands S most ts b scope (fs ++ f ∷ []) vs now → IsKnown ts b (calls S most x) (memo_of now (suc (depth_of now)))
  call_known (next.Value i d) r s = (s.now_live, again_called S most b ws x (entered ts scope body) (Value (tree_at ts i)) d (popped (next.Value i d) s))
  call_known (next.Stuck d) r s = again_called S most b ws x (entered ts scope body) Stuck d (popped (next.Stuck d) s)
  call_known (next.Eval i k) r s = absurd r
  call_known next.Deep r s = absurd r
  call_known next.Calls r s = absurd r
  call_known next.Range r s = absurd r
  call_known next.Tall r s = absurd r

  scoped_after : Scoped S ts b scope (reverse (fs ++ f ∷ [])) → Scoped S ts b before (reverse fs)
  scoped_after h = (subst (Scoped S ts b scope) (sym top) h).1

  after : (now : code_control.Control) → Stands S most ts b scope (fs ++ f ∷ []) vs now → (n : code_control.Control) → ControlBelow (length ts) n → Waits S most ts b before ws n → Stands S most ts b before fs vs n
  after now s n live waits = record {
    now_live = live;
    frames_live = (All-pop (IsFrame ts) (fs ++ f ∷ []) fs (Some f) refl s.frames_live).0;
    placed = (All-pop (IsPlaced (length b)) (fs ++ f ∷ []) fs (Some f) refl s.placed).0;
    values_live = s.values_live;
    slots_live = All-take (IsValueSlot ts) scope.base scope.slots s.slots_live;
    scoped = scoped_after s.scoped;
    based = subst (λ gs. Based ts gs vs) (sym top) s.based;
    waits = waits;
  }

  pub call_stands : (now : code_control.Control) → IsResult now → Stands S most ts b scope (fs ++ f ∷ []) vs now → Stands S most ts b before fs vs (deeper now (suc (depth_of now)))
  call_stands (next.Value i d) r s = after (next.Value i d) s (next.Value i (suc d)) s.now_live (waits_called S most b ws x (entered ts scope body) (Value (tree_at ts i)) d (popped (next.Value i d) s))
  call_stands (next.Stuck d) r s = after (next.Stuck d) s (next.Stuck (suc d)) tt (waits_called S most b ws x (entered ts scope body) Stuck d (popped (next.Stuck d) s))
  call_stands (next.Eval i k) r s = absurd r
  call_stands next.Deep r s = absurd r
  call_stands next.Calls r s = absurd r
  call_stands next.Range r s = absurd r
  call_stands next.Tall r s = absurd r

-- The same of machines.
module _ (k : Kept) (t : Terms) (typed : List (ℕ × ℕ)) (e later : Machine) (place body base here kept : ℕ) (now n : code_control.Control) (v : code_memo.CallMemo) (result : IsResult now)
    (fs : later.stack.frames.items ≡ e.stack.frames.items) (vs : later.stack.values.items ≡ e.stack.values.items) (scope : later.scope ≡ outer e.scope base here) (cs : later.calls.entries ≡ set_value_at e.calls.entries place v) where
  abbrev sig : Signature
  sig = signature t.trees k

  abbrev b : Begun
  b = begun t.trees e.calls.entries

  same_begun : begun t.trees later.calls.entries ≡ b
  same_begun = ap (begun t.trees) cs ∙ begun_set t.trees e.calls.entries place v

  pub ended_call_told : (d : ℕ) → n ≡ deeper now d → outcome_from k t later n ≡ outcome_of_frame k t e (frame.Body place body base here kept) now
  ended_call_told d same =
      (λ i. told sig calls_limit t.trees (same_begun i) (scope i) (fs i) (vs i) (same i)) ∙ call_told sig calls_limit t.trees b e.scope e.stack.frames.items e.stack.values.items place body base here kept now d result

  module _ (es : later.terms.entries ≡ e.terms.entries) (ls : later.locals.entries ≡ take kept e.locals.entries) where
    remembers_set : PoppedReady k t typed e (frame.Body place body base here kept) now → v ≡ memo_of now (suc (depth_of now)) → Remembers sig calls_limit t.trees later.calls.entries later.terms.entries later.locals.entries
    remembers_set r is =
        let c = sym cs in
        let m = sym es in
        let l = sym ls in
        transport (λ i. Remembers sig calls_limit t.trees (c i) (m i) (l i))
        (remembers_fewer sig calls_limit t.trees (set_value_at e.calls.entries place v) e.terms.entries e.locals.entries kept
        (remembers_put sig calls_limit t.trees e.calls.entries e.terms.entries e.locals.entries place v r.held.remembers
        (subst (IsKnown t.trees b (calls sig calls_limit (call_at b place))) (sym is) (call_known sig calls_limit t.trees b e.scope e.stack.frames.items e.stack.values.items place body base here kept now result r.stands))))

    pub ended_call_ready : n ≡ deeper now (suc (depth_of now)) → v ≡ memo_of now (suc (depth_of now)) → PoppedReady k t typed e (frame.Body place body base here kept) now → Ready k t typed later n
    ended_call_ready same is r =
        let q = sym same_begun in
        let f = sym fs in
        let u = sym vs in
        let s = sym scope in
        let m = sym same in
        record {
          held = record {
            usable = r.held.usable;
            fit = r.held.fit;
            keys_live = subst (All (λ (c : Entry). All (λ i. i < length t.trees) c.0.args)) (sym cs) (keys_set (λ c. All (λ i. i < length t.trees) c.args) e.calls.entries place v r.held.keys_live);
            remembers = remembers_set r is;
          };
          stands = transport (λ i. Stands sig calls_limit t.trees (q i) (s i) (f i) (u i) (m i)) (call_stands sig calls_limit t.trees b e.scope e.stack.frames.items e.stack.values.items place body base here kept now result r.stands);
        }
